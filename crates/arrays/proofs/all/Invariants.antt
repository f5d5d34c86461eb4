-- Part after part, by the walk's laws.
use Rattle.std.proofs.Common.{◌*◌, length, min}
use mathlib.Core.List.{map}
use Rattle.method.specs.Kinds.{number_of}
use Rattle.asking.specs.Asked.{method_by}
use Rattle.reading.specs.Left.{settled_by}
use Rattle.loops.specs.Tallies.{totals_of}
use Rattle.loops.specs.Walk.{stays}
use Rattle.loops.proofs.Walks.{Walk}
use Rattle.arrays.proofs.all.Given as goal

abbrev pub invariant-loop-part : goal.invariant-loop-part
invariant-loop-part g l =
    let m = g.W.Word in
    Walk stays (λ s w. settled_by m.FRACTION m.EXPONENT (method_by (number_of l.job.method) l.job.n) (m.value l.mark) 0 w) 0 (map m.value l.initial.readings) (map m.value l.readings) (totals_of l.totals) 0 (min (l.part * 65536) (length l.initial.readings))
