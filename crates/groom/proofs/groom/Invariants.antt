use mathlib.Core.List.{map}
use Prim.Native.Nat.{min, ◌*◌}
use lib.ListN.{length}
use Rattle.reading.specs.Left.{settled_tail}
use Rattle.loops.specs.Tallies.{totals_of}
use Rattle.loops.specs.Methods.{Filling, filling_after}
use Rattle.loops.proofs.Walks.{Walk}
use Rattle.groom.proofs.groom.Given as goal

-- Block after block, by the walk's laws.
abbrev pub invariant-loop-b : goal.invariant-loop-b
invariant-loop-b g l =
    let value = g.W.Word.value in
    let F = g.W.Word.FRACTION in
    let X = g.W.Word.EXPONENT in
    Walk (filling_after F X (value l.fn.tail.ones) (value l.mark)) (λ s w. settled_tail F X l.fn.tail.bits s (value l.mark) w) (value l.fn.first) (map value l.fn.readings) (map value l.readings)
    (totals_of l.sums) (value l.add) (min (l.b * 16384) (length l.fn.readings))
    × Filling (value l.fn.tail.ones) (value l.add)
