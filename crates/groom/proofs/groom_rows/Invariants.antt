use mathlib.Core.Path.{◌≡◌}
use mathlib.Core.List.{map}
use Prim.Native.Nat.{min, ◌*◌}
use lib.ListN.{length, drop}
use Rattle.reading.specs.Left.{settled_tail}
use Rattle.loops.specs.Tallies.{totals_of}
use Rattle.loops.specs.Methods.{Filling, filling_after}
use Rattle.loops.proofs.Walks.{Walk}
use Rattle.groom.proofs.groom_rows.Given as goal

-- Row after row, by the walk's laws; each row's fillings are those of its turns.
abbrev pub invariant-loop-r : goal.invariant-loop-r
invariant-loop-r g l =
    let value = g.W.Word.value in
    let F = g.W.Word.FRACTION in
    let X = g.W.Word.EXPONENT in
    let ws = map value l.fn.block in
    let done = min (l.r * 512) (length l.fn.block) in
    Walk (filling_after F X (value l.fn.tail.ones) (value l.mark)) (λ s w. settled_tail F X l.fn.tail.bits s (value l.mark) w) (value l.fn.first) ws (map value l.block) (totals_of l.sums) (value l.add) done
    × Filling (value l.fn.tail.ones) (value l.add) × (drop done (map value l.block) ≡ drop done ws)
