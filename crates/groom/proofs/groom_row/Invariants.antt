use Prim.Native.Nat.{suc}
use mathlib.Core.List.{map}
use Rattle.reading.specs.Left.{settled_tail}
use Rattle.loops.specs.Tallies.{sums_at}
use Rattle.loops.proofs.Walks.{Walk}
use Rattle.rows.specs.Rows.{fill_at}
use Rattle.groom.proofs.groom_row.Given as goal

-- The walk's laws at each column; the state is the column.
abbrev pub invariant-loop-i : goal.invariant-loop-i
invariant-loop-i g l =
    let value = g.W.Word.value in
    Walk (λ w c. suc c) (λ c w. settled_tail g.W.Word.FRACTION g.W.Word.EXPONENT l.fn.tail.bits (fill_at (map value l.turns) (value l.bit) (value l.want) (value l.fn.tail.ones) c) (value l.mark) w) 0
    (map value l.fn.row) (map value l.row) (sums_at value l.sums) l.i l.i
