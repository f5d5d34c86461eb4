use mathlib.Core.List.{map}
use Rattle.rows.proofs.Rows.{Marking}
use Rattle.groom.proofs.mark_row.Given as goal

-- Column by column.
abbrev pub invariant-loop-i : goal.invariant-loop-i
invariant-loop-i g l = let value = g.W.Word.value in Marking g.W.Word.FRACTION g.W.Word.EXPONENT (value l.bit) (value l.mark) (map value l.row) (map value l.fn.turns) (map value l.turns) l.i
