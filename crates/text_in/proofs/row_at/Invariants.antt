use Rattle.text_in.proofs.RowLaws.{RowTurn}
use Rattle.text_in.proofs.row_at.Given as goal

abbrev pub invariant-loop-j : goal.invariant-loop-j
invariant-loop-j l = RowTurn l.s l.at l.n l.row l.initial.work l.work l.j l.p
