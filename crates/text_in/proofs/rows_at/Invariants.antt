use Prim.Native.Nat.{◌-◌}
use Rattle.text_in.proofs.LineLaws.{RowsTurn}
use Rattle.text_in.proofs.rows_at.Given as goal

abbrev pub invariant-loop-p : goal.invariant-loop-p
invariant-loop-p l = RowsTurn l.s l.at l.n l.initial.work l.work l.i l.p

abbrev pub decreases-loop-p : goal.decreases-loop-p
decreases-loop-p l = 512 - l.i
