use Rattle.text_out.proofs.PutLaws.{LineTurn}
use Rattle.text_out.proofs.put_line.Given as goal

abbrev pub invariant-loop-j : goal.invariant-loop-j
invariant-loop-j l = LineTurn l.initial.out l.at l.n l.i l.work l.out l.j
