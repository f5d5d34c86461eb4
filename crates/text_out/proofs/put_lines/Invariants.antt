use Rattle.text_out.proofs.LaidLaws.{LinesTurn}
use Rattle.text_out.proofs.put_lines.Given as goal

abbrev pub invariant-loop-i : goal.invariant-loop-i
invariant-loop-i l = LinesTurn l.initial.out l.at l.n l.lines l.work l.out l.i l.p
