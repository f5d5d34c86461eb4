use Rattle.text_out.proofs.LaidLaws.{CountsTurn}
use Rattle.text_out.proofs.put_counts.Given as goal

abbrev pub invariant-loop-i : goal.invariant-loop-i
invariant-loop-i l = CountsTurn l.initial.out l.at l.counts l.out l.i l.p
