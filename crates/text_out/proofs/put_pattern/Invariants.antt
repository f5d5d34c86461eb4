use Rattle.text_out.proofs.Paste.{PutTurn}
use Rattle.text_out.proofs.put_pattern.Given as goal

abbrev pub invariant-loop-done : goal.invariant-loop-done
invariant-loop-done l = PutTurn l.initial.out l.at l.v l.out l.done l.rest
