use Rattle.fields_in.proofs.Walk.{NumberTurn}
use Rattle.fields_in.proofs.number_at.Given as goal

abbrev pub invariant-loop-b : goal.invariant-loop-b
invariant-loop-b l = NumberTurn l.s l.at l.n l.value l.b-index
