use Rattle.text_in.proofs.NameLaws.{NamesTurn}
use Rattle.text_in.proofs.names_at.Given as goal

abbrev pub invariant-loop-k : goal.invariant-loop-k
invariant-loop-k l = NamesTurn l.s l.at l.k l.p
