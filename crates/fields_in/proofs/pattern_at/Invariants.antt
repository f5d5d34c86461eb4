use Rattle.fields_in.proofs.Walk.{HexTurn}
use Rattle.fields_in.proofs.pattern_at.Given as goal

abbrev pub invariant-loop-i : goal.invariant-loop-i
invariant-loop-i l = HexTurn l.s l.at l.v l.i
