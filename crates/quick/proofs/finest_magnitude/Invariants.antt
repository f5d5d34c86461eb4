use Rattle.quick.proofs.Finest.{Turn}
use Rattle.quick.proofs.finest_magnitude.Given as goal

abbrev pub invariant-loop-reading : goal.invariant-loop-reading
invariant-loop-reading l = Turn l.mark l.readings l.least l.reading-index
