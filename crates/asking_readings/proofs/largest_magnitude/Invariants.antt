use Rattle.asking_readings.proofs.Largest.{Turn}
use Rattle.asking_readings.proofs.largest_magnitude.Given as goal

abbrev pub invariant-loop-w : goal.invariant-loop-w
invariant-loop-w l = Turn l.mark l.readings l.most l.w-index
