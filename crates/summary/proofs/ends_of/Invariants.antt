use Rattle.summary.proofs.Made.{Turn}
use Rattle.summary.proofs.ends_of.Given as goal

abbrev pub invariant-loop-reading : goal.invariant-loop-reading
invariant-loop-reading l = Turn l.mark l.readings l.low l.high l.reading-index
