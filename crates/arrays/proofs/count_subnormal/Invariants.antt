use Rattle.arrays.proofs.Rest.{Found}
use Rattle.arrays.proofs.count_subnormal.Given as goal

-- The count's law at each reading.
abbrev pub invariant-loop-reading : goal.invariant-loop-reading
invariant-loop-reading l = Found l.readings l.reading-index l.found
