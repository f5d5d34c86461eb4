use Rattle.digit_tails.proofs.Singles.{Doubled}
use Rattle.digit_tails.proofs.subnormal_widened.Given as goal

-- The size stays as x is doubled and f falls by one.
abbrev pub invariant-loop-x : goal.invariant-loop-x
invariant-loop-x l = Doubled l.m l.x l.f

abbrev pub decreases-loop-x : goal.decreases-loop-x
decreases-loop-x l = l.f
