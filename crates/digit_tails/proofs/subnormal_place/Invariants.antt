use Prim.Native.Nat.{◌+◌, ◌≤◌, ◌<◌}
use lib.ListN.{get_or}
use Rattle.powers.specs.Table.{powers}
use Rattle.digit_tails.proofs.subnormal_place.Given as goal

-- The power after the place stays above m. The first entry is 1, so the walk down ends before the front.
abbrev pub invariant-loop-r : goal.invariant-loop-r
invariant-loop-r l = (l.r ≤ 16) × (l.m < get_or powers (l.r + 1) 0)

abbrev pub decreases-loop-r : goal.decreases-loop-r
decreases-loop-r l = l.r
