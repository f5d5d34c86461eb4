use Prim.Native.Nat.{◌-◌, ◌≤◌}
use lib.ListN.{length}
use Rattle.totals.proofs.Gathering.{Turn}
use Rattle.totals.proofs.gather.Given as goal

-- `gather` meets its contract: two turns of four places at a time, and the last seven places at most.
abbrev pub invariant-loop-i : goal.invariant-loop-i
invariant-loop-i l = (l.i ≤ length l.codes) × (length l.codes ≤ 65536) × Turn l.missing l.codes l.i l.lanes

abbrev pub decreases-loop-i : goal.decreases-loop-i
decreases-loop-i l = length l.codes - l.i
