-- Nothing that was read is beyond.
use Rattle.std.proofs.Common.{ℕ, ◌<◌, ◌≤◌, ◌-◌, false}
use Rattle.beyond.proofs.scan.Given as goal

abbrev pub invariant-loop-read : goal.invariant-loop-read
invariant-loop-read g l = (l.read ≤ l.n) × ((i : ℕ) → i < l.read → goal.F-post g l.beyond i false)

abbrev pub decreases-loop-read : goal.decreases-loop-read
decreases-loop-read g l = l.n - l.read
