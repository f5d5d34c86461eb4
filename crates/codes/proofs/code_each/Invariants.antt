use Rattle.std.proofs.Common.{◌≡◌, ℕ, ◌<◌, length, slice_index}
use Rattle.codes.proofs.code_each.Given as goal

abbrev pub invariant-loop-i : goal.invariant-loop-i
invariant-loop-i g l = (length l.out ≡ length l.readings) × ((k : ℕ) → k < l.i → goal.F-post g l.code (slice_index l.readings k) (slice_index l.out k))
