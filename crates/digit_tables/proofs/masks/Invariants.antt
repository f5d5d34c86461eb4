use mathlib.Core.Path.{◌≡◌}
use Prim.Native.Nat.{ℕ, ◌-◌, ◌/◌, ◌%◌, ◌^◌, ◌<◌}
use lib.ListN.{get_or}
use Rattle.digit_tables.specs.Fields.{field_tail}
use Rattle.digit_tables.proofs.masks.Given as goal

-- Each entry that is passed is its mask.
abbrev pub invariant-loop-i : goal.invariant-loop-i
invariant-loop-i l = (k : ℕ) → k < l.i → get_or l.mask-items k 0 ≡ 2 ^ field_tail l.n (k / 2) (k % 2) - 1
