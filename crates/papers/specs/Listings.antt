-- 003, appendix A: its subroutines A1, A2 and A4 on a pattern u taken as a whole number, with a tail of t bits, beside shave, halfshave and round. `result` is what a method
-- makes of a reading, before the rules of the mark.
use Rattle.std.specs.Prelude.{◌≡◌, ◌≢◌, false, ℕ, ◌+◌, ◌-◌, ◌*◌, ◌/◌, ◌%◌, ◌^◌, ◌≤◌, ◌<◌}
use Rattle.meaning.specs.Readings.{magnitude}
use Rattle.meaning.specs.Methods.{tail, shave, halfshave, round, clips, result}

-- A1: the mask that zeroes the tail
unfoldable pub masked : ℕ → ℕ → ℕ
masked t u = u / 2 ^ t * 2 ^ t

-- A2: the same, and the top bit of the tail set
unfoldable pub masked_half : ℕ → ℕ → ℕ
masked_half t u = masked t u + 2 ^ (t - 1)

-- A4: less than half a quantum is added, or half of one where the lowest keep bit is one; then the mask
unfoldable pub added_masked : ℕ → ℕ → ℕ
added_masked t u = masked t (u + (u / 2 ^ t % 2 + (2 ^ (t - 1) - 1)))

pub record Listings (F X : ℕ) : Type 0 where
  -- of every pattern
  pub A1_shaves : (k turn w : ℕ) → result F X (tail shave k) turn w ≡ masked (F - k) w
  -- unless the reading is zero, or all bits are kept
  pub A2_halfshaves : (k turn w : ℕ) → k < F → magnitude F X w ≢ 0 → result F X (tail halfshave k) turn w ≡ masked_half (F - k) w
  -- unless round clips, or all bits are kept
  pub A4_rounds : 1 ≤ X → (k turn w : ℕ) → k < F → clips F X (round k) (magnitude F X w) ≡ false → result F X (round k) turn w ≡ added_masked (F - k) w
