-- 002: Digit Rounding, which is method 6, with n digits. `digit_step` is the paper's q in least spacings, and `decade` is d + least_exp, with the exact d of equation 3.
use Rattle.std.specs.Prelude.{◌≡◌, ◌⊎◌, ℕ, suc, ◌+◌, ◌*◌, ◌^◌, ◌≤◌, ◌<◌}
use Rattle.meaning.specs.Readings.{size, exponent_field, magnitude, infinity, least_exp}
use Rattle.meaning.specs.Methods.{tail, halfshave, digits, unit, decade, digit_step, digit_size, new_magnitude, trimmed}
use Rattle.papers.specs.Moved.{moved}

-- With k keep bits halfshave does what digits does to a magnitude: nothing with all of them, and else its unit is q.
pub record AsHalfshave (F X n turn m : ℕ) : Type 0 where
  pub keep : ℕ
  pub in_range : keep ≤ F
  pub same : new_magnitude F X (digits n) turn m ≡ new_magnitude F X (tail halfshave keep) turn m
  pub step : (keep ≡ F) ⊎ (unit F (tail halfshave keep) m ≡ digit_step F X n m)

-- d is nothing, or at most the lowest one bit of the size s
pub record LowestBit (d s : ℕ) : Type 0 where
  pub within : (d ≡ 0) ⊎ ((u : ℕ) × (j : ℕ) × (s ≡ (2 * j + 1) * 2 ^ u) × (d ≤ 2 ^ u))

pub record DigitBounds (F X : ℕ) : Type 0 where
  -- Equation 1: the result has exactly the size (j + 1/2) q, or is the reading where q is below two spacings. Nothing is rounded.
  pub exact : (n turn m : ℕ) → 1 ≤ n → 0 < m → m < infinity F X → size F (new_magnitude F X (digits n) turn m) ≡ digit_size F X n m
  -- Section 3, of Table 2: some bits of the fraction are kept, the next is one and the rest are zero
  pub bits_kept : (n turn m : ℕ) → 1 ≤ n → m < infinity F X → AsHalfshave F X n turn m
  -- Equation 2: every reading moves by at most q / 2
  pub half_step : (n mark turn w : ℕ) → 1 ≤ n → 2 * moved F X (digits n) mark turn w ≤ digit_step F X n (magnitude F X w)
  -- Equations 5 to 7: q is the largest power of two that is at most 10 ^ (d - n), or 0 where that is below one least spacing
  pub step_power : (n m : ℕ) → (digit_step F X n m ≡ 0) ⊎ ((j : ℕ) × (digit_step F X n m ≡ 2 ^ j))
  pub step_largest : (n m j : ℕ) → 2 ^ j * 10 ^ (least_exp F X + n) ≤ 10 ^ decade F X m * 2 ^ least_exp F X → 2 ^ j ≤ digit_step F X n m
  pub step_below : (n m : ℕ) → digit_step F X n m * 10 ^ (least_exp F X + n) ≤ 10 ^ decade F X m * 2 ^ least_exp F X
  -- Equation 4: and so every reading moves by at most half a unit of its n-th digit
  pub half_digit : (n mark turn w : ℕ) → 1 ≤ n
      → 2 * moved F X (digits n) mark turn w * 10 ^ (least_exp F X + n) ≤ 10 ^ decade F X (magnitude F X w) * 2 ^ least_exp F X
  -- The same by what is left, since the reading is wiped. The decade falls by one at most, so half of 10 ^ (d + 1 - n) holds with the d of what is left; half of
  -- 10 ^ (d - n) doesn't (`left_decade` in Cases.antt).
  pub decade_left : (n mark turn w : ℕ) → 1 ≤ n → decade F X (magnitude F X w) ≤ suc (decade F X (magnitude F X (trimmed F X (digits n) mark turn w)))
  pub half_digit_left : (n mark turn w : ℕ) → 1 ≤ n
      → 2 * moved F X (digits n) mark turn w * 10 ^ (least_exp F X + n) ≤ 10 ^ suc (decade F X (magnitude F X (trimmed F X (digits n) mark turn w))) * 2 ^ least_exp F X
  -- And with no setting at hand: by at most the lowest one bit of the size that is left, which is q / 2 where the call changed the reading
  pub lowest_bit : (n mark turn w : ℕ) → 1 ≤ n → LowestBit (moved F X (digits n) mark turn w) (size F (magnitude F X (trimmed F X (digits n) mark turn w)))
  -- It keeps the exponent field of every reading, so nothing can pass the largest finite one: there is no clip.
  pub exponent_stays : (n mark turn w : ℕ) → 1 ≤ n
      → exponent_field F (magnitude F X (trimmed F X (digits n) mark turn w)) ≡ exponent_field F (magnitude F X w)
