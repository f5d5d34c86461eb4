-- 001: decimal digits and decimal places. A size is counted in 2 ^ -least_exp; `decade` is d + least_exp, where 10 ^ (d - 1) ≤ size < 10 ^ d.
use Rattle.std.specs.Prelude.{◌≡◌, false, [], ◌∷◌, ℕ, ◌+◌, ◌-◌, ◌*◌, ◌/◌, ◌^◌, ◌≤◌, ◌<◌}
use Rattle.meaning.specs.Readings.{magnitude, least_exp}
use Rattle.meaning.specs.Methods.{TailMethod, tail, round, absolute, decade, clips}
use Rattle.papers.specs.Moved.{moved, Normal}

-- 001, section 2.3: the bits kept for n decimal digits, ceil(3.32 n) + 1
unfoldable pub keep_bits_of : ℕ → ℕ
keep_bits_of n = (332 * n + 99) / 100 + 1

-- Of n = 1 to 15 digits they are the fewest k with 10 ^ n ≤ 2 ^ (k - 1). Singles have 23 bits to keep, so 6 digits, and doubles 52, so 15.
pub record KeepBits : Type 0 where
  pub table : keep_bits_of 1 ∷ keep_bits_of 2 ∷ keep_bits_of 3 ∷ keep_bits_of 4 ∷ keep_bits_of 5 ∷ keep_bits_of 6 ∷ [] ≡ 5 ∷ 8 ∷ 11 ∷ 15 ∷ 18 ∷ 21 ∷ []
  pub enough : (n : ℕ) → 1 ≤ n → n ≤ 15 → 2 * 10 ^ n ≤ 2 ^ keep_bits_of n
  pub fewest : (n : ℕ) → 1 ≤ n → n ≤ 15 → 2 ^ (keep_bits_of n - 1) < 2 * 10 ^ n

-- A distance is less than half of 10 ^ (d - n), the tolerance of n digits at the reading w: both sides times 2 * 2 ^ least_exp * 10 ^ (least_exp + n).
abbrev pub HalfDigit : ℕ → ℕ → ℕ → ℕ → ℕ → Type 0
HalfDigit F X n w distance = 2 * distance * 10 ^ (least_exp F X + n) < 10 ^ decade F X (magnitude F X w) * 2 ^ least_exp F X

pub record DecimalBounds (F X : ℕ) : Type 0 where
  -- 001, sections 2.3 and 3.2: shave, set and groom move a value by less than half a unit of its n-th digit. True of normal readings, for every k with
  -- 10 ^ n ≤ 2 ^ (k - 1), and so for the paper's.
  pub digits_kept : (c : TailMethod) (n k mark turn w : ℕ) → Normal F X w → 2 * 10 ^ n ≤ 2 ^ k → HalfDigit F X n w (moved F X (tail c k) mark turn w)
  pub nsd_kept : (c : TailMethod) (n mark turn w : ℕ) → Normal F X w → 1 ≤ n → n ≤ 15 → HalfDigit F X n w (moved F X (tail c (keep_bits_of n)) mark turn w)
  -- and so does round, with the same bits
  pub round_kept : (n mark turn w : ℕ) → Normal F X w → 1 ≤ n → n ≤ 15 → HalfDigit F X n w (moved F X (round (keep_bits_of n)) mark turn w)
  -- 001, section 2.3, Decimal Rounding to r decimal places with the scale 2 ^ s, so with the unit 2 ^ -s: within half of the last place where the scale is at
  -- least 10 ^ r, unless it clips
  pub places_kept : (r s mark turn w : ℕ) → s ≤ least_exp F X → 10 ^ r ≤ 2 ^ s → clips F X (absolute (least_exp F X - s)) (magnitude F X w) ≡ false
      → 2 * moved F X (absolute (least_exp F X - s)) mark turn w * 10 ^ r ≤ 2 ^ least_exp F X
