-- Document 02 (d): "the tail and half-tail of methods 0 to 4 are to be worked out once per array".
use Rattle.std.specs.Prelude.{◌≡◌, cond, ℕ, zero, suc, ◌+◌, ◌-◌, ◌/◌, ◌%◌, ◌^◌, ◌≤◌, eqb}
use Rattle.std.specs.Int.Bits.{bit_and}
use Rattle.meaning.specs.Readings.{magnitude, finite}

-- half a unit of t bits, and nothing where there is no tail
abbrev pub half_unit : ℕ → ℕ
half_unit zero = 0
half_unit (suc t) = 2 ^ t

-- how many bits a tail has, all of them ones, and its top bit
pub record Constants : Type 0 where
  pub bits : ℕ
  pub ones : ℕ
  pub half : ℕ

-- those of k keep bits
unfoldable pub constants : ℕ → ℕ → Constants
constants F k = record { bits = F - k; ones = 2 ^ (F - k) - 1; half = half_unit (F - k) }

-- what a function that is handed constants asks of them: they are those of some k up to F
pub record TailOf (F : ℕ) (c : Constants) : Type 0 where
  pub short : c.bits ≤ F
  pub is_ones : c.ones ≡ 2 ^ c.bits - 1
  pub is_half : c.half ≡ half_unit c.bits

-- what the inner functions compute of a pattern with such constants
module _ (F X : ℕ) where
  -- methods 0 to 3: the tail's bits become `add`, and zero stays
  unfoldable pub tail_word : Constants → ℕ → ℕ → ℕ
  tail_word c add w = cond (finite F X w) (w - bit_and w c.ones + cond (eqb (magnitude F X w) 0) 0 add) w

  -- method 4: half a unit less one is added, and one more where the bit above the tail is one; the tail is cut off
  unfoldable pub near_word : Constants → ℕ → ℕ
  near_word c w = let near = (w + (c.half - 1 + magnitude F X w / 2 ^ c.bits % 2)) % 2 ^ (F + X + 1) in near - bit_and near c.ones

  -- and a unit taken back where that isn't finite
  unfoldable pub round_word : Constants → ℕ → ℕ
  round_word c w = cond (finite F X w) ((near_word c w + (2 ^ (F + X + 1) - cond (finite F X (near_word c w)) 0 (c.ones + 1))) % 2 ^ (F + X + 1)) w

  unfoldable pub round_over : Constants → ℕ → ℕ
  round_over c w = cond (finite F X (near_word c w)) 0 1
