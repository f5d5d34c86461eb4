-- Which singles are subnormal.
use Rattle.std.specs.Prelude.{ℕ, ◌^◌, cond, ◌==◌, nat_lt}
use Rattle.meaning.specs.Readings.{magnitude}

module _ (F X : ℕ) where
  -- 1 for a reading whose exponent field is 0 and that isn't zero
  unfoldable pub subnormal : ℕ → ℕ
  subnormal w = cond (magnitude F X w == 0) 0 (cond (nat_lt (magnitude F X w) (2 ^ F)) 1 0)
