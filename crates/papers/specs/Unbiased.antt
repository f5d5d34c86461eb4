-- 003, section 2, calls rounding half to even free from biases. That is a claim about many readings. What is true of each: the one equally far on the other side of a point
-- of the grid has the opposite error; so over patterns that fill both sides of it evenly, within one binade, the errors sum to zero.
use Rattle.std.specs.Prelude.{◌≡◌, ℕ, ◌+◌, ◌-◌, ◌*◌, ◌/◌, ◌%◌, ◌^◌, ◌≤◌}
use Rattle.meaning.specs.Methods.{rounded}

pub record Unbiased : Type 0 where
  -- a tie goes to the neighbour whose lowest keep bit is zero
  pub tie_even : (t m : ℕ) → 2 * (m % 2 ^ t) ≡ 2 ^ t → rounded t m / 2 ^ t % 2 ≡ 0
  -- mirrored at a * 2 ^ t, a pattern's result is mirrored too
  pub mirror : (t a m : ℕ) → m ≤ 2 * a * 2 ^ t → rounded t (2 * a * 2 ^ t - m) + rounded t m ≡ 2 * a * 2 ^ t
