-- A width that the calls open to users have asked for: 2 to 16.
use Rattle.std.specs.Prelude.{ℕ, ◌≤◌}

pub record Width (w : ℕ) : Type 0 where
  pub low : 2 ≤ w
  pub high : w ≤ 16
