-- The words of `apart`: shaped by the code, and nobody has to believe them; the contract of `apart` says what they are worth.
use Rattle.std.specs.Prelude.{cond, ℕ, min, ◌+◌, ◌-◌, ◌*◌, ◌^◌, ◌<◌, ◌≤◌, ltb}
use Rattle.meaning.specs.Readings.{spacing_exp, sign, magnitude, infinity}

-- the limit in halves of the spacing 2 ^ x, cut to 2 ^ (F + 3)
unfoldable pub cut_limit : ℕ → ℕ → ℕ → ℕ
cut_limit F x q = cond (ltb (q + 1) x) 0 (2 ^ min (q + 1 - x) (F + 3))

-- how many spacings a magnitude is
unfoldable pub significand : ℕ → ℕ → ℕ
significand F m = m - spacing_exp F m * 2 ^ F

-- a finite pattern of the width
pub record Finite (F X w : ℕ) : Type 0 where
  pub below : magnitude F X w < infinity F X
  pub signed : sign F X w ≤ 1
