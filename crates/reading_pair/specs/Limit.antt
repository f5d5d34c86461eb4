-- The limit and a reading as the float unit gets them: shaped by the code, and nobody has to believe them; the contract of `is_beyond` says what they are worth.
use Rattle.std.specs.Prelude.{cond, ℕ, suc, ◌-◌, ◌*◌, ◌^◌, ltb}
use Rattle.meaning.specs.Readings.{magnitude, infinity}

-- the magnitude whose size is 2 ^ q where that is a normal number's, else 0
unfoldable pub limit_for : ℕ → ℕ → ℕ
limit_for F q = (suc q - F) * 2 ^ F

-- a pattern's magnitude where it is finite, else 0
unfoldable pub finite_or0 : ℕ → ℕ → ℕ → ℕ
finite_or0 F X w = cond (ltb (magnitude F X w) (infinity F X)) (magnitude F X w) 0
