-- Keys of singles: numbers in the order of the values, from which the value comes back. The summary by its smallest and largest key.
use Rattle.std.specs.Prelude.{cond, List, [], ◌∷◌, ℕ, min, max, ◌+◌, ◌-◌, ◌<◌, eqb, ltb}
use Rattle.meaning.specs.Layers.{Summary, Nothing, Flat, Spread}

-- zero stands at 2^31, and a magnitude that far above or below it by the sign
unfoldable pub key : ℕ → ℕ
key w = cond (ltb w 2147483648) (w + 2147483648) (4294967296 - w)

-- the reading of a key, zero as +0
unfoldable pub unkey : ℕ → ℕ
unkey k = cond (ltb k 2147483648) (4294967296 - k) (k - 2147483648)

-- a finite reading's key: its magnitude is below 0x7f800000
pub record Key (k : ℕ) : Type 0 where
  pub above : 8388608 < k
  pub below : k < 4286578688

-- the smallest and the largest key of the readings that are present
unfoldable pub lowest : ℕ → List ℕ → ℕ
lowest mark [] = 4294967295
lowest mark (w ∷ ws) = min (cond (eqb w mark) 4294967295 (key w)) (lowest mark ws)

unfoldable pub highest : ℕ → List ℕ → ℕ
highest mark [] = 0
highest mark (w ∷ ws) = max (cond (eqb w mark) 0 (key w)) (highest mark ws)

unfoldable pub between : ℕ → ℕ → Summary
between low high = cond (ltb high low) Nothing (cond (eqb low high) (Flat (unkey low)) (Spread (unkey low) (unkey high)))
