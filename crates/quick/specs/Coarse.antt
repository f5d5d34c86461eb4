-- Readings whose spacing is not too fine beside a layer's step, so that doubles hold every difference.
use Rattle.std.specs.Prelude.{◌≡◌, ◌≢◌, ◌⊎◌, cond, List, [], ◌∷◌, ℕ, min, ◌-◌, ◌*◌, ◌%◌, ◌^◌, ◌≤◌, ◌<◌, eqb, length, get_or}
use Rattle.meaning.specs.Readings.{magnitude, spacing_exp, position}
use Rattle.meaning.specs.Layers.{last_code}

-- a reading is zero, or it is a normal number whose spacing is at least 2 ^ j
abbrev pub Coarse : ℕ → ℕ → Type 0
Coarse j w = (magnitude 23 8 w ≡ 0) ⊎ ((8388608 ≤ magnitude 23 8 w) × (j ≤ spacing_exp 23 (magnitude 23 8 w)))

abbrev pub AllCoarse : ℕ → ℕ → List ℕ → Type 0
AllCoarse mark j ws = (i : ℕ) → i < length ws → get_or ws i 0 ≢ mark → Coarse j (get_or ws i 0)

-- the steps of a width hold every present reading's distance from the reference
abbrev pub AllHeld : ℕ → ℕ → ℕ → ℕ → List ℕ → Type 0
AllHeld mark r e b ws = (i : ℕ) → i < length ws → get_or ws i 0 ≢ mark → position 23 8 (get_or ws i 0) - position 23 8 r ≤ last_code b * 2 ^ e

-- a present reading's magnitude, and 0 for a missing one; then a number above all magnitudes for 0
abbrev pub present_magnitude : ℕ → ℕ → ℕ
present_magnitude mark w = cond (eqb w mark) 0 (w % 2147483648)

abbrev pub or_top : ℕ → ℕ
or_top m = cond (eqb m 0) 4294967295 m

-- the smallest magnitude of the present readings that are not zero
unfoldable pub finest : ℕ → List ℕ → ℕ
finest mark [] = 4294967295
finest mark (w ∷ ws) = min (or_top (present_magnitude mark w)) (finest mark ws)
