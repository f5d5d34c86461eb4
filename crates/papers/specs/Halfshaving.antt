-- 003, section 3, takes halfshaving a groomed field for halfshaving the original. At one turn, with one k and one mark, this is exactly where it holds.
use Rattle.std.specs.Prelude.{◌≡◌, ◌≢◌, ◌⊎◌, ◌↔◌, ℕ}
use Rattle.meaning.specs.Readings.{magnitude}
use Rattle.meaning.specs.Methods.{tail, groom, halfshave, result, trimmed}

module _ (F X k mark turn : ℕ) where
  abbrev pub groomed : ℕ → ℕ
  groomed w = trimmed F X (tail groom k) mark turn w

  abbrev pub halfshaved : ℕ → ℕ
  halfshaved w = trimmed F X (tail halfshave k) mark turn w

-- Equal where grooming left the reading as it was, or else made no zero of it and the mark is not its halfshaved pattern; and nowhere else.
pub record Halfshaving (F X : ℕ) : Type 0 where
  pub same_where : (k mark turn w : ℕ)
      → (halfshaved F X k mark turn (groomed F X k mark turn w) ≡ halfshaved F X k mark turn w)
      ↔ ((groomed F X k mark turn w ≡ w)
      ⊎ ((magnitude F X (groomed F X k mark turn w) ≢ 0) × (result F X (tail halfshave k) turn w ≢ mark)))
