-- 001, section 2.3, and 003, section 2, shave and set the elements of an array in turn by their place. Document 02 (b) gives the turns to present finite readings. Where an array
-- has no others, both are one; where it has, `GroomedByTurns` in Cases.antt shows the difference.
use Rattle.std.specs.Prelude.{◌≡◌, true, List, ℕ, ◌%◌, ◌<◌, length, get_or}
use Rattle.meaning.specs.Methods.{tail, shave, set, groom, trimmable, trimmed, trim_from}

pub record Grooming (F X : ℕ) : Type 0 where
  pub even_shaved : (k mark : ℕ) (ws : List ℕ) → ((i : ℕ) → i < length ws → trimmable F X mark (get_or ws i 0) ≡ true)
      → (i : ℕ) → i < length ws → i % 2 ≡ 0 → get_or (trim_from F X (tail groom k) mark 0 ws) i 0 ≡ trimmed F X (tail shave k) mark 0 (get_or ws i 0)
  pub odd_set : (k mark : ℕ) (ws : List ℕ) → ((i : ℕ) → i < length ws → trimmable F X mark (get_or ws i 0) ≡ true)
      → (i : ℕ) → i < length ws → i % 2 ≡ 1 → get_or (trim_from F X (tail groom k) mark 0 ws) i 0 ≡ trimmed F X (tail set k) mark 0 (get_or ws i 0)
