-- What a walk over places answers is the definition's. For every width.
use mathlib.Core.Path.{◌≡◌, refl, sym, ◌∙◌}
use mathlib.Core.Bool.{Bool, true, false}
use mathlib.Core.List.{List}
use Prim.Native.Nat.{ℕ, ◌+◌, ◌<◌}
use native.Mathlib.Numerals.{add-one}
use native.Mathlib.Omega.{arith}
use lib.ListN.{length, get_or}
use Rattle.std.specs.Prelude.{Option, Some, None, MatchOption}
use Rattle.meaning.specs.Comparing.{Place, none, at, read_up_to, Compared, beyond, compared}
use Rattle.meaning.proofs.Comparing.{first_both, none_both}
use Rattle.beyond.specs.declared.Compared.{Compared as Compared'}
use Rattle.beyond.specs.Answers.{place_of, found_of, FirstTrue}

module _ (F X mark q : ℕ) (raw trimmed : List ℕ) where
  -- what the test says at place i
  abbrev pub Says : ℕ → Bool → Type 0
  Says i b = b ≡ beyond F X mark q (get_or raw i 0) (get_or trimmed i 0)

  answered : (place : Place) (read : ℕ) → (compared F X mark q raw trimmed).first ≡ place → read ≡ read_up_to place (length raw)
      → ◌≡◌ {A = Compared} (record { first = place; read = read }) (compared F X mark q raw trimmed)
  unfolding compared
  answered place read e n = rw (n, e) refl

  pub scanned : length raw ≡ length trimmed → (c : Compared') → FirstTrue Says (length raw) c → found_of c ≡ compared F X mark q raw trimmed
  unfolding compared read_up_to
  scanned long c h = go c.place c.read h.first
    where
      go : (place : Option ℕ) (read : ℕ) → MatchOption place
          ((read ≡ length raw) × ((i : ℕ) → i < length raw → Says i false))
          (λ place. (place < length raw) × (read ≡ place + 1) × Says place true × ((i : ℕ) → i < place → Says i false))
          → ◌≡◌ {A = Compared} (record { first = place_of place; read = read }) (compared F X mark q raw trimmed)
      go None read h = answered none read ((none_both (beyond F X mark q) raw trimmed long).1 (λ i l. sym (h.1 i l))) h.0
      go (Some place) read h =
          answered (at place) read ((first_both (beyond F X mark q) raw trimmed long place).1 (record { inside = h.0; itself = sym h.2; before = λ i l. sym (h.3 i l) })) (h.1 ∙ add-one place)

-- what holds of each place that was asked
pub FirstTrue-weaker : {P : ℕ → Bool → Type 0} {n : ℕ} {c : Compared'} (Q : ℕ → Bool → Type 0) → FirstTrue P n c → ((i : ℕ) (b : Bool) → i < n → P i b → Q i b) → FirstTrue Q n c
FirstTrue-weaker {P} {n} {c} Q h f = record { first = go c.place h.first }
  where
    go : (place : Option ℕ) → MatchOption place
        ((c.read ≡ n) × ((i : ℕ) → i < n → P i false))
        (λ place. (place < n) × (c.read ≡ place + 1) × P place true × ((i : ℕ) → i < place → P i false))
        → MatchOption place
        ((c.read ≡ n) × ((i : ℕ) → i < n → Q i false))
        (λ place. (place < n) × (c.read ≡ place + 1) × Q place true × ((i : ℕ) → i < place → Q i false))
    go None h = (h.0, λ i l. f i false l (h.1 i l))
    go (Some place) h = (h.0, h.1, f place true h.0 h.2, λ i l. f i false (omega (arith, h.0)) (h.3 i l))
