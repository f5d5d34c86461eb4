-- Lists place by place: a test that every element passes, two lists side by side, and so the layers as they are stored.
use mathlib.Core.Path.{◌≡◌, refl, ap, ◌∙◌}
use mathlib.Core.Bool.{Bool, true}
use mathlib.Core.List.{List, [], ◌∷◌, zip_with}
use Prim.Native.Nat.{ℕ, zero, suc, ◌<◌, suc-le-suc}
use native.Mathlib.Nat.{not-suc-le-zero, le_of_suc-le-suc}
use native.Mathlib.Omega.{arith}
use lib.IntN.{ℤ, pos}
use lib.ListN.{length, get_or}
use Rattle.meaning.specs.Layers.{Layer}
use Rattle.meaning.specs.Questions.{all}
use Rattle.meaning.specs.Calls.{stored_layer, stored_layers}
use Rattle.meaning.specs.Claim.{layer_at}
use Rattle.meaning.proofs.Accepted.{and_first, and_second}

module _ {A : Type 0} (f : A → Bool) (d : A) where
  pub all_at : (xs : List A) → all f xs ≡ true → (i : ℕ) → i < length xs → f (get_or xs i d) ≡ true
  unfolding all
  all_at [] e i h = absurd (not-suc-le-zero h)
  all_at (x ∷ xs) e zero h = and_first (f x) (all f xs) e
  all_at (x ∷ xs) e (suc i) h = all_at xs (and_second (f x) (all f xs) e) i (le_of_suc-le-suc h)

  pub all_pass : (xs : List A) → ((i : ℕ) → i < length xs → f (get_or xs i d) ≡ true) → all f xs ≡ true
  unfolding all
  all_pass [] h = refl
  all_pass (x ∷ xs) h = rw (h 0 (omega arith), all_pass xs (λ i k. h (suc i) (suc-le-suc k))) refl

-- ---- two lists of one length

module _ {A B C : Type 0} (f : A → B → C) where
  both_at : (a : A) (b : B) (c : C) (xs : List A) (ys : List B) → length xs ≡ length ys → (j : ℕ) → j < length xs → get_or (zip_with f xs ys) j c ≡ f (get_or xs j a) (get_or ys j b)
  unfolding zip_with
  both_at a b c [] ys e j h = absurd (not-suc-le-zero h)
  both_at a b c (x ∷ xs) [] e j h = absurd (omega arith)
  both_at a b c (x ∷ xs) (y ∷ ys) e zero h = refl
  both_at a b c (x ∷ xs) (y ∷ ys) e (suc j) h = both_at a b c xs ys (omega arith) j (le_of_suc-le-suc h)

  both_long : (xs : List A) (ys : List B) → length xs ≡ length ys → length (zip_with f xs ys) ≡ length xs
  unfolding zip_with
  both_long [] ys e = refl
  both_long (x ∷ xs) [] e = absurd (omega arith)
  both_long (x ∷ xs) (y ∷ ys) e = ap suc (both_long xs ys (omega arith))

-- the stored layers, found at their places
module _ (widths rs : List ℕ) (es : List ℤ) (m : length widths ≡ length rs) (n : length widths ≡ length es) where
  abbrev started : List (ℤ → Layer)
  started = zip_with stored_layer widths rs

  started_long : length started ≡ length es
  started_long = both_long stored_layer widths rs m ∙ n

  pub layers_long : length (stored_layers widths rs es) ≡ length widths
  unfolding stored_layers
  layers_long = both_long (λ stored e. stored e) started es started_long ∙ both_long stored_layer widths rs m

  pub layers_at : (d : Layer) (j : ℕ) → j < length widths → get_or (stored_layers widths rs es) j d ≡ layer_at widths rs es j
  unfolding stored_layers
  layers_at d j h =
      both_at (λ stored e. stored e) (λ e. d) (pos 0) d started es started_long j (omega (arith, both_long stored_layer widths rs m))
      ∙ ap (λ (g : ℤ → Layer). g (get_or es j (pos 0))) (both_at stored_layer 0 0 (λ e. d) widths rs m j h)
