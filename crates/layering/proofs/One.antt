-- A layer with one value or none: its exponent is the least there is, and every code is 0 or the missing one.
use mathlib.Core.Path.{◌≡◌, refl, sym, ap, ◌∙◌}
use mathlib.Core.Logic.{◌≢◌}
use mathlib.Core.List.{List, [], ◌∷◌, map}
use Prim.Native.Nat.{ℕ, suc, ◌-◌, ◌*◌, ◌^◌, ◌<◌, zero-le, suc-le-suc}
use native.Mathlib.Decide.{ℕ_discrete}
use native.Mathlib.Omega.{arith}
use borrow.Author.Tests.{eq-eqb, ne_eqb, le-leb}
use lib.IntN.{negsuc, sub_ℕ}
use lib.ListN.{length, get_or}
use Rattle.meaning.specs.Readings.{position}
use Rattle.meaning.specs.Methods.{nearest}
use Rattle.meaning.specs.Layers.{Summary, Nothing, Flat, Spread, Layer, missing_code, last_code, holds, least_from, smallest, summary, span, layer_of, code}
use Rattle.meaning.specs.Calls.{stored_exponent}
use Rattle.meaning.proofs.Packing.{Spans, summary_spans, code_missing, code_present}
use Rattle.meaning.proofs.Nearest.{nearest_multiple}
use Rattle.layering.specs.Layering.{flat_code, One}

-- two functions that agree at every place of a list make the same list
pub map_same : {A : Type 0} (f g : ℕ → A) (ws : List ℕ) → ((i : ℕ) → i < length ws → f (get_or ws i 0) ≡ g (get_or ws i 0)) → map f ws ≡ map g ws
map_same f g [] h = refl
map_same f g (w ∷ ws) h = ap (λ x. x ∷ map f ws) (h 0 (suc-le-suc zero-le)) ∙ ap (λ x. g w ∷ x) (map_same f g ws (λ i k. h (suc i) (suc-le-suc k)))

flat_missing : (m mark w : ℕ) → w ≡ mark → flat_code m mark w ≡ m
unfolding flat_code
flat_missing m mark w e = rw (eq-eqb w mark e) refl

flat_present : (m mark w : ℕ) → w ≢ mark → flat_code m mark w ≡ 0
unfolding flat_code
flat_present m mark w e = rw (ne_eqb w mark e) refl

first : (b : ℕ) → least_from b 0 277 0 ≡ 0
unfolding least_from holds
first b = rw (le-leb 0 (last_code b * 2 ^ 0) zero-le) refl

-- its reference and span
one_smallest : (s : Summary) (r : ℕ) → One s r → r ≡ smallest s
unfolding smallest
one_smallest Nothing r h = h
one_smallest (Flat a) r h = h
one_smallest (Spread a z) r h = absurd h

one_span : (s : Summary) (r : ℕ) → One s r → span 23 8 s ≡ 0
unfolding span
one_span Nothing r h = refl
one_span (Flat a) r h = refl
one_span (Spread a z) r h = absurd h

module _ (b mark : ℕ) (ws : List ℕ) (r : ℕ) (h : One (summary 23 8 mark ws) r) where
  pub one_reference : r ≡ (layer_of 23 8 277 mark b ws).reference
  unfolding layer_of
  one_reference = one_smallest (summary 23 8 mark ws) r h

  one_exponent : (layer_of 23 8 277 mark b ws).exponent ≡ 0
  unfolding layer_of
  one_exponent = rw (one_span (summary 23 8 mark ws) r h) (first b)

  pub one_stored : negsuc 148 ≡ stored_exponent (layer_of 23 8 277 mark b ws)
  unfolding stored_exponent
  one_stored = ap (λ (e : ℕ). sub_ℕ e 149) (sym one_exponent)

  -- every present reading stands where the reference does
  present_at : (i : ℕ) → i < length ws → get_or ws i 0 ≢ mark → position 23 8 r ≡ position 23 8 (get_or ws i 0)
  present_at i k e = go (summary 23 8 mark ws) h (summary_spans 23 8 mark ws i k e)
    where
      go : (s : Summary) → One s r → Spans 23 8 s (position 23 8 (get_or ws i 0)) → position 23 8 r ≡ position 23 8 (get_or ws i 0)
      go Nothing o p = absurd p
      go (Flat a) o p = ap (position 23 8) o ∙ p
      go (Spread a z) o p = absurd o

  code_zero : (w : ℕ) → position 23 8 r ≡ position 23 8 w → nearest (position 23 8 w - position 23 8 (layer_of 23 8 277 mark b ws).reference) (2 ^ (layer_of 23 8 277 mark b ws).exponent) ≡ 0
  code_zero w e =
      let d : position 23 8 w - position 23 8 (layer_of 23 8 277 mark b ws).reference ≡ 0 * 1 = omega (arith, e, ap (position 23 8) one_reference) in
      rw (one_exponent, d) (nearest_multiple 0 1 (omega arith))

  pub one_codes : (m : ℕ) → m ≡ missing_code b → map (flat_code m mark) ws ≡ map (code 23 8 mark (layer_of 23 8 277 mark b ws)) ws
  unfolding layer_of
  one_codes m me = map_same (flat_code m mark) (code 23 8 mark (layer_of 23 8 277 mark b ws)) ws (λ i k. at i k (ℕ_discrete (get_or ws i 0) mark))
    where
      l : Layer
      l = layer_of 23 8 277 mark b ws

      at : (i : ℕ) → i < length ws → Dec (get_or ws i 0 ≡ mark) → flat_code m mark (get_or ws i 0) ≡ code 23 8 mark (layer_of 23 8 277 mark b ws) (get_or ws i 0)
      at i k (yes e) = flat_missing m mark (get_or ws i 0) e ∙ me ∙ sym (code_missing 23 8 mark l (get_or ws i 0) e)
      at i k (no e) = flat_present m mark (get_or ws i 0) e ∙ sym (code_present 23 8 mark l (get_or ws i 0) e ∙ code_zero (get_or ws i 0) (present_at i k e))
