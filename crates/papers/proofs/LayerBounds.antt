-- Packing's bounds: the exponent is the least that holds the span, so the one below doesn't; and a step of one least spacing rounds nothing.
use mathlib.Core.Path.{◌≡◌, refl, ap, ◌∙◌}
use mathlib.Core.Bool.{true}
use mathlib.Core.Logic.{◌≢◌}
use mathlib.Core.List.{List}
use Prim.Native.Nat.{ℕ, zero, suc, ◌-◌, ◌*◌, ◌^◌, ◌≤◌, ◌<◌}
use native.Mathlib.Nat.{mul-le-mul_left, pow-suc}
use native.Mathlib.Decide.{dec_le, ℕ_discrete}
use native.Mathlib.Omega.{arith}
use borrow.Author.Tests.{le-leb}
use lib.ListN.{length, get_or}
use lib.Pow.{pow_pos}
use Rattle.meaning.specs.Readings.{position, distance}
use Rattle.meaning.specs.Layers.{Layer, holds, last_code, code, code_meaning}
use Rattle.meaning.proofs.Patterns.{finite_below}
use Rattle.meaning.proofs.Nearest.{nearest_multiple}
use Rattle.meaning.proofs.Packing.{code_present, layer_least, layer_codes, singles_held}
use Rattle.papers.specs.LayerBounds.{layer, span_of, meaning_at, AllFinite, LayerBounds}

module _ (w : ℕ) (wide : 2 ≤ w) (mark : ℕ) (ws : List ℕ) (fin : AllFinite mark ws) where
  held : holds w (span_of mark ws) 277 ≡ true
  held = singles_held mark w ws wide (λ i h p. finite_below 23 8 (get_or ws i 0) (fin i h p))

  half_step : (i : ℕ) → i < length ws → get_or ws i 0 ≢ mark → 2 * distance (position 23 8 (get_or ws i 0)) (meaning_at mark w ws i) ≤ 2 ^ (layer mark w ws).exponent
  half_step i h p = (layer_codes 23 8 277 mark w ws held i h).half_step p

  step_small : (layer mark w ws).exponent ≢ 0 → last_code w * 2 ^ (layer mark w ws).exponent < 2 * span_of mark ws
  unfolding holds
  step_small z = go (layer mark w ws).exponent refl
    where
      go : (e : ℕ) → (layer mark w ws).exponent ≡ e → last_code w * 2 ^ (layer mark w ws).exponent < 2 * span_of mark ws
      go zero e = absurd (z e)
      go (suc d) e = not_below (dec_le (span_of mark ws) (last_code w * 2 ^ d))
        where
          not_below : Dec (span_of mark ws ≤ last_code w * 2 ^ d) → last_code w * 2 ^ (layer mark w ws).exponent < 2 * span_of mark ws
          not_below (yes l) = absurd (omega (arith, e, layer_least 23 8 277 mark w ws held d (le-leb (span_of mark ws) (last_code w * 2 ^ d) l)))
          not_below (no l) = rw (e, pow-suc 2 d) (omega arith)

  exact_least : (layer mark w ws).exponent ≡ 0 → (i : ℕ) → i < length ws → get_or ws i 0 ≢ mark → meaning_at mark w ws i ≡ position 23 8 (get_or ws i 0)
  unfolding distance
  exact_least e i h p = omega (arith, half_step i h p, ap (λ (x : ℕ). 2 ^ x) e)

  within_span : (i : ℕ) → i < length ws → get_or ws i 0 ≢ mark → last_code w * distance (position 23 8 (get_or ws i 0)) (meaning_at mark w ws i) ≤ span_of mark ws
  within_span i h p = go (ℕ_discrete (layer mark w ws).exponent 0)
    where
      d : ℕ
      d = distance (position 23 8 (get_or ws i 0)) (meaning_at mark w ws i)

      go : Dec ((layer mark w ws).exponent ≡ 0) → last_code w * d ≤ span_of mark ws
      go (yes e) = let z : d ≡ 0 = omega (arith, half_step i h p, ap (λ (x : ℕ). 2 ^ x) e) in rw z (omega arith)
      go (no e) = omega (arith, mul-le-mul_left (last_code w) (half_step i h p), step_small e)

smallest_exact : (w mark : ℕ) (ws : List ℕ) (i : ℕ) → get_or ws i 0 ≢ mark → position 23 8 (get_or ws i 0) ≡ position 23 8 (layer mark w ws).reference
    → meaning_at mark w ws i ≡ position 23 8 (get_or ws i 0)
unfolding code_meaning
smallest_exact w mark ws i p e =
    let l : Layer = layer mark w ws in
    let z : position 23 8 (get_or ws i 0) - position 23 8 l.reference ≡ 0 * 2 ^ l.exponent = omega arith in
    let c : code 23 8 mark l (get_or ws i 0) ≡ 0 = code_present 23 8 mark l (get_or ws i 0) p ∙ rw z (nearest_multiple 0 (2 ^ l.exponent) (pow_pos l.exponent)) in
    rw c (omega arith)

none_below : (w mark : ℕ) (ws : List ℕ) (i : ℕ) → position 23 8 (layer mark w ws).reference ≤ meaning_at mark w ws i
unfolding code_meaning
none_below w mark ws i = omega arith

pub layer_bounds : (w : ℕ) → 2 ≤ w → LayerBounds w
layer_bounds w wide =
    record {
      half_step = half_step w wide;
      step_small = λ mark ws fin z. omega (arith, step_small w wide mark ws fin z);
      exact_least = exact_least w wide;
      within_span = λ mark ws fin i h p. omega (arith, within_span w wide mark ws fin i h p);
      smallest_exact = smallest_exact w;
      none_below = none_below w;
    }
