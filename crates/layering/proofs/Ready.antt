-- A layer with two different values gives what its codes ask for.
use mathlib.Core.Path.{◌≡◌, sym, ap, ◌∙◌, subst}
use mathlib.Core.Logic.{◌≢◌}
use mathlib.Core.Bool.{true}
use mathlib.Core.List.{List, map}
use Prim.Native.Nat.{ℕ, ◌+◌, ◌-◌, ◌*◌, ◌^◌, ◌≤◌, ◌<◌, zero-le}
use native.Mathlib.Nat.{mul-le-mul_right}
use native.Mathlib.Omega.{arith}
use mir.Syntax.{w32}
use mir.Val.{Fits}
use lib.IntN.{sub_ℕ}
use lib.ListN.{length, get_or}
use Rattle.meaning.specs.Readings.{size, magnitude, position}
use Rattle.meaning.specs.Layers.{Summary, Spread, Layer, last_code, holds, least_from, smallest, summary, span, layer_of, code}
use Rattle.meaning.specs.Calls.{stored_exponent}
use Rattle.meaning.proofs.Packing.{Spans, summary_spans, holds_order, least_holds, least_least, singles_held}
use Rattle.layer_width.specs.Width.{Width}
use Rattle.layer_width.proofs.Steps.{steps_few}
use Rattle.quick.specs.Coarse.{AllHeld}
use Rattle.summary.specs.Summaries.{Packable}
use Rattle.summary.proofs.Made.{Spreads, made, spreads}
use Rattle.codes.specs.Cut.{AllReady, layer_by}
use Rattle.codes.proofs.Wide.{layer_sizes}

-- the two values are finite, and differ
pub values : (mark : ℕ) (ws : List ℕ) (a z : ℕ) → Packable mark ws → ((i : ℕ) → Fits w32 (get_or ws i 0)) → summary 23 8 mark ws ≡ Spread a z → Spreads a z
values mark ws a z p f s = spreads mark ws a z (made mark ws p (λ i h. (f i).fits)) s

module _ (b : ℕ) (width : Width b) (mark : ℕ) (ws : List ℕ) (a z : ℕ) (p : Packable mark ws) (S : Spreads a z) (s : summary 23 8 mark ws ≡ Spread a z) where
  abbrev n : ℕ
  n = position 23 8 z - position 23 8 a

  abbrev e : ℕ
  e = least_from b n 277 0

  between : (i : ℕ) → i < length ws → get_or ws i 0 ≢ mark → (position 23 8 a ≤ position 23 8 (get_or ws i 0)) × (position 23 8 (get_or ws i 0) ≤ position 23 8 z)
  between i k q = subst (λ (x : Summary). Spans 23 8 x (position 23 8 (get_or ws i 0))) s (summary_spans 23 8 mark ws i k q)

  spanned : span 23 8 (summary 23 8 mark ws) ≡ n
  unfolding span
  spanned = ap (span 23 8) s

  most : holds b n 277 ≡ true
  most = subst (λ (x : ℕ). holds b x 277 ≡ true) spanned (singles_held mark b ws width.low p)

  held_by : n ≤ last_code b * 2 ^ e
  held_by = holds_order b n e (least_holds b n 277 0 most)

  held : n ≤ 65534 * 2 ^ e
  held = omega (arith, held_by, mul-le-mul_right (2 ^ e) (steps_few b width.high))

  pub few : e ≤ 277
  few = least_least b n 277 0 277 zero-le most

  pub size_low : size 23 (magnitude 23 8 a) < 2 ^ (e + 41)
  size_low = layer_sizes a z a e S.low S.high S.low S.differ held (omega arith) (omega (arith, S.differ))

  pub all_ready : AllReady mark a e ws
  all_ready i k q =
      record {
        finite = p i k q;
        size_w = layer_sizes a z (get_or ws i 0) e S.low S.high (p i k q) S.differ held (between i k q).0 (between i k q).1;
        above = (between i k q).0;
        holds = omega (arith, held, between i k q);
      }

  pub all_within : AllHeld mark a e b ws
  all_within i k q = omega (arith, held_by, between i k q)

  pub layer_is : layer_by b a e ≡ layer_of 23 8 277 mark b ws
  unfolding layer_of smallest span
  layer_is = ap (λ (x : Summary). record { width = b; reference = smallest x; exponent = least_from b (span 23 8 x) 277 0 }) (sym s)

  pub reference_is : a ≡ (layer_of 23 8 277 mark b ws).reference
  reference_is = ap (λ (l : Layer). l.reference) layer_is

  pub stored_is : (x : ℕ) → x ≡ e → sub_ℕ x 149 ≡ stored_exponent (layer_of 23 8 277 mark b ws)
  unfolding stored_exponent
  stored_is x q = ap (λ (y : ℕ). sub_ℕ y 149) (q ∙ ap (λ (l : Layer). l.exponent) layer_is)

  pub codes_are : (x : ℕ) → x ≡ e → map (code 23 8 mark (layer_by b a x)) ws ≡ map (code 23 8 mark (layer_of 23 8 277 mark b ws)) ws
  codes_are x q = ap (λ (l : Layer). map (code 23 8 mark l) ws) (ap (layer_by b a) q ∙ layer_is)
