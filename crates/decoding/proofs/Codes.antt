-- One code: the pattern of the float formula is that of the double nearest to the code's exact meaning, R plus code times the step, with nothing else rounded;
-- it is finite, and an exact zero is +0. So each code unpacks to what document 01 says.
use mathlib.Core.Path.{◌≡◌, refl, sym, ap, ◌∙◌}
use mathlib.Core.Logic.{◌≢◌}
use mathlib.Core.Bool.{Bool, true, false, cond}
use Prim.Native.Nat.{ℕ, suc, ◌+◌, ◌-◌, ◌*◌, ◌^◌, ◌≤◌, ◌<◌}
use native.Mathlib.Nat.{lt_of_le_of_lt, lt_of_lt_of_le, mul_assoc, pow-suc, zero-mul}
use native.Mathlib.Decide.{dec_lt}
use native.Mathlib.Omega.{arith}
use borrow.Author.Tests.{leb-true, leb-false, le-leb, lt-leb, lt-ltb, le-ltb}
use lib.Dec.{T, leb, eqb}
use lib.IntN.{ℤ, pos}
use lib.Pow.{pow_pos, pow-add, pow_mono, shl_lt}
use lib.Ieee.{Float, binary32, binary64, round, of_int, to_bits, fits}
use lib.Ieee.Exact.{HasValue}
use lib.Ieee.Scale.{round_same}
use Rattle.meaning.specs.Readings.{spacing_exp, spacing, size, sign, magnitude, pattern, infinity, magnitude_of, least_exp, origin, position}
use Rattle.meaning.specs.Methods.{nearest}
use Rattle.meaning.specs.Layers.{missing_code, code_meaning, nearest_magnitude, nearest_double, unpacked_code}
use Rattle.meaning.specs.Questions.{above, exponent_in_range}
use Rattle.meaning.specs.Calls.{stored_layer}
use Rattle.meaning.proofs.Nearest.{nearest_multiple}
use Rattle.meaning.proofs.Sizes.{size_small}
use Rattle.meaning.proofs.Patterns.{magnitude_of_size, finite_below, position_plus, position_minus, size_below}
use Rattle.decoding.specs.declared.LayerFloats.{LayerFloats}
use Rattle.decoding.specs.Floats.{finite_float, two_to, unpacked, decoded, RoundedOnce}
use Rattle.decoding.proofs.Nearest.{nearest_finite, nearest_bits, infinity_size}
use Rattle.decoding.proofs.References.{pattern_finite, pattern_value}
use Rattle.decoding.proofs.Equal.{codes_equal}
use Rattle.decoding.proofs.Sums.{exponent_most, product_exact, unpacked_plus, unpacked_minus}

sign_above : (s : Bool) (m : ℕ) → cond s (2 ^ 63) 0 + m ≡ pattern 52 11 (cond s 1 0) m
unfolding pattern
sign_above true m = refl
sign_above false m = refl

pub sign_plus : (w : ℕ) → leb (2 ^ 31) w ≡ false → sign 23 8 w ≡ 0
unfolding sign
sign_plus w e = omega (arith, leb-false (2 ^ 31) w e)

pub sign_minus : (w : ℕ) → leb (2 ^ 31) w ≡ true → sign 23 8 w ≢ 0
unfolding sign
sign_minus w e z = omega (arith, leb-true (2 ^ 31) w e)

-- n least spacings of singles are so many of doubles
widened : (s : Bool) (n : ℕ) → round binary64 s n (2 ^ 149) ≡ round binary64 s (n * 2 ^ 925) (2 ^ 1074)
widened s n =
    round_same binary64 s n (2 ^ 149) (n * 2 ^ 925) (2 ^ 1074) (pow_pos 149) (pow_pos 1074) (ap (λ (x : ℕ). n * x) (pow-add 2 925 149) ∙ sym (mul_assoc n (2 ^ 925) (2 ^ 149)))

-- rounded to a double, they give a finite one and its pattern
rounded_finite : (s : Bool) (n : ℕ) → n < 2 ^ 294 → finite_float (round binary64 s n (2 ^ 149)) ≡ true
rounded_finite s n h = ap finite_float (widened s n) ∙ nearest_finite binary64 (n * 2 ^ 925) 1219 (omega arith) (shl_lt 294 925 h) s

rounded_bits : (s : Bool) (n : ℕ) → n < 2 ^ 294 → to_bits binary64 (round binary64 s n (2 ^ 149)) ≡ pattern 52 11 (cond s 1 0) (nearest_magnitude (n * 2 ^ 925))
unfolding nearest_magnitude
rounded_bits s n h = ap (to_bits binary64) (widened s n) ∙ nearest_bits binary64 (n * 2 ^ 925) 1219 (omega arith) (shl_lt 294 925 h) s ∙ sign_above s _

-- x is the double nearest to a position of singles, and finite
abbrev Lands : Float → ℕ → Type 0
Lands x p = (to_bits binary64 x ≡ nearest_double p) × (finite_float x ≡ true)

-- from zero on, and below zero
from_zero : (x : Float) (p n : ℕ) → x ≡ round binary64 false n (2 ^ 149) → p ≡ origin 23 8 + n → n < 2 ^ 294 → Lands x p
unfolding nearest_double least_exp
from_zero x p n r e h =
    let d : p - origin 23 8 ≡ n = omega arith in
    rw r (rounded_bits false n h ∙ rw (le-leb (origin 23 8) p (omega arith), d) refl, rounded_finite false n h)

below_zero : (x : Float) (p n : ℕ) → x ≡ round binary64 true n (2 ^ 149) → p + n ≡ origin 23 8 → 0 < n → n < 2 ^ 294 → Lands x p
unfolding nearest_double least_exp
below_zero x p n r e k h =
    let d : origin 23 8 - p ≡ n = omega arith in
    rw r (rounded_bits true n h ∙ rw (lt-leb (origin 23 8) p (omega arith), d) refl, rounded_finite true n h)

finite_zero : 0 < infinity 52 11
unfolding infinity
finite_zero = omega arith

magnitude_zero : nearest_magnitude 0 ≡ 0
unfolding nearest_magnitude spacing
magnitude_zero =
    let g = 2 ^ spacing_exp 52 (magnitude_of 52 11 0) in
    ap (λ (n : ℕ). magnitude_of 52 11 (n * g)) (ap (λ (n : ℕ). nearest n g) (sym (zero-mul g)) ∙ nearest_multiple 0 g (pow_pos (spacing_exp 52 (magnitude_of 52 11 0))))
    ∙ ap (magnitude_of 52 11) (zero-mul g ∙ sym (size_small 52 0 (pow_pos 52)))
    ∙ magnitude_of_size 52 11 0 finite_zero

nearest_zero : nearest_double (origin 23 8) ≡ 0
unfolding nearest_double least_exp pattern
nearest_zero =
    let z : origin 23 8 - origin 23 8 ≡ 0 = omega arith in
    rw (le-leb (origin 23 8) (origin 23 8) (omega arith), z) (simp (zero-mul, magnitude_zero))

missing_few : (width : ℕ) → width ≤ 16 → missing_code width < 2 ^ 16
unfolding missing_code
missing_few width h = omega (arith, pow_mono {i = width} {j = 16} h, pow_pos width)

both_small : (k a b : ℕ) → a < 2 ^ k → b < 2 ^ k → a + b < 2 ^ suc k
both_small k a b h l = rw (pow-suc 2 k) (omega arith)

origin_size : origin 23 8 ≡ 2 ^ 277
unfolding origin
origin_size = infinity_size binary32

module _ (l : LayerFloats) (e : ℤ) (fit : T (fits binary32 l.reference)) (fin : finite_float l.reference ≡ true)
    (t : exponent_in_range e ≡ true) (q : l.step ≡ two_to e) (code : ℕ) (h : code < 2 ^ 16) where
  abbrev w : ℕ
  w = to_bits binary32 l.reference

  -- the reference's size, and the code times the step
  abbrev a : ℕ
  a = size 23 (magnitude 23 8 w)

  abbrev b : ℕ
  b = code * 2 ^ above 149 e

  a_below : a < origin 23 8
  a_below = size_below 23 8 (finite_below 23 8 w (sym (pattern_finite binary32 l.reference fit) ∙ fin))

  a_small : a < 2 ^ 293
  a_small = lt_of_lt_of_le (rw origin_size at a_below) (pow_mono {i = 277} {j = 293} (omega arith))

  b_small : b < 2 ^ 293
  b_small = lt_of_lt_of_le (shl_lt 16 (above 149 e) h) (pow_mono {i = 16 + above 149 e} {j = 293} (omega (arith, exponent_most e t)))

  all_small : (n : ℕ) → n ≤ a + b → n < 2 ^ 294
  all_small n k = lt_of_le_of_lt k (both_small 293 a b a_small b_small)

  lands : Lands (unpacked l code) (position 23 8 w + b)
  lands = go (leb (2 ^ 31) w) refl (pattern_value binary32 l.reference fit fin) (dec_lt b a)
    where
      go : (s : Bool) → leb (2 ^ 31) w ≡ s → HasValue l.reference s a (2 ^ 149) → Dec (b < a) → Lands (unpacked l code) (position 23 8 w + b)
      go false z v d =
          from_zero _ (position 23 8 w + b) (b + a) (unpacked_plus l code e a h t q v) (rw (position_plus 23 8 w (sign_plus w z)) (omega arith)) (all_small (b + a) (omega arith))
      go true z v (yes o) =
          below_zero _ (position 23 8 w + b) (a - b) (unpacked_minus l code e a h t q v ∙ rw (lt-ltb b a o) refl)
          (rw (position_minus 23 8 w (sign_minus w z)) (omega (arith, a_below))) (omega arith) (all_small (a - b) (omega arith))
      go true z v (no o) =
          let k : a ≤ b = omega arith in
          from_zero _ (position 23 8 w + b) (b - a) (unpacked_minus l code e a h t q v ∙ rw (le-ltb b a k) refl)
          (rw (position_minus 23 8 w (sign_minus w z)) (omega (arith, a_below))) (all_small (b - a) (omega arith))

  -- "so that only the addition rounds"
  pub once : (width : ℕ) → RoundedOnce l width e code
  unfolding code_meaning stored_layer
  once width =
      record {
        product = rw q (product_exact code e (omega arith) t);
        nearest = lands.0;
        finite = lands.1;
        zero = λ z. lands.0 ∙ ap nearest_double z ∙ nearest_zero;
      }

  pub code_decoded : (width mark : ℕ) → width ≤ 16 → l.missing ≡ of_int binary64 (pos (missing_code width)) → decoded l mark code ≡ unpacked_code mark (stored_layer width w e) code
  unfolding decoded unpacked_code stored_layer unpacked
  code_decoded width mark k m =
      rw (m, codes_equal code (missing_code width) (omega arith) (omega (arith, missing_few width k))) (ap (λ (x : ℕ). cond (eqb code (missing_code width)) mark x) (once width).nearest)
