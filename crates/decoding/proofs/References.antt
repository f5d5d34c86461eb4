-- A single as the layer's reference: it is finite exactly when its pattern is, and then its value is the size of that pattern's magnitude, with its sign. For both formats.
use mathlib.Core.Path.{◌≡◌, refl, sym, ap, ◌∙◌, subst}
use mathlib.Core.Bool.{Bool, true, false, cond, not, true≢false}
use Prim.Native.Nat.{ℕ, zero, suc, ◌+◌, ◌-◌, ◌*◌, ◌/◌, ◌%◌, ◌^◌, ◌≤◌, ◌<◌}
use native.Mathlib.Nat.{div-lt_iff_lt-mul, le-div_iff_mul-le, dvd-mul_right, mod-lt, mod-mod_of_dvd, mul-pos}
use native.Mathlib.Decide.{dec_lt}
use native.Mathlib.Omega.{arith}
use borrow.Author.Tests.{eq-eqb, ne_eqb, lt-ltb, le-ltb}
use lib.Dec.{T, eqb, leb, ltb}
use lib.Pow.{pow_pos}
use lib.Ieee.{Float, nan, inf, Format, binary32, binary64, prec, low, hid, ones, top, odd, of_fields, of_bits, to_bits, fits}
use lib.Ieee.Bits.{of_bits-to_bits}
use lib.Ieee.Exact.{HasValue}
use Rattle.meaning.specs.Readings.{exponent_field, fraction, size, magnitude, finite}
use Rattle.absolute.proofs.Values.{exponent_bits, infinity_is, fields_value}
use Rattle.decoding.specs.Floats.{finite_float}

odd_finite : (d : ℕ) (s : Bool) (q k l : ℕ) → finite_float (odd d s q k l) ≡ true
unfolding odd
odd_finite d s zero k l = refl
odd_finite d s (suc q) k l = refl

some_ones : (f : Format) → eqb 0 (ones f) ≡ false
some_ones binary32 = refl
some_ones binary64 = refl

top_is : (f : Format) → top f ≡ 2 ^ (prec f - 1 + exponent_bits f)
top_is binary32 = refl
top_is binary64 = refl

fields_finite : (f : Format) (s : Bool) (e t : ℕ) → finite_float (of_fields f s e t) ≡ not (eqb e (ones f))
unfolding of_fields
fields_finite f s zero t = odd_finite (prec f) s t 0 (low f) ∙ sym (ap not (some_ones f))
fields_finite f s (suc x) t = go (eqb (suc x) (ones f)) (eqb t 0)
  where
    go : (b z : Bool) → finite_float (cond b (cond z (inf s) nan) (odd (prec f) s (hid f + t) x (low f))) ≡ not b
    go true true = refl
    go true false = refl
    go false z = odd_finite (prec f) s (hid f + t) x (low f)

module _ (f : Format) (w : ℕ) where
  abbrev F : ℕ
  F = prec f - 1

  abbrev X : ℕ
  X = exponent_bits f

  magnitude_is : magnitude F X w ≡ w % top f
  unfolding magnitude
  magnitude_is = ap (λ (t : ℕ). w % t) (sym (top_is f))

  -- the exponent field is all ones exactly where the pattern is not finite
  finite_field : finite F X w ≡ not (eqb (w % top f / hid f) (ones f))
  unfolding finite
  finite_field = rw (magnitude_is, infinity_is f) (go (dec_lt (w % top f) (ones f * hid f)))
    where
      p : 0 < hid f
      p = pow_pos (prec f - 1)

      most : w % top f / hid f < suc (ones f)
      most = (div-lt_iff_lt-mul p).1 (let u : w % top f < top f = mod-lt w (mul-pos p (let z : 0 < suc (ones f) = omega arith in z)) in omega arith)

      go : Dec (w % top f < ones f * hid f) → ltb (w % top f) (ones f * hid f) ≡ not (eqb (w % top f / hid f) (ones f))
      go (yes h) =
          let l : w % top f / hid f < ones f = (div-lt_iff_lt-mul p).1 h in
          lt-ltb (w % top f) (ones f * hid f) h ∙ sym (ap not (ne_eqb (w % top f / hid f) (ones f) (λ z. omega arith)))
      go (no h) =
          let l : ones f ≤ w % top f / hid f = (le-div_iff_mul-le p).1 (omega arith) in
          le-ltb (w % top f) (ones f * hid f) (omega arith) ∙ sym (ap not (eq-eqb (w % top f / hid f) (ones f) (omega (arith, most))))

  bits_finite : finite_float (of_bits f w) ≡ finite F X w
  unfolding of_bits
  bits_finite = fields_finite f _ (w % top f / hid f) (w % hid f) ∙ sym finite_field

  field_not_ones : finite F X w ≡ true → w % top f / hid f ≡ ones f → ⊥
  field_not_ones h z = true≢false (sym h ∙ finite_field ∙ ap not (eq-eqb (w % top f / hid f) (ones f) z))

  pub bits_value : finite F X w ≡ true → HasValue (of_bits f w) (leb (top f) w) (size F (magnitude F X w)) (2 ^ low f)
  unfolding of_bits size exponent_field fraction
  bits_value h =
      rw (magnitude_is, mod-mod_of_dvd (hid f) w (dvd-mul_right (hid f) (suc (ones f))))
      (fields_value f (leb (top f) w) (w % top f / hid f) (w % hid f) (field_not_ones h))

-- a value of the format, by its pattern
module _ (f : Format) (x : Float) (h : T (fits f x)) where
  back : of_bits f (to_bits f x) ≡ x
  back = of_bits-to_bits f x h

  pub pattern_finite : finite_float x ≡ finite (prec f - 1) (exponent_bits f) (to_bits f x)
  pattern_finite = sym (ap finite_float back) ∙ bits_finite f (to_bits f x)

  pub pattern_value : finite_float x ≡ true
      → HasValue x (leb (top f) (to_bits f x)) (size (prec f - 1) (magnitude (prec f - 1) (exponent_bits f) (to_bits f x))) (2 ^ low f)
  pattern_value k =
      let w = to_bits f x in
      subst (λ (y : Float). HasValue y (leb (top f) w) (size (prec f - 1) (magnitude (prec f - 1) (exponent_bits f) w)) (2 ^ low f)) back
      (bits_value f w (sym pattern_finite ∙ k))
