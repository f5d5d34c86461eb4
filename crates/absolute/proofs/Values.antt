-- Floats by their values, for both formats: a finite magnitude has its size in least spacings, a value leads back to its pattern, and sums and differences of values
-- that are not negative. Nothing here rounds. A format f has prec f - 1 fraction bits, and its least spacing is 2 ^ -(low f).
use mathlib.Core.Path.{◌≡◌, refl, sym, ap, ◌∙◌, subst}
use mathlib.Core.Bool.{Bool, false, cond, not}
use Prim.Native.Nat.{ℕ, zero, suc, ◌+◌, ◌-◌, ◌*◌, ◌/◌, ◌%◌, ◌^◌, ◌≤◌, ◌<◌}
use native.Mathlib.Nat.{add_assoc, div-lt_iff_lt-mul, le_of_mul-le-mul_right, mod-eq_of_lt, mul_assoc, mul_comm, mul-div_cancel, mul-le-mul_right, mul-one, mul-pos, mul_right_comm, mul-sub, zero-add}
use native.Mathlib.Numerals.{sub-one}
use native.Mathlib.Omega.{arith}
use borrow.Author.Tests.{le-ltb, lt-leb, ne_eqb}
use lib.Dec.{T, eqb, eqb-suc-zero}
use lib.Pow.{pow_pos}
use lib.Ieee.{Float, nan, inf, fin, Format, binary32, binary64, prec, low, up, down, hid, ones, top, odd, round, sum, add, sub, neg, of_fields, of_bits, to_bits, nan_bits, is_nan, fits, size as length}
use lib.Ieee.Bits.{nan_bits_is, of_bits-to_bits, to_bits-of_bits}
use lib.Ieee.Exact.{HasValue, odd_sign}
use lib.Ieee.Fits.{down_pos}
use lib.Ieee.Scale.{round_same}
use Rattle.meaning.specs.Readings.{exponent_field, fraction, size, infinity}
use Rattle.absolute.proofs.NotNan.{value_number}

-- the number of bits of a format's exponent field
abbrev pub exponent_bits : Format → ℕ
exponent_bits binary32 = 8
exponent_bits binary64 = 11

pub infinity_is : (f : Format) → infinity (prec f - 1) (exponent_bits f) ≡ ones f * hid f
unfolding infinity
infinity_is binary32 = refl
infinity_is binary64 = refl

-- ---- from a magnitude to its value

-- a magnitude's fields, with no sign
fields : (f : Format) (m : ℕ) → m < top f → of_bits f m ≡ of_fields f false (m / hid f) (m % hid f)
unfolding of_bits
fields f m h =
    ap (λ (t : Bool). of_fields f t (m % top f / hid f) (m % hid f)) (lt-leb (top f) m h)
    ∙ ap (λ (k : ℕ). of_fields f false (k / hid f) (m % hid f)) (mod-eq_of_lt h)

-- and the value that they stand for, with any sign
pub fields_value : (f : Format) (s : Bool) (e t : ℕ) → (e ≡ ones f → ⊥) → HasValue (of_fields f s e t) s (cond (eqb e 0) t ((hid f + t) * 2 ^ (e - 1))) (2 ^ low f)
unfolding of_fields
fields_value f s zero t h = subst (λ (n : ℕ). HasValue (odd (prec f) s t 0 (low f)) s n (2 ^ low f)) (mul-one t) (odd_sign (prec f) s t 0 (low f))
fields_value f s (suc x) t h = rw (ne_eqb (suc x) (ones f) h, eqb-suc-zero, sub-one (suc x)) (odd_sign (prec f) s (hid f + t) x (low f))

-- a pattern turns on the sign and the value alone
value_bits : (f : Format) (x : Float) (s : Bool) (a : ℕ) → HasValue x s a (2 ^ low f)
    → to_bits f x ≡ cond s (top f) 0 + ((length a - prec f) * hid f + a / 2 ^ (length a - prec f))
unfolding to_bits
value_bits f nan s a h = absurd h
value_bits f (inf t) s a h = absurd h
value_bits f (fin t m e) s a h = rw (h.0, h.1, mul-div_cancel a (down_pos e)) (add_assoc (cond s (top f) 0) _ _)

-- and so two values of a format with one sign and one size are the same
pub same_value : (f : Format) (s : Bool) (a : ℕ) (x y : Float) → T (fits f x) → T (fits f y) → HasValue x s a (2 ^ low f) → HasValue y s a (2 ^ low f) → x ≡ y
same_value f s a x y p q h k = sym (of_bits-to_bits f x p) ∙ ap (of_bits f) (value_bits f x s a h ∙ sym (value_bits f y s a k)) ∙ of_bits-to_bits f y q

-- the same value in finer units
pub value_finer : (x : Float) (s : Bool) (a c k : ℕ) → HasValue x s a c → HasValue x s (a * k) (c * k)
value_finer nan s a c k h = absurd h
value_finer (inf t) s a c k h = absurd h
value_finer (fin t m e) s a c k h = (h.0, sym (mul_assoc (m * up e) c k) ∙ ap (λ (x : ℕ). x * k) h.1 ∙ mul_right_comm a (down e) k)

module _ (f : Format) (m : ℕ) (h : m < infinity (prec f - 1) (exponent_bits f)) where
  under : m < ones f * hid f
  under = rw (infinity_is f) at h

  under_top : m < top f
  under_top = omega (arith, under)

  -- the value of a finite magnitude is its size
  pub bits_size : HasValue (of_bits f m) false (size (prec f - 1) m) (2 ^ low f)
  unfolding size exponent_field fraction
  bits_size =
      let e : m / hid f < ones f = (div-lt_iff_lt-mul (pow_pos (prec f - 1))).1 under in
      subst (λ (x : Float). HasValue x false (size (prec f - 1) m) (2 ^ low f)) (sym (fields f m under_top))
      (fields_value f false (m / hid f) (m % hid f) (λ z. let y : m / hid f ≡ ones f = z in omega arith))

  number : T (not (is_nan (of_bits f m)))
  number = value_number (of_bits f m) false (size (prec f - 1) m) (2 ^ low f) bits_size

  pub bits_number : T (not (nan_bits f m))
  bits_number = rw (nan_bits_is f m) number

  -- and back: what has the size of a finite magnitude has that magnitude, with its sign above it
  pub signed_bits : (x : Float) (s : Bool) → HasValue x s (size (prec f - 1) m) (2 ^ low f) → to_bits f x ≡ cond s (top f) 0 + m
  signed_bits x s v =
      value_bits f x s (size (prec f - 1) m) v
      ∙ ap (λ (y : ℕ). cond s (top f) 0 + y)
      (sym (zero-add _) ∙ sym (value_bits f (of_bits f m) false (size (prec f - 1) m) bits_size) ∙ to_bits-of_bits f m (omega (arith, under_top)) number)

  pub size_bits : (x : Float) → HasValue x false (size (prec f - 1) m) (2 ^ low f) → to_bits f x ≡ m
  size_bits x v = signed_bits x false v ∙ zero-add m

-- ---- sums and differences: what is left to round

-- fractions over a common denominator
pub left_cross : (A a c d e : ℕ) → A * c ≡ a * e → A * d * c ≡ a * (e * d)
left_cross A a c d e h = rw (mul_right_comm A d c, h) (mul_assoc a e d)

pub right_cross : (B b c d e : ℕ) → B * c ≡ b * d → B * e * c ≡ b * (e * d)
right_cross B b c d e h = left_cross B b c e d h ∙ ap (λ (x : ℕ). b * x) (mul_comm d e)

pub minus_cross : (A B C a b c : ℕ) → A * c ≡ a * C → B * c ≡ b * C → (A - B) * c ≡ (a - b) * C
minus_cross A B C a b c h k = rw (mul_comm (A - B) c, mul-sub c A B, mul_comm c A, mul_comm c B, h, k, mul_comm (a - b) C, mul-sub C a b) (omega arith)

pub less_cross : (A B C a b c : ℕ) → 0 < c → A * c ≡ a * C → B * c ≡ b * C → b ≤ a → B ≤ A
less_cross A B C a b c p h k l = le_of_mul-le-mul_right (omega (arith, mul-le-mul_right C l)) p

module _ (f : Format) (a b c : ℕ) (p : 0 < c) where
  pub add_values : (x y : Float) → HasValue x false a c → HasValue y false b c → add f x y ≡ round f false (a + b) c
  unfolding add sum
  add_values nan y h k = absurd h
  add_values (inf s) y h k = absurd h
  add_values (fin s m e) nan h k = absurd k
  add_values (fin s m e) (inf t) h k = absurd k
  add_values (fin s m e) (fin t n d) h k =
      let l = left_cross (m * up e) a c (down d) (down e) h.1 in
      let r = right_cross (n * up d) b c (down d) (down e) k.1 in
      rw (h.0, k.0)
      (round_same f false (m * up e * down d + n * up d * down e) (down e * down d) (a + b) c (mul-pos (down_pos e) (down_pos d)) p (omega arith))

  pub sub_values : b ≤ a → (x y : Float) → HasValue x false a c → HasValue y false b c → sub f x y ≡ round f false (a - b) c
  unfolding sub add neg sum
  sub_values o nan y h k = absurd h
  sub_values o (inf s) y h k = absurd h
  sub_values o (fin s m e) nan h k = absurd k
  sub_values o (fin s m e) (inf t) h k = absurd k
  sub_values o (fin s m e) (fin t n d) h k =
      let A = m * up e * down d in
      let B = n * up d * down e in
      let C = down e * down d in
      let l = left_cross (m * up e) a c (down d) (down e) h.1 in
      let r = right_cross (n * up d) b c (down d) (down e) k.1 in
      rw (h.0, k.0, le-ltb A B (less_cross A B C a b c p l r o))
      (round_same f false (A - B) C (a - b) c (mul-pos (down_pos e) (down_pos d)) p (minus_cross A B C a b c l r))
