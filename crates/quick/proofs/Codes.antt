-- The code of a reading in a layer whose step is not too wide beside the spacings: the last bits of a double.
use mathlib.Core.Path.{◌≡◌, refl, sym, ap, ◌∙◌}
use mathlib.Core.Logic.{inl, inr}
use mathlib.Core.Bool.{Bool, true, false}
use Prim.Native.Nat.{ℕ, ◌+◌, ◌-◌, ◌*◌, ◌%◌, ◌^◌, ◌≤◌, ◌<◌}
use native.Mathlib.Nat.{lt_of_mul-lt-mul_right, mul_assoc, zero-mul, mul-sub, mul_comm, mul-le-mul_right}
use native.Mathlib.Decide.{dec_le}
use native.Mathlib.Omega.{arith}
use lib.Dec.{leb}
use lib.Pow.{pow_pos, pow_mono, pow-add}
use lib.Ieee.{binary32, binary64, of_bits, to_bits, add, sub}
use Rattle.meaning.specs.Readings.{spacing_exp, size, magnitude, infinity, origin, position}
use Rattle.meaning.specs.Methods.{nearest}
use Rattle.meaning.specs.Layers.{last_code}
use Rattle.meaning.proofs.Powers.{pow_split}
use Rattle.meaning.proofs.Sizes.{Form, form, size_form, size_small}
use Rattle.meaning.proofs.Patterns.{below_finite, size_below, position_plus, position_minus}
use Rattle.absolute.proofs.Fine.{offset_value}
use Rattle.decoding.proofs.Codes.{sign_plus, sign_minus}
use Rattle.decoding.proofs.References.{bits_value}
use Rattle.codes.specs.Cut.{CanCode}
use Rattle.quick.specs.Coarse.{Coarse}
use Rattle.quick.proofs.Doubles.{Short, Apart, Gap, apart, code_bits}

-- a coarse reading's size is a multiple of 2 ^ j
record Whole (j n : ℕ) : Type 0 where
  times : ℕ
  is : n ≡ times * 2 ^ j

coarse_whole : (j w : ℕ) → Coarse j w → Whole j (size 23 (magnitude 23 8 w))
coarse_whole j w (inl z) = record { times = 0; is = ap (size 23) z ∙ size_small 23 0 (omega arith) ∙ sym (zero-mul (2 ^ j)) }
coarse_whole j w (inr (n, l)) =
    let m = magnitude 23 8 w in
    let f : Form 23 m = form 23 m in
    record {
      times = f.sig * 2 ^ (spacing_exp 23 m - j);
      is = size_form 23 m f ∙ ap (λ (y : ℕ). f.sig * y) (pow_split (spacing_exp 23 m) j l) ∙ sym (mul_assoc f.sig (2 ^ (spacing_exp 23 m - j)) (2 ^ j));
    }

-- a multiple of 2 ^ (e + b - 53) that is at most the steps of 2 ^ e of a width b has few digits
short : (b e n : ℕ) → b ≤ 16 → e ≤ 277 → n ≤ last_code b * 2 ^ e → Whole (e + b - 53) n → Short n
unfolding last_code
short b e n l k h w =
    record {
      digits = w.times;
      shift = e + b - 53;
      is = w.is;
      few = lt_of_mul-lt-mul_right (2 ^ (e + b - 53)) (omega (arith, w.is, top, wide (dec_le 53 (e + b)), pow_pos e));
      near = omega arith;
    }
  where
    top : (2 ^ b - 2) * 2 ^ e + 2 ^ e ≤ 2 ^ (e + b)
    top =
        let p : 2 ^ (e + b) ≡ 2 ^ b * 2 ^ e = pow-add 2 e b ∙ mul_comm (2 ^ e) (2 ^ b) in
        let q : (2 ^ b - 2 + 1) * 2 ^ e ≤ 2 ^ b * 2 ^ e = mul-le-mul_right (2 ^ e) (omega (arith, pow_pos b)) in
        omega (arith, p, q)

    wide : Dec (53 ≤ e + b) → 2 ^ (e + b) ≤ 2 ^ 53 * 2 ^ (e + b - 53)
    wide (yes x) = omega (arith, pow_split (e + b) 53 x)
    wide (no x) = omega (arith, pow_mono {i = e + b} {j = 53} (omega arith), pow_pos (e + b - 53))

sum_whole : (j a b n : ℕ) → n ≡ a + b → Whole j a → Whole j b → Whole j n
sum_whole j a b n e u v = record { times = u.times + v.times; is = omega (arith, u.is, v.is) }

minus_whole : (j a b n : ℕ) → b + n ≡ a → Whole j a → Whole j b → Whole j n
minus_whole j a b n e u v =
    record {
      times = u.times - v.times;
      is = less u.times v.times (2 ^ j) n (sym (ap (λ (x : ℕ). x + n) v.is) ∙ e ∙ u.is);
    }
  where
    less : (x y g n : ℕ) → y * g + n ≡ x * g → n ≡ (x - y) * g
    less x y g n h = omega (arith, mul_comm (x - y) g, mul-sub g x y, mul_comm g x, mul_comm g y)

-- ---- two readings

module _ (b' w r e : ℕ) (wide : b' ≤ 16) (c : CanCode w r e) (held : position 23 8 w - position 23 8 r ≤ last_code b' * 2 ^ e) (fr : magnitude 23 8 r < infinity 23 8) (few : e ≤ 277) (cw : Coarse (e + b' - 53) w) (cr : Coarse (e + b' - 53) r) where
  abbrev a : ℕ
  a = size 23 (magnitude 23 8 w)

  abbrev b : ℕ
  b = size 23 (magnitude 23 8 r)

  abbrev n : ℕ
  n = position 23 8 w - position 23 8 r

  al : a < origin 23 8
  al = size_below 23 8 c.finite

  bl : b < origin 23 8
  bl = size_below 23 8 fr

  gap : (s t : Bool) → leb (2 ^ 31) w ≡ s → leb (2 ^ 31) r ≡ t → Gap s t a b n
  gap false false p q = omega (arith, al, bl, c.above, position_plus 23 8 w (sign_plus w p), position_plus 23 8 r (sign_plus r q))
  gap false true p q = omega (arith, al, bl, c.above, position_plus 23 8 w (sign_plus w p), position_minus 23 8 r (sign_minus r q))
  gap true true p q = omega (arith, al, bl, c.above, position_minus 23 8 w (sign_minus w p), position_minus 23 8 r (sign_minus r q))
  gap true false p q =
      let x = position_minus 23 8 w (sign_minus w p) in
      let y = position_plus 23 8 r (sign_plus r q) in
      (omega (arith, al, bl, c.above), omega (arith, al, bl, c.above), omega (arith, al, bl, c.above))

  whole : (s t : Bool) → Gap s t a b n → Whole (e + b' - 53) n
  whole false false g = minus_whole (e + b' - 53) a b n g (coarse_whole (e + b' - 53) w cw) (coarse_whole (e + b' - 53) r cr)
  whole false true g = sum_whole (e + b' - 53) a b n g (coarse_whole (e + b' - 53) w cw) (coarse_whole (e + b' - 53) r cr)
  whole true true g = minus_whole (e + b' - 53) b a n g (coarse_whole (e + b' - 53) r cr) (coarse_whole (e + b' - 53) w cw)
  whole true false g = record { times = 0; is = g.2 ∙ sym (zero-mul (2 ^ (e + b' - 53))) }

  differ : Apart (sub binary64 (of_bits binary32 w) (of_bits binary32 r)) n
  differ =
      let s = leb (2 ^ 31) w in
      let t = leb (2 ^ 31) r in
      let g : Gap s t a b n = gap s t refl refl in
      apart (of_bits binary32 w) (of_bits binary32 r) s t a b n (bits_value binary32 w (below_finite 23 8 w c.finite)) (bits_value binary32 r (below_finite 23 8 r fr)) g
      (short b' e n wide few held (whole s t g))

  pub quick_code_is : to_bits binary64 (add binary64 (sub binary64 (of_bits binary32 w) (of_bits binary32 r)) (of_bits binary64 ((e + 926) * 2 ^ 52))) % 65536
      ≡ nearest (position 23 8 w - position 23 8 r) (2 ^ e)
  quick_code_is =
      let z : (e + 926) * 2 ^ 52 ≡ (e + 925 + 1) * 2 ^ 52 = omega arith in
      code_bits e n few c.holds (of_bits binary64 ((e + 926) * 2 ^ 52)) (offset_value binary64 (e + 925) ((e + 926) * 2 ^ 52) (omega arith) z) (sub binary64 (of_bits binary32 w) (of_bits binary32 r)) differ
