-- Nothing in the code of a reading is a NaN.
use mathlib.Core.Path.{◌≡◌, refl, subst}
use mathlib.Core.Logic.{◌≢◌}
use mathlib.Core.Bool.{Bool, false, cond, not}
use Prim.Native.Nat.{ℕ, ◌+◌, ◌*◌, ◌%◌, ◌^◌, ◌≤◌, ◌<◌}
use native.Mathlib.Decide.{ℕ_discrete}
use native.Mathlib.Omega.{arith}
use borrow.Author.Tests.{eq-eqb, ne_eqb}
use lib.Dec.{T, eqb}
use lib.Ieee.{binary32, binary64, of_bits, nan_bits, add, sub, neg}
use lib.Ieee.Bits.{nan_bits_is}
use Rattle.meaning.specs.Readings.{magnitude, infinity}
use Rattle.meaning.proofs.Patterns.{below_finite}
use Rattle.absolute.proofs.NotNan.{Number, add_number, neg_value}
use Rattle.absolute.proofs.Fine.{offset_value}
use Rattle.decoding.proofs.References.{bits_value}
use Rattle.summary.proofs.Patterns.{no_nan}

-- the pattern that is coded
pub coded : (w mark r p : ℕ) → (w ≢ mark → magnitude 23 8 w < infinity 23 8) → magnitude 23 8 r < infinity 23 8 → p ≡ cond (eqb w mark) r w → magnitude 23 8 p < infinity 23 8
coded w mark r p f g e = go (ℕ_discrete w mark)
  where
    go : Dec (w ≡ mark) → magnitude 23 8 p < infinity 23 8
    go (yes z) = rw (e, eq-eqb w mark z) g
    go (no z) = rw (e, ne_eqb w mark z) (f z)

infinity_is : infinity 23 8 ≡ 2139095040
unfolding infinity
infinity_is = refl

pub single_number : (w : ℕ) → magnitude 23 8 w < infinity 23 8 → T (not (nan_bits binary32 w))
unfolding magnitude
single_number w h = no_nan binary32 w (omega (arith, h, infinity_is))

pub float_number : (w : ℕ) → magnitude 23 8 w < infinity 23 8 → Number (of_bits binary32 w)
float_number w h = subst (λ (b : Bool). T (not b)) (nan_bits_is binary32 w) (single_number w h)

pub lift_number : (e : ℕ) → e ≤ 277 → T (not (nan_bits binary64 ((e + 926) * 2 ^ 52)))
lift_number e h = no_nan binary64 ((e + 926) * 2 ^ 52) (omega arith)

pub sum_number : (p r e : ℕ) → magnitude 23 8 p < infinity 23 8 → magnitude 23 8 r < infinity 23 8 → e ≤ 277
    → Number (add binary64 (sub binary64 (of_bits binary32 p) (of_bits binary32 r)) (of_bits binary64 ((e + 926) * 2 ^ 52)))
unfolding sub
sum_number p r e f g h =
    let z : (e + 926) * 2 ^ 52 ≡ (e + 925 + 1) * 2 ^ 52 = omega arith in
    add_number binary64 _ (of_bits binary64 ((e + 926) * 2 ^ 52)) false _ (2 ^ 1074)
    (add_number binary64 (of_bits binary32 p) (neg (of_bits binary32 r)) _ _ (2 ^ 149) (float_number p f) (neg_value (of_bits binary32 r) _ _ (2 ^ 149) (bits_value binary32 r (below_finite 23 8 r g))))
    (offset_value binary64 (e + 925) ((e + 926) * 2 ^ 52) (omega arith) z)

-- the pattern of 2 ^ 52 steps, as the code shifts it
pub lift_fits : (e : ℕ) → e ≤ 277 → (e + 926) * 2 ^ 52 % 2 ^ 64 ≡ (e + 926) * 2 ^ 52
lift_fits e h = omega arith
