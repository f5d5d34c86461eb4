-- Method 5 by the float adder, for either format f with F fraction bits, and a unit 2 ^ q that is far enough from the end of its range. C is the magnitude of
-- 2 ^ (F + q) least spacings, from which on the spacing is at least 2 ^ q: below it C is added and taken off again, and from it on the reading stays.
use mathlib.Core.Path.{◌≡◌, refl, sym, ap, ◌∙◌}
use mathlib.Core.Logic.{inr}
use mathlib.Core.Bool.{false, not}
use Prim.Native.Nat.{ℕ, ◌+◌, ◌-◌, ◌*◌, ◌^◌, ◌≤◌, ◌<◌}
use native.Mathlib.Nat.{le_refl, mul-lt-mul_of_pos_right}
use native.Mathlib.Omega.{arith}
use lib.Dec.{T}
use lib.Pow.{pow_pos}
use lib.Ieee.{Format, binary32, binary64, prec, emax, low, add, sub, of_bits, to_bits, nan_bits}
use lib.Ieee.Exact.{HasValue}
use Rattle.meaning.specs.Readings.{size, infinity}
use Rattle.meaning.specs.Methods.{absolute, multiple, new_magnitude}
use Rattle.meaning.proofs.Absolute.{absolute_exact, lands_new, stays}
use Rattle.meaning.proofs.Rounding.{absolute_below, absolute_within}
use Rattle.meaning.proofs.Sizes.{size_at, size_mono}
use Rattle.absolute.proofs.Adding.{rounded_value}
use Rattle.absolute.proofs.Clip.{multiple_cap, spacing_from}
use Rattle.absolute.proofs.NotNan.{Number, difference_number}
use Rattle.absolute.proofs.Values.{exponent_bits, infinity_is, bits_number, bits_size, size_bits}

exponents : (f : Format) → 2 * emax f + 2 ≡ 2 ^ exponent_bits f
exponents binary32 = refl
exponents binary64 = refl

module _ (f : Format) (q C : ℕ) (room : q + 2 ≤ 2 * emax f) (is : C ≡ (q + 1) * 2 ^ (prec f - 1)) where
  offset_finite : C < infinity (prec f - 1) (exponent_bits f)
  offset_finite = rw (is, infinity_is f) (mul-lt-mul_of_pos_right (omega arith) (pow_pos (prec f - 1)))

  pub offset_number : T (not (nan_bits f C))
  offset_number = bits_number f C offset_finite

  offset_size : size (prec f - 1) C ≡ 2 ^ (prec f - 1) * 2 ^ q
  offset_size =
      let H = 2 ^ (prec f - 1) in
      ap (λ (x : ℕ). size (prec f - 1) x) (let e : C ≡ q * H + H = omega arith in e) ∙ size_at (prec f - 1) q H (inr (le_refl H)) (omega arith)

  pub offset_value : HasValue (of_bits f C) false (2 ^ (prec f - 1) * 2 ^ q) (2 ^ low f)
  offset_value = rw offset_size at (bits_size f C offset_finite)

  module _ (m : ℕ) (fin : m < infinity (prec f - 1) (exponent_bits f)) where
    pub moved_number : Number (sub f (add f (of_bits f m) (of_bits f C)) (of_bits f C))
    moved_number = difference_number f (of_bits f m) (of_bits f C) _ _ (2 ^ low f) (bits_size f m fin) offset_value

    -- nothing clips, so the new size is the multiple
    new_size : size (prec f - 1) (new_magnitude (prec f - 1) (exponent_bits f) (absolute q) 0 m) ≡ multiple (prec f - 1) q m
    new_size =
        absolute_exact (prec f - 1) (exponent_bits f) q 0 m fin
        ∙ absolute_within (prec f - 1) (exponent_bits f) q m (multiple_cap (prec f - 1) (exponent_bits f) q m (omega (arith, exponents f)) fin)

    pub fine_moves : m < C → to_bits f (sub f (add f (of_bits f m) (of_bits f C)) (of_bits f C)) ≡ new_magnitude (prec f - 1) (exponent_bits f) (absolute q) 0 m
    unfolding multiple
    fine_moves h =
        size_bits f (new_magnitude (prec f - 1) (exponent_bits f) (absolute q) 0 m) (absolute_below (prec f - 1) (exponent_bits f) q 0 m fin) _
        (rw new_size (rounded_value f q (size (prec f - 1) m) room (rw offset_size at (size_mono (prec f - 1) h)) _ _ (bits_size f m fin) offset_value))

    pub fine_stays : C ≤ m → m ≡ new_magnitude (prec f - 1) (exponent_bits f) (absolute q) 0 m
    fine_stays h = sym (lands_new (prec f - 1) (exponent_bits f) q 0 m m (stays (prec f - 1) (exponent_bits f) q m fin (spacing_from (prec f - 1) q m (rw is at h))))
