-- A subnormal reference is its magnitude times the least spacing, as a double too.
use mathlib.Core.Path.{◌≡◌, refl, sym, subst}
use mathlib.Core.Bool.{Bool, true, false}
use Prim.Native.Nat.{ℕ, ◌*◌, ◌%◌, ◌^◌, ◌<◌, ◌≤◌}
use native.Mathlib.Nat.{mul-one}
use native.Mathlib.Omega.{arith}
use borrow.Author.Tests.{le-leb, lt-leb}
use lib.Dec.{T, leb}
use lib.IntN.{pos, negsuc}
use lib.Pow.{pow-add}
use lib.Ieee.{Float, binary32, binary64, neg, mul, of_int, to_bits, fits}
use lib.Ieee.Exact.{HasValue}
use lib.Ieee.Fits.{fits_widens, mul-fits, neg-fits}
use Rattle.meaning.specs.Readings.{magnitude}
use Rattle.meaning.specs.Questions.{above}
use Rattle.meaning.proofs.Sizes.{size_small}
use Rattle.absolute.proofs.NotNan.{neg_value}
use Rattle.absolute.proofs.Values.{value_finer, same_value}
use Rattle.decoding.specs.Floats.{finite_float, two_to}
use Rattle.decoding.proofs.References.{pattern_value}
use Rattle.decoding.proofs.Sums.{product_exact}

-- a value in least spacings of doubles
in_doubles : (x : Float) (s : Bool) (a : ℕ) → HasValue x s a (2 ^ 149) → HasValue x s (a * 2 ^ 925) (2 ^ 1074)
in_doubles x s a h = rw (sym (pow-add 2 149 925)) (value_finer x s a (2 ^ 149) (2 ^ 925) h)

module _ (x : Float) (fit : T (fits binary32 x)) (finite : finite_float x ≡ true) where
  abbrev w : ℕ
  w = to_bits binary32 x

  abbrev m : ℕ
  m = w % 2147483648

  module _ (h : m < 8388608) where
    abbrev least : Float
    least = mul binary64 (of_int binary64 (pos m)) (two_to (negsuc 148))

    least_value : HasValue least false m (2 ^ 149)
    unfolding above
    least_value = subst (λ (n : ℕ). HasValue least false n (2 ^ 149)) (mul-one m) (product_exact m (negsuc 148) (omega arith) refl)

    subnormal_value : HasValue x (leb (2 ^ 31) w) m (2 ^ 149)
    unfolding magnitude
    subnormal_value = subst (λ (n : ℕ). HasValue x (leb (2 ^ 31) w) n (2 ^ 149)) (size_small 23 m h) (pattern_value binary32 x fit finite)

    -- with its sign: from zero on, and below it
    pub widened_plus : w < 2147483648 → least ≡ x
    widened_plus k =
        same_value binary64 false (m * 2 ^ 925) least x (mul-fits binary64 _ _) (fits_widens x fit) (in_doubles least false m least_value)
        (in_doubles x false m (rw (lt-leb (2 ^ 31) w k) at subnormal_value))

    pub widened_minus : 2147483648 ≤ w → neg least ≡ x
    widened_minus k =
        same_value binary64 true (m * 2 ^ 925) (neg least) x (neg-fits binary64 least (mul-fits binary64 _ _)) (fits_widens x fit)
        (in_doubles (neg least) true m (neg_value least false m (2 ^ 149) least_value)) (in_doubles x true m (rw (le-leb (2 ^ 31) w k) at subnormal_value))
