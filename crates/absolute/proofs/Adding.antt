-- The float adder rounds to a multiple of 2 ^ q: the sum of a size below 2 ^ (F + q) least spacings and 2 ^ (F + q) lies in the binade whose spacing is 2 ^ q, where the
-- nearest value, ties to even, is the nearest multiple, and 2 ^ (F + q) is an even multiple. The difference is exact.
use mathlib.Core.Path.{◌≡◌, refl, sym, ap, ◌∙◌, subst}
use mathlib.Core.Bool.{false, not}
use Prim.Native.Nat.{ℕ, ◌+◌, ◌-◌, ◌*◌, ◌/◌, ◌%◌, ◌^◌, ◌≤◌, ◌<◌, compare, Ordering}
use native.Mathlib.Nat.{add-mul-div_right, add-mul-mod_self_right, lt_of_le_of_lt, lt_of_lt_of_le, lt_of_not-le, mul_assoc, mul-div_cancel, mul-le-mul_right, mul-pos, not-le_of_lt}
use native.Mathlib.Decide.{dec_lt}
use native.Mathlib.Omega.{arith}
use lib.Arith.{lt_of_le-ne}
use lib.Dec.{T, is_le, compare_is_eq, eqb, leb→le, nleb→lt, eqb→eq, eqb_refl}
use lib.Pow.{pow_pos, pow-add, pow-lt, pow_mono}
use lib.Ieee.{Float, Format, binary32, binary64, prec, emax, low, round, add, sub, nearest as nearestBy, size as length}
use lib.Ieee.Digits.{size-le, size-lt}
use lib.Ieee.Exact.{HasValue, round_exact}
use lib.Ieee.Fits.{two}
use lib.Ieee.Nearest.{closest, closest_same}
use lib.Ieee.Scale.{grid, overflow, round_val}
use Rattle.meaning.specs.Methods.{nearest}
use Rattle.meaning.proofs.Nearest.{nearest_down, nearest_up, nearest_tie, nearest_between}
use Rattle.absolute.proofs.Values.{add_values, sub_values}

-- the kit's nearest whole number is document 01's
pub closest_is : (n g : ℕ) → closest n g ≡ nearest n g
closest_is n g =
    go (compare r g) (leb→le r g) (nleb→lt r g) (eqb→eq r g) (λ (e : r ≡ g). subst (λ (x : ℕ). T (eqb r x)) e (eqb_refl r))
  where
    r : ℕ
    r = n % g * 2

    go : (o : Ordering) → (T (is_le o) → r ≤ g) → (T (not (is_le o)) → g < r) → (T (compare_is_eq o) → r ≡ g) → (r ≡ g → T (compare_is_eq o)) → nearestBy (n / g) o ≡ nearest n g
    go Ordering.lt h k e d = sym (nearest_down n g (omega (arith, lt_of_le-ne (h tt) d)))
    go Ordering.eq h k e d = sym (nearest_tie n g (omega (arith, e tt)))
    go Ordering.gt h k e d = omega (arith, nearest_up n g (omega (arith, k tt)))

-- an even multiple passes through
nearest_plus : (n j g : ℕ) → 0 < g → nearest (n + 2 * j * g) g ≡ nearest n g + 2 * j
nearest_plus n j g p = go (dec_lt (2 * (n % g)) g) (dec_lt g (2 * (n % g)))
  where
    m : (n + 2 * j * g) % g ≡ n % g
    m = add-mul-mod_self_right n (2 * j) g

    d : (n + 2 * j * g) / g ≡ n / g + 2 * j
    d = add-mul-div_right n (2 * j) p

    go : Dec (2 * (n % g) < g) → Dec (g < 2 * (n % g)) → nearest (n + 2 * j * g) g ≡ nearest n g + 2 * j
    go (yes h) x = nearest_down (n + 2 * j * g) g (rw m h) ∙ d ∙ ap (λ (y : ℕ). y + 2 * j) (sym (nearest_down n g h))
    go (no h) (yes x) = nearest_up (n + 2 * j * g) g (rw m x) ∙ rw (d, nearest_up n g x) (omega arith)
    go (no h) (no x) = nearest_tie (n + 2 * j * g) g (rw m (omega arith)) ∙ rw (d, nearest_tie n g (omega arith)) (omega arith)

-- ---- one binade

-- 2 ^ F, with F fraction bits, is half of 2 ^ prec and an even number
pub double_hidden : (f : Format) → 2 ^ prec f ≡ 2 * 2 ^ (prec f - 1)
double_hidden binary32 = refl
double_hidden binary64 = refl

even_hidden : (f : Format) → 2 ^ (prec f - 1) ≡ 2 * 2 ^ (prec f - 2)
even_hidden binary32 = refl
even_hidden binary64 = refl

top_is : (f : Format) (q : ℕ) → 2 ^ (prec f + q) ≡ 2 * 2 ^ (prec f - 1) * 2 ^ q
top_is f q = pow-add 2 (prec f) q ∙ ap (λ (x : ℕ). x * 2 ^ q) (double_hidden f)

-- what lies below 2 ^ (prec + q) least spacings is finite
below_overflow : (f : Format) (q : ℕ) → q + 2 ≤ 2 * emax f → 2 * 2 ^ (prec f - 1) * 2 ^ q < overflow f
below_overflow f q h = rw (sym (top_is f q)) (pow-lt (omega (arith, two f)))

-- rounding that drops q digits of N gives the nearest multiple of 2 ^ q
pub grid_is : (f : Format) (q N : ℕ) → length N - prec f ≡ q → grid f N (2 ^ low f) ≡ nearest N (2 ^ q) * 2 ^ q
grid_is f q N e =
    ap (λ (k : ℕ). closest (N * 2 ^ low f) (2 ^ low f * 2 ^ k) * 2 ^ k) (ap (λ (n : ℕ). length n - prec f) (mul-div_cancel N (pow_pos (low f))) ∙ e)
    ∙ ap (λ (x : ℕ). x * 2 ^ q)
    (closest_same (N * 2 ^ low f) (2 ^ low f * 2 ^ q) N (2 ^ q) (mul-pos (pow_pos (low f)) (pow_pos q)) (pow_pos q) (mul_assoc N (2 ^ low f) (2 ^ q)) ∙ closest_is N (2 ^ q))

module _ (f : Format) (q N : ℕ) (l : 2 ^ (prec f - 1) * 2 ^ q ≤ N) (h : N < 2 * 2 ^ (prec f - 1) * 2 ^ q) where
  -- N has prec + q digits, so that rounding drops q of them
  drop_is : length N - prec f ≡ q
  drop_is =
      let under : length N ≤ prec f + q = size-le N (prec f + q) (rw (top_is f q) h) in
      let over : prec f - 1 + q < length N = lt_of_not-le (λ (g : length N ≤ prec f - 1 + q). not-le_of_lt (lt_of_lt_of_le (size-lt N) (pow_mono g)) (rw (pow-add 2 (prec f - 1) q) l)) in
      omega (arith, two f)

  -- in that binade the nearest value is the nearest multiple of 2 ^ q
  round_binade : nearest N (2 ^ q) * 2 ^ q < overflow f → HasValue (round f false N (2 ^ low f)) false (nearest N (2 ^ q) * 2 ^ q) (2 ^ low f)
  round_binade o = let e = grid_is f q N drop_is in rw (sym e) (round_val f N (2 ^ low f) (rw e o))

-- ---- 2 ^ (F + q) added and taken off

module _ (f : Format) (q n : ℕ) (room : q + 2 ≤ 2 * emax f) (h : n < 2 ^ (prec f - 1) * 2 ^ q) (x y : Float)
    (vx : HasValue x false n (2 ^ low f)) (vy : HasValue y false (2 ^ (prec f - 1) * 2 ^ q) (2 ^ low f)) where
  few : nearest n (2 ^ q) ≤ 2 ^ (prec f - 1)
  few = (nearest_between 0 (2 ^ (prec f - 1)) n (2 ^ q) (pow_pos q) (omega arith) (omega arith)).1

  sum_nearest : nearest (n + 2 ^ (prec f - 1) * 2 ^ q) (2 ^ q) ≡ nearest n (2 ^ q) + 2 ^ (prec f - 1)
  sum_nearest = rw (even_hidden f) (nearest_plus n (2 ^ (prec f - 2)) (2 ^ q) (pow_pos q))

  pub sum_value : HasValue (add f x y) false ((nearest n (2 ^ q) + 2 ^ (prec f - 1)) * 2 ^ q) (2 ^ low f)
  sum_value =
      rw (sym sum_nearest, add_values f n (2 ^ (prec f - 1) * 2 ^ q) (2 ^ low f) (pow_pos (low f)) x y vx vy)
      (round_binade f q (n + 2 ^ (prec f - 1) * 2 ^ q) (omega arith) (omega arith)
      (rw sum_nearest (lt_of_le_of_lt (mul-le-mul_right (2 ^ q) (omega (arith, few))) (below_overflow f q room))))

  pub rounded_value : HasValue (sub f (add f x y) y) false (nearest n (2 ^ q) * 2 ^ q) (2 ^ low f)
  rounded_value =
      let K = nearest n (2 ^ q) in
      let H = 2 ^ (prec f - 1) in
      let e : (K + H) * 2 ^ q - H * 2 ^ q ≡ K * 2 ^ q = omega arith in
      rw (sub_values f ((K + H) * 2 ^ q) (H * 2 ^ q) (2 ^ low f) (pow_pos (low f)) (omega arith) (add f x y) y sum_value vy, e)
      (round_exact f false (K * 2 ^ q) (2 ^ low f) K q (pow_pos (low f)) (omega (arith, few, double_hidden f, pow_pos (prec f - 1)))
      (lt_of_le_of_lt (mul-le-mul_right (2 ^ q) (omega (arith, few))) (below_overflow f q room)) refl)
