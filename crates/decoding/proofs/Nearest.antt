-- The kit's rounding is document 01's: of a whole number N of least spacings, the pattern of the nearest float is its sign and the nearest magnitude.
-- Rounding drops as many binary digits of N as the exponent of the spacing at N says, and a multiple of that spacing in N's closed binade is a magnitude's size.
use mathlib.Core.Path.{◌≡◌, sym, ap, ◌∙◌}
use mathlib.Core.Logic.{◌⊎◌, inl, inr}
use mathlib.Core.Bool.{Bool, true, cond}
use Prim.Native.Nat.{ℕ, suc, ◌+◌, ◌-◌, ◌*◌, ◌^◌, ◌≤◌, ◌<◌}
use native.Mathlib.Nat.{le_refl, le_trans, lt_of_le_of_lt, lt_of_lt_of_le, lt_of_not-le, mul-le-mul_right, mul-lt-mul_of_pos_right, not-le_of_lt}
use native.Mathlib.Omega.{arith}
use lib.Pow.{pow_pos, pow-add, pow-lt, pow_mono}
use lib.Ieee.{Format, binary32, binary64, prec, emax, low, ones, top, round, to_bits, size as length}
use lib.Ieee.Digits.{size-le as length-le, size-lt as length-lt}
use lib.Ieee.Exact.{HasValue, units_val}
use lib.Ieee.Fits.{two, reach, round_is}
use lib.Ieee.Order.{drop, kept}
use lib.Ieee.Scale.{grid, overflow}
use Rattle.meaning.specs.Readings.{spacing_exp, spacing, size, infinity, magnitude_of}
use Rattle.meaning.specs.Methods.{nearest}
use Rattle.meaning.proofs.Nearest.{nearest_between}
use Rattle.meaning.proofs.Patterns.{magnitude_of_size, magnitude_of_floor}
use Rattle.meaning.proofs.Sizes.{form, size_at, size_form}
use Rattle.absolute.proofs.Adding.{grid_is}
use Rattle.absolute.proofs.Values.{exponent_bits, infinity_is, signed_bits}
use Rattle.decoding.specs.Floats.{finite_float}
use Rattle.decoding.proofs.Numbers.{value_finite}

-- a rounded value with its sign
pub round_value : (f : Format) (s : Bool) (a c : ℕ) → grid f a c < overflow f → HasValue (round f s a c) s (grid f a c) (2 ^ low f)
round_value f s a c h = rw (round_is f s a c) (units_val f s (kept (prec f) (a * 2 ^ low f) c) (drop (prec f) (a * 2 ^ low f) c) h)

hidden_twice : (f : Format) (c : ℕ) → 2 ^ (prec f + c) ≡ 2 * 2 ^ (prec f - 1) * 2 ^ c
hidden_twice binary32 c = pow-add 2 24 c
hidden_twice binary64 c = pow-add 2 53 c

-- the infinities' size is where the format overflows
pub infinity_size : (f : Format) → size (prec f - 1) (infinity (prec f - 1) (exponent_bits f)) ≡ overflow f
infinity_size f =
    let H = 2 ^ (prec f - 1) in
    let e : ones f * H ≡ 2 * emax f * H + H = omega arith in
    ap (λ (m : ℕ). size (prec f - 1) m) (infinity_is f ∙ e)
    ∙ size_at (prec f - 1) (2 * emax f) H (inr (le_refl H)) (omega arith)
    ∙ sym (pow-add 2 (prec f - 1) (2 * emax f))
    ∙ ap (λ (n : ℕ). 2 ^ n) (omega (arith, two f))

-- N is below 2 ^ b least spacings, which is far enough below the infinities that nothing overflows
module _ (f : Format) (N b : ℕ) (room : b + 2 ≤ prec f + 2 * emax f) (h : N < 2 ^ b) where
  abbrev F : ℕ
  F = prec f - 1

  abbrev X : ℕ
  X = exponent_bits f

  -- the magnitude below N, and the exponent of its spacing
  abbrev m : ℕ
  m = magnitude_of F X N

  abbrev c : ℕ
  c = spacing_exp F m

  finite_size : N < size F (infinity F X)
  finite_size = rw (infinity_size f) (lt_of_lt_of_le h (pow_mono (omega (arith, two f))))

  high : (c ≡ 0) ⊎ (2 ^ F ≤ (form F m).sig) → (c ≡ 0) ⊎ (2 ^ F ≤ suc (form F m).sig)
  high (inl z) = inl z
  high (inr l) = inr (omega arith)

  -- N lies in the closed binade
  under : N < 2 * 2 ^ F * 2 ^ c
  under =
      let s = form F m in
      let e : suc m ≡ c * 2 ^ F + suc s.sig = omega (arith, s.is) in
      let u : N < suc s.sig * 2 ^ c = rw (e, size_at F c (suc s.sig) (high s.above) s.below) at (magnitude_of_floor F X N finite_size).1 in
      lt_of_lt_of_le u (mul-le-mul_right (2 ^ c) s.below)

  over : (c ≡ 0) ⊎ (2 ^ F ≤ (form F m).sig) → (c ≡ 0) ⊎ (2 ^ F * 2 ^ c ≤ N)
  over (inl z) = inl z
  over (inr l) = inr (le_trans (mul-le-mul_right (2 ^ c) l) (rw (size_form F m (form F m)) at (magnitude_of_floor F X N finite_size).0))

  -- rounding drops c digits of N
  drops : length N - prec f ≡ c
  drops = go (over (form F m).above)
    where
      few : length N ≤ prec f + c
      few = length-le N (prec f + c) (rw (hidden_twice f c) under)

      go : (c ≡ 0) ⊎ (2 ^ F * 2 ^ c ≤ N) → length N - prec f ≡ c
      go (inl z) = omega (arith, few)
      go (inr l) =
          let many : F + c < length N = lt_of_not-le (λ (g : length N ≤ F + c). not-le_of_lt (lt_of_lt_of_le (length-lt N) (pow_mono g)) (rw (pow-add 2 F c) l)) in
          omega (arith, few, two f)

  -- the nearest number of spacings, and the magnitude that has them
  abbrev y : ℕ
  y = nearest N (2 ^ c)

  abbrev v : ℕ
  v = c * 2 ^ F + y

  y_most : y ≤ 2 * 2 ^ F
  y_most = (nearest_between 0 (2 * 2 ^ F) N (2 ^ c) (pow_pos c) (omega arith) (omega (arith, under))).1

  y_least : (c ≡ 0) ⊎ (2 ^ F * 2 ^ c ≤ N) → (c ≡ 0) ⊎ (2 ^ F ≤ y)
  y_least (inl z) = inl z
  y_least (inr l) = inr (nearest_between (2 ^ F) (2 * 2 ^ F) N (2 ^ c) (pow_pos c) l (omega (arith, under))).0

  v_size : size F v ≡ y * 2 ^ c
  v_size = size_at F c y (y_least (over (form F m).above)) y_most

  v_finite : v < infinity F X
  v_finite =
      rw (infinity_is f)
      (lt_of_le_of_lt (let o : v ≤ (c + 2) * 2 ^ F = omega (arith, y_most) in o) (mul-lt-mul_of_pos_right (omega (arith, drops, length-le N b h, two f, reach f)) (pow_pos F)))

  no_overflow : grid f N (2 ^ low f) < overflow f
  no_overflow =
      rw (grid_is f c N drops)
      (lt_of_le_of_lt (mul-le-mul_right (2 ^ c) y_most) (rw (sym (hidden_twice f c)) (pow-lt (omega (arith, drops, length-le N b h, two f, reach f)))))

  nearest_value : (s : Bool) → HasValue (round f s N (2 ^ low f)) s (size F v) (2 ^ low f)
  nearest_value s = rw (v_size, sym (grid_is f c N drops)) (round_value f s N (2 ^ low f) no_overflow)

  pub nearest_finite : (s : Bool) → finite_float (round f s N (2 ^ low f)) ≡ true
  nearest_finite s = value_finite (round f s N (2 ^ low f)) s (size F v) (2 ^ low f) (nearest_value s)

  pub nearest_bits : (s : Bool) → to_bits f (round f s N (2 ^ low f)) ≡ cond s (top f) 0 + magnitude_of F X (nearest N (spacing F m) * spacing F m)
  unfolding spacing
  nearest_bits s =
      signed_bits f v v_finite (round f s N (2 ^ low f)) s (nearest_value s)
      ∙ ap (λ (x : ℕ). cond s (top f) 0 + x) (sym (magnitude_of_size F X v v_finite) ∙ ap (λ (n : ℕ). magnitude_of F X n) v_size)
