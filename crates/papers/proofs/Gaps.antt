-- Two singles lie at least half a spacing of the lower one apart.
use mathlib.Core.Path.{◌≡◌, ap, ◌∙◌}
use mathlib.Core.Logic.{◌⊎◌, inl, inr}
use mathlib.Core.Bool.{true}
use Prim.Native.Nat.{ℕ, zero, suc, ◌+◌, ◌-◌, ◌*◌, ◌^◌, ◌≤◌, ◌<◌}
use native.Mathlib.Nat.{mul-le-mul_right, pow-suc, not-le_of_lt}
use native.Mathlib.Decide.{dec_lt, ℕ_discrete}
use native.Mathlib.Omega.{arith}
use lib.Pow.{pow_mono}
use Rattle.meaning.specs.Readings.{size, spacing_exp, exponent_field, sign, magnitude, finite, origin, position}
use Rattle.meaning.proofs.Sizes.{Form, form, size_at, size_form, size_le}
use Rattle.meaning.proofs.Patterns.{finite_below, size_below, position_plus, position_minus}

size_next : (m : ℕ) → size 23 (suc m) ≡ size 23 m + 2 ^ spacing_exp 23 m
size_next m = go (form 23 m) (form 23 m).above
  where
    c : ℕ
    c = spacing_exp 23 m

    at : (f : Form 23 m) → (c ≡ 0) ⊎ (2 ^ 23 ≤ suc f.sig) → size 23 (suc m) ≡ size 23 m + 2 ^ c
    at f d =
        let e : suc m ≡ c * 2 ^ 23 + suc f.sig = omega (arith, f.is) in
        ap (size 23) e ∙ size_at 23 c (suc f.sig) d f.below ∙ omega (arith, size_form 23 m f)

    go : (f : Form 23 m) → (c ≡ 0) ⊎ (2 ^ 23 ≤ f.sig) → size 23 (suc m) ≡ size 23 m + 2 ^ c
    go f (inl z) = at f (inl z)
    go f (inr l) = at f (inr (omega arith))

above_by : (r v : ℕ) → size 23 r < size 23 v → r < v
above_by r v h = go (dec_lt r v)
  where
    go : Dec (r < v) → r < v
    go (yes l) = l
    go (no l) = absurd (not-le_of_lt h (size_le 23 {m = v} {n = r} (omega arith)))

gap_above : (r v : ℕ) → size 23 r < size 23 v → size 23 r + 2 ^ spacing_exp 23 r ≤ size 23 v
gap_above r v h = omega (arith, size_next r, size_le 23 {m = suc r} {n = v} (above_by r v h))

spacing_one : (p : ℕ) → spacing_exp 23 (suc p) ≤ suc (spacing_exp 23 p)
unfolding spacing_exp exponent_field
spacing_one p = omega arith

gap_below : (r v : ℕ) → size 23 v < size 23 r → size 23 v * 2 + 2 ^ spacing_exp 23 r ≤ size 23 r * 2
gap_below zero v h = absurd (omega (arith, above_by v zero h))
gap_below (suc p) v h =
    let a : 2 ^ spacing_exp 23 (suc p) ≤ 2 ^ spacing_exp 23 p * 2 = rw (← pow-suc 2 (spacing_exp 23 p)) (pow_mono (spacing_one p)) in
    omega (arith, size_next p, a, size_le 23 {m = v} {n = p} (omega (arith, above_by v (suc p) h)))

own : (r g : ℕ) → 0 < g → size 23 r ≤ g → 2 ^ spacing_exp 23 r ≤ g
own r g h l = go (form 23 r) (form 23 r).above
  where
    go : (f : Form 23 r) → (spacing_exp 23 r ≡ 0) ⊎ (2 ^ 23 ≤ f.sig) → 2 ^ spacing_exp 23 r ≤ g
    go f (inl z) = let p : 2 ^ spacing_exp 23 r ≡ 1 = ap (λ (x : ℕ). 2 ^ x) z in omega arith
    go f (inr k) = omega (arith, size_form 23 r f, mul-le-mul_right {m = 1} {n = f.sig} (2 ^ spacing_exp 23 r) (omega arith))

module _ (R w : ℕ) (f : finite 23 8 R ≡ true) (g : finite 23 8 w ≡ true) (h : position 23 8 R < position 23 8 w) where
  pub gap : 2 ^ spacing_exp 23 (magnitude 23 8 R) ≤ 2 * (position 23 8 w - position 23 8 R)
  gap = go (ℕ_discrete (sign 23 8 R) 0) (ℕ_discrete (sign 23 8 w) 0)
    where
      r : ℕ
      r = magnitude 23 8 R

      v : ℕ
      v = magnitude 23 8 w

      low : size 23 r < origin 23 8
      low = size_below 23 8 (finite_below 23 8 R f)

      high : size 23 v < origin 23 8
      high = size_below 23 8 (finite_below 23 8 w g)

      go : Dec (sign 23 8 R ≡ 0) → Dec (sign 23 8 w ≡ 0) → 2 ^ spacing_exp 23 (magnitude 23 8 R) ≤ 2 * (position 23 8 w - position 23 8 R)
      go (yes y) (yes z) =
          let p = position_plus 23 8 R y in
          let q = position_plus 23 8 w z in
          omega (arith, p, q, gap_above r v (omega (arith, p, q)))
      go (yes y) (no z) = absurd (omega (arith, position_plus 23 8 R y, position_minus 23 8 w z))
      go (no y) (yes z) =
          let p = position_minus 23 8 R y in
          let q = position_plus 23 8 w z in
          omega (arith, own r (position 23 8 w - position 23 8 R) (omega arith) (omega (arith, p, q, low)))
      go (no y) (no z) =
          let p = position_minus 23 8 R y in
          let q = position_minus 23 8 w z in
          omega (arith, p, q, low, high, gap_below r v (omega (arith, p, q, low, high)))
