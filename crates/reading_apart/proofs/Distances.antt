-- How far two finite readings lie apart, by their magnitudes: with one sign the larger size less the smaller, with two their sum.
use mathlib.Core.Path.{◌≡◌, refl, sym, ◌∙◌}
use mathlib.Core.Logic.{◌≢◌}
use mathlib.Core.Bool.{not, cond}
use Prim.Native.Nat.{ℕ, min, max, ◌+◌, ◌-◌, ◌/◌, ◌%◌, ◌^◌, ◌≤◌}
use native.Mathlib.Nat.{min-eq_left, min-eq_right, max-eq_left, max-eq_right}
use native.Mathlib.Decide.{dec_le, ℕ_discrete}
use native.Mathlib.Omega.{arith}
use lib.Dec.{eqb}
use borrow.Author.Tests.{eq-eqb, ne_eqb}
use Rattle.meaning.specs.Readings.{size, sign, magnitude, position, distance}
use Rattle.meaning.proofs.Sizes.{size_le}
use Rattle.meaning.proofs.Patterns.{size_below, position_plus, position_minus, position_distance}
use Rattle.reading_apart.specs.Words.{Finite}

module _ (F X w v : ℕ) (fw : Finite F X w) (fv : Finite F X v) where
  abbrev a : ℕ
  a = magnitude F X w

  abbrev b : ℕ
  b = magnitude F X v

  -- the larger and the smaller of two sizes
  sizes : (n : ℕ → ℕ → ℕ) → ((x y : ℕ) → n x y ≡ n y x) → n (size F (max a b)) (size F (min a b)) ≡ n (size F a) (size F b)
  sizes n turn = go (dec_le a b)
    where
      go : Dec (a ≤ b) → n (size F (max a b)) (size F (min a b)) ≡ n (size F a) (size F b)
      go (yes h) = rw (max-eq_right h, min-eq_left h) (turn (size F b) (size F a))
      go (no h) = let k : b ≤ a = omega arith in rw (max-eq_left k, min-eq_right k) refl

  one_sign : sign F X w ≡ sign F X v → size F (max a b) - size F (min a b) ≡ distance (position F X w) (position F X v)
  unfolding distance
  one_sign e =
      let l : size F (min a b) ≤ size F (max a b) = size_le F {m = min a b} {n = max a b} (omega arith) in
      let d = sizes (λ x y. (x - y) + (y - x)) (λ x y. omega arith) in
      omega (arith, l, d) ∙ sym (position_distance F X w v fw.below fv.below (sym e))

  two_signs : sign F X w ≢ sign F X v → size F (max a b) + size F (min a b) ≡ distance (position F X w) (position F X v)
  unfolding distance
  two_signs n = sizes (λ x y. x + y) (λ x y. omega arith) ∙ go (ℕ_discrete (sign F X w) 0) (ℕ_discrete (sign F X v) 0)
    where
      go : Dec (sign F X w ≡ 0) → Dec (sign F X v ≡ 0) → size F a + size F b ≡ distance (position F X w) (position F X v)
      go (yes p) (yes q) = absurd (n (p ∙ sym q))
      go (no p) (no q) = absurd (n (omega (arith, fw.signed, fv.signed)))
      go (yes p) (no q) = rw (position_plus F X w p, position_minus F X v q) (omega (arith, size_below F X fv.below))
      go (no p) (yes q) = rw (position_minus F X w p, position_plus F X v q) (omega (arith, size_below F X fw.below))

  either : cond (not (eqb (sign F X w) (sign F X v))) (size F (max a b) + size F (min a b)) (size F (max a b) - size F (min a b)) ≡ distance (position F X w) (position F X v)
  either = go (ℕ_discrete (sign F X w) (sign F X v))
    where
      go : Dec (sign F X w ≡ sign F X v)
          → cond (not (eqb (sign F X w) (sign F X v))) (size F (max a b) + size F (min a b)) (size F (max a b) - size F (min a b)) ≡ distance (position F X w) (position F X v)
      go (yes e) = rw (eq-eqb (sign F X w) (sign F X v) e) (one_sign e)
      go (no e) = rw (ne_eqb (sign F X w) (sign F X v) e) (two_signs e)

  -- and by a divisor that parts sign and magnitude
  pub apart_is : (top high low : ℕ) → top ≡ 2 ^ (F + X) → high ≡ max (w % top) (v % top) → low ≡ min (w % top) (v % top)
      → cond (not (eqb (w / top) (v / top))) (size F high + size F low) (size F high - size F low) ≡ distance (position F X w) (position F X v)
  unfolding sign magnitude
  apart_is top high low e h l = rw (h, l, e) either
