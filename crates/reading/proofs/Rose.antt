-- Whether the exact value rose, by words: the top bit of what a reading loses, which wraps, and its sign. For every width.
use mathlib.Core.Path.{◌≡◌, refl, sym, ◌∙◌}
use mathlib.Core.Logic.{◌≢◌}
use mathlib.Core.Bool.{Bool, true, false, cond}
use Prim.Native.Nat.{ℕ, ◌+◌, ◌*◌, ◌/◌, ◌%◌, ◌^◌, ◌<◌}
use native.Mathlib.Nat.{le_refl, pow-suc}
use native.Mathlib.Numerals.{add-one}
use native.Mathlib.Decide.{dec_lt, ℕ_discrete}
use native.Mathlib.Omega.{arith}
use borrow.Author.Tests.{eq-eqb, ne_eqb, lt-ltb, le-ltb}
use lib.Bits.{bit_and, and_zero_l}
use lib.Dec.{eqb, ltb}
use Rattle.meaning.specs.Readings.{sign, magnitude, infinity, position}
use Rattle.meaning.proofs.Moves.{higher, lower, same_magnitude}
use Rattle.reading.specs.Left.{rose_from}
use Rattle.reading.proofs.Wraps.{top_bit}

and_one : (b : Bool) → bit_and 1 (cond b 0 1) ≡ cond b 0 1
and_one true = refl
and_one false = refl

module _ (F X : ℕ) where
  -- the words of a settled reading x that becomes p: d is what it loses
  pub rose_word : (x p d g c r : ℕ) → x < 2 ^ (F + X + 1) → p < 2 ^ (F + X + 1) → d < 2 ^ (F + X + 1) → (d + p) % 2 ^ (F + X + 1) ≡ x
      → g ≡ cond (eqb (x / 2 ^ (F + X)) (d / 2 ^ (F + X))) 0 1 → c ≡ cond (eqb p x) 0 1 → r ≡ bit_and c g → r ≡ rose_from F X x p
  unfolding rose_from sign magnitude
  rose_word x p d g c r hx hp hd e gg cc rr = rr ∙ go (ℕ_discrete p x)
    where
      A : ℕ
      A = 2 ^ (F + X)

      two : 2 ^ (F + X + 1) ≡ 2 * A
      two = rw (add-one, pow-suc) (omega arith)

      top_is : ◌≡◌ {A = ℕ} (cond (eqb (x / A) (d / A)) 0 1) (cond (eqb (p / A) 0) (cond (ltb (x % A) (p % A)) 1 0) (cond (ltb (x % A) (p % A)) 0 1))
      top_is = top_bit A x p d (omega (arith, two)) (omega (arith, two)) (omega (arith, two)) (rw (← two) e)

      go : Dec (p ≡ x) → bit_and c g ≡ cond (eqb p x) 0 (cond (eqb (p / A) 0) (cond (ltb (x % A) (p % A)) 1 0) (cond (ltb (x % A) (p % A)) 0 1))
      go (yes q) = rw (cc, eq-eqb p x q) (and_zero_l g)
      go (no q) = rw (cc, ne_eqb p x q, gg) (and_one (eqb (x / A) (d / A)) ∙ top_is)

  pub rose_stays : (x : ℕ) → rose_from F X x x ≡ cond (ltb (position F X x) (position F X x)) 1 0
  unfolding rose_from
  rose_stays x = rw (eq-eqb x x refl, le-ltb (position F X x) (position F X x) (le_refl (position F X x))) refl

  -- of two finite patterns of one sign they say whether the exact value rose
  pub rose_is : (x p : ℕ) → sign F X p ≡ sign F X x → magnitude F X x < infinity F X → magnitude F X p < infinity F X
      → rose_from F X x p ≡ cond (ltb (position F X x) (position F X p)) 1 0
  unfolding rose_from
  rose_is x p s fx fp = go (ℕ_discrete p x) (ℕ_discrete (sign F X p) 0) (dec_lt (magnitude F X x) (magnitude F X p))
    where
      go : Dec (p ≡ x) → Dec (sign F X p ≡ 0) → Dec (magnitude F X x < magnitude F X p) → rose_from F X x p ≡ cond (ltb (position F X x) (position F X p)) 1 0
      go (yes e) z l = rw e (rose_stays x)
      go (no e) (yes z) (yes l) =
          rw (ne_eqb p x e, eq-eqb (sign F X p) 0 z, lt-ltb (magnitude F X x) (magnitude F X p) l, lt-ltb (position F X x) (position F X p) (higher F X x p (sym s ∙ z) z l)) refl
      go (no e) (no z) (yes l) =
          let h = lower F X x p (λ y. z (s ∙ y)) z fp l in
          rw (ne_eqb p x e, ne_eqb (sign F X p) 0 z, lt-ltb (magnitude F X x) (magnitude F X p) l, le-ltb (position F X x) (position F X p) (omega (arith, h))) refl
      go (no e) (yes z) (no l) =
          let n : magnitude F X x ≢ magnitude F X p = λ m. e (same_magnitude F X p x s (sym m)) in
          let h = higher F X p x z (sym s ∙ z) (omega (arith, n)) in
          rw (ne_eqb p x e, eq-eqb (sign F X p) 0 z, le-ltb (magnitude F X x) (magnitude F X p) (omega arith), le-ltb (position F X x) (position F X p) (omega (arith, h))) refl
      go (no e) (no z) (no l) =
          let n : magnitude F X x ≢ magnitude F X p = λ m. e (same_magnitude F X p x s (sym m)) in
          let h = lower F X p x z (λ y. z (s ∙ y)) fx (omega (arith, n)) in
          rw (ne_eqb p x e, ne_eqb (sign F X p) 0 z, le-ltb (magnitude F X x) (magnitude F X p) (omega arith), lt-ltb (position F X x) (position F X p) h) refl
