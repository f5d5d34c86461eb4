-- The values of methods 0 to 3 by their cases, and what two magnitudes share that agree above the tail.
use mathlib.Core.Path.{◌≡◌, refl, sym, ◌∙◌}
use mathlib.Core.Logic.{◌≢◌}
use Prim.Native.Nat.{ℕ, zero, suc, ◌+◌, ◌-◌, ◌*◌, ◌/◌, ◌%◌, ◌^◌}
use native.Mathlib.Nat.{div-add-mod', mod-lt, div-one, zero-div, zero-mul}
use native.Mathlib.Decide.{ℕ_discrete}
use native.Mathlib.Omega.{arith}
use borrow.Author.Tests.{eq-eqb, ne_eqb}
use lib.Pow.{pow_pos}
use Rattle.meaning.specs.Methods.{TailMethod, tail, new_magnitude, shave, set, groom, halfshave, shaved, tail_set, halfshaved, tail_changed}
use Rattle.meaning.proofs.Tails.{Agree}

pub tail_new : (F X : ℕ) (c : TailMethod) (k turn m : ℕ) → new_magnitude F X (tail c k) turn m ≡ tail_changed c turn (F - k) m
unfolding new_magnitude
tail_new F X c k turn m = refl

pub shave_is : (turn t m : ℕ) → tail_changed shave turn t m ≡ m / 2 ^ t * 2 ^ t
unfolding tail_changed shaved
shave_is turn t m = refl

pub set_zero : (turn t : ℕ) → tail_changed set turn t 0 ≡ 0
unfolding tail_changed tail_set
set_zero turn t = refl

pub set_some : (turn t m : ℕ) → m ≢ 0 → tail_changed set turn t m ≡ m / 2 ^ t * 2 ^ t + (2 ^ t - 1)
unfolding tail_changed tail_set shaved
set_some turn t m z = rw (ne_eqb m 0 z) refl

pub groom_even : (turn t m : ℕ) → turn % 2 ≡ 0 → tail_changed groom turn t m ≡ tail_changed shave turn t m
unfolding tail_changed
groom_even turn t m z = rw (eq-eqb (turn % 2) 0 z) refl

pub groom_odd : (turn t m : ℕ) → turn % 2 ≢ 0 → tail_changed groom turn t m ≡ tail_changed set turn t m
unfolding tail_changed
groom_odd turn t m z = rw (ne_eqb (turn % 2) 0 z) refl

pub groom_zero : (turn t : ℕ) → tail_changed groom turn t 0 ≡ 0
groom_zero turn t = go (ℕ_discrete (turn % 2) 0)
  where
    go : Dec (turn % 2 ≡ 0) → tail_changed groom turn t 0 ≡ 0
    go (yes z) = groom_even turn t 0 z ∙ shave_is turn t 0 ∙ rw (zero-div (2 ^ t)) (zero-mul (2 ^ t))
    go (no z) = groom_odd turn t 0 z ∙ set_zero turn t

pub halfshave_none : (turn m : ℕ) → tail_changed halfshave turn 0 m ≡ m
unfolding tail_changed halfshaved
halfshave_none turn m = refl

pub halfshave_zero : (turn t : ℕ) → tail_changed halfshave turn t 0 ≡ 0
unfolding tail_changed halfshaved
halfshave_zero turn zero = refl
halfshave_zero turn (suc t) = refl

pub halfshave_some : (turn t m : ℕ) → m ≢ 0 → tail_changed halfshave turn (suc t) m ≡ m / 2 ^ suc t * 2 ^ suc t + 2 ^ t
unfolding tail_changed halfshaved shaved
halfshave_some turn t m z = rw (ne_eqb m 0 z) refl

-- ---- one value for all magnitudes that agree above the tail, zero apart

pub shave_same : (turn t m n : ℕ) → Agree t m n → tail_changed shave turn t m ≡ tail_changed shave turn t n
shave_same turn t m n e = shave_is turn t m ∙ rw e (sym (shave_is turn t n))

pub set_same : (turn t m n : ℕ) → m ≢ 0 → n ≢ 0 → Agree t m n → tail_changed set turn t m ≡ tail_changed set turn t n
set_same turn t m n a b e = set_some turn t m a ∙ rw e (sym (set_some turn t n b))

pub halfshave_same : (turn t m n : ℕ) → m ≢ 0 → n ≢ 0 → Agree t m n → tail_changed halfshave turn t m ≡ tail_changed halfshave turn t n
halfshave_same turn zero m n a b e = rw (halfshave_none turn m, halfshave_none turn n) (sym (div-one m) ∙ e ∙ div-one n)
halfshave_same turn (suc t) m n a b e = halfshave_some turn t m a ∙ rw e (sym (halfshave_some turn t n b))

-- set and halfshave make no zero
pub set_kept : (turn t m : ℕ) → m ≢ 0 → tail_changed set turn t m ≢ 0
set_kept turn t m z e = z (omega (arith, rw (set_some turn t m z) at e, div-add-mod' m (2 ^ t), mod-lt m (pow_pos t)))

pub halfshave_kept : (turn t m : ℕ) → m ≢ 0 → tail_changed halfshave turn t m ≢ 0
halfshave_kept turn zero m z e = z (sym (halfshave_none turn m) ∙ e)
halfshave_kept turn (suc t) m z e = z (absurd (omega (arith, rw (halfshave_some turn t m z) at e, pow_pos t)))
