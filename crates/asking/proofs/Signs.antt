-- What tests of a signed number against bounds say, and a sum with a literal that brings it above zero.
-- A signed local holds bits, so a fact or a need speaks of `to_z w32 (of_z w32 z)`, which is z since z fits.
use Prim.Native.Nat.{ℕ, suc, ◌-◌, ◌≤◌}
use native.Mathlib.Omega.{arith}
use mathlib.Core.Path.{◌≡◌, refl, sym, ap, subst}
use mathlib.Core.Bool.{Bool, true, false, cond, not, true≢false}
use lib.IntN.{ℤ, pos, negsuc, ◌+ℤ◌}
use lib.Signed.{lt_z, le_z}
use mir.Syntax.{w32}
use mir.Val.{SFits, to_z, of_z}
use mir.Facts.{to_z-of_z}
use borrow.Author.Tests.{ltb-true, ltb-false, le-ltb, le-leb, lt-leb}
use Rattle.meaning.specs.Questions.{above}

-- a test's fact, of z itself: `setting < 0`, and `setting > 23`, which is 23 < setting
pub below_said : (z b : ℤ) (t : Bool) → SFits w32 z → lt_z (to_z w32 (of_z w32 z)) b ≡ t → lt_z z b ≡ t
below_said z b t h e = subst (λ (y : ℤ). lt_z y b ≡ t) (to_z-of_z h) e

pub above_said : (z b : ℤ) (t : Bool) → SFits w32 z → lt_z b (to_z w32 (of_z w32 z)) ≡ t → lt_z b z ≡ t
above_said z b t h e = subst (λ (y : ℤ). lt_z b y ≡ t) (to_z-of_z h) e

-- one of the two tests by the other
pub le_by_lt : (l z : ℤ) (t : Bool) → lt_z z l ≡ t → le_z l z ≡ not t
le_by_lt (pos a) (pos b) true e = lt-leb a b (ltb-true b a e)
le_by_lt (pos a) (pos b) false e = le-leb a b (ltb-false b a e)
le_by_lt (pos a) (negsuc b) true e = refl
le_by_lt (pos a) (negsuc b) false e = absurd (true≢false e)
le_by_lt (negsuc a) (pos b) true e = absurd (true≢false (sym e))
le_by_lt (negsuc a) (pos b) false e = refl
le_by_lt (negsuc a) (negsuc b) true e = lt-leb b a (ltb-true a b e)
le_by_lt (negsuc a) (negsuc b) false e = le-leb b a (ltb-false a b e)

-- a sum with lo + 1, of z from -(lo + 1) on
pub add_above : (lo : ℕ) (z : ℤ) → lt_z z (negsuc lo) ≡ false → z +ℤ pos (suc lo) ≡ pos (above (suc lo) z)
unfolding above
add_above lo (pos k) e = ap pos (omega arith)
add_above lo (negsuc k) e =
    let h : k ≤ lo = ltb-false lo k e in
    ap (λ (t : Bool). cond t (negsuc (suc k - suc (suc lo))) (pos (suc lo - suc k))) (le-ltb (suc lo) (suc k) (omega arith))
