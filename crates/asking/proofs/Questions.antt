-- What the answer of the questions says of document 01's own: an accepted job has the method `method_by`, and a refused job the refusal's number.
-- Then the bounds of an accepted natural setting, in both widths.
use Prim.Native.Nat.{ℕ, suc, ◌+◌, ◌-◌, ◌^◌, ◌≤◌}
use native.Mathlib.Omega.{arith}
use mathlib.Core.Path.{◌≡◌, refl, sym}
use mathlib.Core.Logic.{◌≢◌}
use mathlib.Core.Bool.{Bool, true, false, true≢false}
use lib.Dec.{leb, eqb}
use lib.IntN.{ℤ, pos, negsuc, neg_ℤ, nat_abs}
use lib.Signed.{le_z}
use borrow.Author.Tests.{leb-true, eqb-true, le-leb, lt-leb, eq-eqb, ne_eqb}
use Rattle.meaning.specs.Readings.{least_exp}
use Rattle.meaning.specs.Methods.{digits_from, digit_count}
use Rattle.meaning.specs.Questions.{refused, accepted, ask, above, between, setting_in_range, method_of, trim_questions}
use Rattle.meaning.proofs.Accepted.{and_first, and_second}
use Rattle.asking.specs.Asked.{method_by, refusal_of, number_of}

-- what is known of an accepted method and its natural setting n: at most F bits to keep, at most `top` for the unit's exponent, 1 to `most` digits
pub record Bounds (method n F top most : ℕ) : Type 0 where
  pub known : method ≤ 6
  pub keep : method ≤ 4 → n ≤ F
  pub step : method ≡ 5 → n ≤ top
  pub some : method ≡ 6 → 1 ≤ n
  pub few : method ≡ 6 → n ≤ most

abs_le : (a b : ℕ) (s : ℤ) → between (pos a) s (pos b) ≡ true → nat_abs s ≤ b
abs_le a b (pos k) e = leb-true k b (and_second (leb a k) (leb k b) e)
abs_le a b (negsuc k) e = absurd (true≢false (sym e))

le_abs : (a b : ℕ) (s : ℤ) → between (pos a) s (pos b) ≡ true → a ≤ nat_abs s
le_abs a b (pos k) e = leb-true a k (and_first (leb a k) (leb k b) e)
le_abs a b (negsuc k) e = absurd (true≢false (sym e))

above_most : (lo b : ℕ) (s : ℤ) → le_z s (pos b) ≡ true → above lo s ≤ lo + b
unfolding above
above_most lo b (pos k) e = omega (arith, leb-true k b e)
above_most lo b (negsuc k) e = omega arith

module _ (F X method : ℕ) (s : ℤ) where
  by_number : method_of F X method s ≡ method_by method (number_of F X method s)
  unfolding method_of method_by number_of
  by_number = go (eqb method 5) refl
    where
      go : (t : Bool) → eqb method 5 ≡ t → method_of F X method s ≡ method_by method (number_of F X method s)
      go true p = rw (eqb-true method 5 p) refl
      go false p = simp p

  pub accepted_is : refusal_of F X method s ≡ 0 → trim_questions F X method s ≡ accepted (method_by method (number_of F X method s))
  unfolding refusal_of trim_questions ask
  accepted_is e = go (leb method 6) refl (setting_in_range F X method s) refl
    where
      go : (a : Bool) → leb method 6 ≡ a → (b : Bool) → setting_in_range F X method s ≡ b
          → trim_questions F X method s ≡ accepted (method_by method (number_of F X method s))
      go true p true q = simp (p, q, by_number)
      go true p false q = let y = simp (p, q) at e in absurd (omega arith)
      go false p b q = let y = simp p at e in absurd (omega arith)

  pub refused_is : refusal_of F X method s ≢ 0 → trim_questions F X method s ≡ refused (refusal_of F X method s)
  unfolding refusal_of trim_questions ask
  refused_is e = go (leb method 6) refl (setting_in_range F X method s) refl
    where
      go : (a : Bool) → leb method 6 ≡ a → (b : Bool) → setting_in_range F X method s ≡ b → trim_questions F X method s ≡ refused (refusal_of F X method s)
      go true p true q = absurd (e (simp (p, q)))
      go true p false q = simp (p, q)
      go false p b q = simp p

  -- an accepted job passes both questions
  pub asked : refusal_of F X method s ≡ 0 → (leb method 6 ≡ true) × (setting_in_range F X method s ≡ true)
  unfolding refusal_of
  asked e = go (leb method 6) refl (setting_in_range F X method s) refl
    where
      go : (a : Bool) → leb method 6 ≡ a → (b : Bool) → setting_in_range F X method s ≡ b → (leb method 6 ≡ true) × (setting_in_range F X method s ≡ true)
      go true p true q = (p, q)
      go true p false q = let y = simp (p, q) at e in absurd (omega arith)
      go false p b q = let y = simp p at e in absurd (omega arith)

  range_bounds : method ≤ 6 → setting_in_range F X method s ≡ true → Bounds method (number_of F X method s) F (least_exp F X + (2 ^ (X - 1) - 1)) (digit_count 10 (2 ^ suc F) - 1)
  unfolding setting_in_range number_of
  range_bounds k r =
      record {
        known = k;
        keep = λ h. rw (ne_eqb method 5 (λ e. omega arith)) (abs_le 0 F s (rw (le-leb method 4 h) at r));
        step = λ h.
            let t = rw (lt-leb method 4 (omega arith), eq-eqb method 5 h) at r in
            rw (eq-eqb method 5 h) (above_most (least_exp F X) (2 ^ (X - 1) - 1) s (and_second (le_z (neg_ℤ (pos (least_exp F X))) s) (le_z s (pos (2 ^ (X - 1) - 1))) t));
        some = λ h. rw (ne_eqb method 5 (λ e. omega arith)) (le_abs 1 (digit_count 10 (2 ^ suc F) - 1) s (digits_range h));
        few = λ h. rw (ne_eqb method 5 (λ e. omega arith)) (abs_le 1 (digit_count 10 (2 ^ suc F) - 1) s (digits_range h));
      }
    where
      digits_range : method ≡ 6 → between (pos 1) s (pos (digit_count 10 (2 ^ suc F) - 1)) ≡ true
      digits_range h = rw (lt-leb method 4 (omega arith), ne_eqb method 5 (λ e. omega arith)) at r

module _ (method : ℕ) (s : ℤ) where
  pub single_range : method ≤ 6 → setting_in_range 23 8 method s ≡ true → Bounds method (number_of 23 8 method s) 23 276 7
  unfolding least_exp digit_count digits_from
  single_range k r = range_bounds 23 8 method s k r

  pub double_range : method ≤ 6 → setting_in_range 52 11 method s ≡ true → Bounds method (number_of 52 11 method s) 52 2097 15
  unfolding least_exp digit_count digits_from
  double_range k r = range_bounds 52 11 method s k r

  pub single_bounds : refusal_of 23 8 method s ≡ 0 → Bounds method (number_of 23 8 method s) 23 276 7
  single_bounds e = let t = asked 23 8 method s e in single_range (leb-true method 6 t.0) t.1

  pub double_bounds : refusal_of 52 11 method s ≡ 0 → Bounds method (number_of 52 11 method s) 52 2097 15
  double_bounds e = let t = asked 52 11 method s e in double_range (leb-true method 6 t.0) t.1
