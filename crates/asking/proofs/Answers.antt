-- What each answer of the code says: an unknown method, a setting out of range, or a job that is accepted.
use Rattle.std.proofs.Common.{◌≡◌, ◌≢◌, refl, ℕ, ◌<◌, ◌≤◌, ℤ, Bool, true, false, Some, None, arith}
use borrow.Author.Tests.{le-leb, lt-leb, eq-eqb}
use Rattle.method.specs.declared.Method.{Method}
use Rattle.method.specs.declared.Method.TheVariants.{Shave, Set, Groom, Halfshave, Round, Absolute, Digits}
use Rattle.method.specs.Kinds.{number_of as method_number}
use Rattle.refusal.specs.declared.Refusal.{Refusal}
use Rattle.refusal.specs.declared.Refusal.TheVariants as refusals
use Rattle.refusal.specs.Refusals.{number_of as refusal_number}
use Rattle.meaning.specs.Questions.{setting_in_range}
use Rattle.asking.specs.Asked.{refusal_of, number_of, asked_number, natural_setting}

known : (m : Method) → method_number m ≤ 6
known Shave = omega arith
known Set = omega arith
known Groom = omega arith
known Halfshave = omega arith
known Round = omega arith
known Absolute = omega arith
known Digits = omega arith

module _ (F X method : ℕ) (s : ℤ) where
  pub method_unknown : 6 < method → (1 ≡ refusal_of F X method s) × (0 ≡ asked_number F X method s)
  unfolding refusal_of asked_number
  method_unknown h = let e = lt-leb method 6 h in (simp e, simp e)

  pub out_of_range : (m : Method) → method_number m ≡ method → None ≡ natural_setting F X (method_number m) s → (2 ≡ refusal_of F X method s) × (0 ≡ asked_number F X method s)
  unfolding refusal_of asked_number natural_setting
  out_of_range m h e = go (setting_in_range F X method s) refl
    where
      go : (b : Bool) → setting_in_range F X method s ≡ b → (2 ≡ refusal_of F X method s) × (0 ≡ asked_number F X method s)
      go true q = let y = simp (h, q) at e in cc
      go false q = let k = le-leb method 6 (omega (arith, known m, h)) in (simp (k, q), simp (k, q))

  pub asked_is : (m : Method) (n : ℕ) → method_number m ≡ method → Some n ≡ natural_setting F X (method_number m) s → (0 ≡ refusal_of F X method s) × (n ≡ asked_number F X method s)
  unfolding refusal_of asked_number natural_setting
  asked_is m n h e = go (setting_in_range F X method s) refl
    where
      go : (b : Bool) → setting_in_range F X method s ≡ b → (0 ≡ refusal_of F X method s) × (n ≡ asked_number F X method s)
      go true q = let k = le-leb method 6 (omega (arith, known m, h)) in let y : Some n ≡ Some (number_of F X method s) = simp (h, q) at e in (simp (k, q), simp (k, q) (cc))
      go false q = let y = simp (h, q) at e in cc

  -- the number of an accepted job is the natural setting
  pub asked_number_lem : refusal_of F X method s ≡ 0 → asked_number F X method s ≡ number_of F X method s
  unfolding asked_number
  asked_number_lem r = simp (eq-eqb (refusal_of F X method s) 0 r)

-- a refusal's number tells that it is one
pub never_zero : (r : Refusal) → refusal_number r ≢ 0
never_zero r = grind arith
