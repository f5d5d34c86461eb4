-- The natural setting in each kind of range is the natural setting of a method of that kind.
use Rattle.std.proofs.Common.{◌≡◌, ◌≢◌, refl, ℕ, suc, zero, ◌+◌, ◌-◌, ◌^◌, ℤ, pos, negsuc, nat_abs, ◌+ℤ◌, neg_ℤ, cond, Some, None, arith}
use Rattle.std.proofs.lemmas.Bool.Decides.{nat_tests}
use Rattle.method.specs.declared.Method.{Method}
use Rattle.method.specs.declared.Method.TheVariants.{Shave, Set, Groom, Halfshave, Round, Absolute, Digits}
use Rattle.method.specs.Kinds.{number_of as method_number}
use Rattle.meaning.specs.Readings.{least_exp}
use Rattle.meaning.specs.Methods.{digit_count}
use Rattle.meaning.specs.Questions.{above, between, setting_in_range}
use Rattle.asking.specs.Asked.{number_of, natural_setting}

-- the exponent of a unit, counted from that of the least
lifted : (lo hi : ℕ) (s : ℤ) → cond (between (pos 0) (s +ℤ pos lo) (pos (lo + hi))) (Some (nat_abs (s +ℤ pos lo))) None ≡ cond (between (neg_ℤ (pos lo)) s (pos hi)) (Some (above lo s)) None
unfolding above
lifted zero hi (pos k) = grind (arith, nat_tests)
lifted zero hi (negsuc k) = grind (arith, nat_tests)
lifted (suc m) hi (pos k) = grind (arith, nat_tests)
lifted (suc m) hi (negsuc k) = grind (arith, nat_tests)

module _ (F X : ℕ) (s : ℤ) where
  pub lifted_natural : cond (between (pos 0) (s +ℤ pos (least_exp F X)) (pos (least_exp F X + (2 ^ (X - 1) - 1)))) (Some (nat_abs (s +ℤ pos (least_exp F X)))) None ≡ natural_setting F X 5 s
  unfolding natural_setting setting_in_range number_of
  lifted_natural = lifted (least_exp F X) (2 ^ (X - 1) - 1) s

  pub digits_natural : cond (between (pos 1) s (pos (digit_count 10 (2 ^ suc F) - 1))) (Some (nat_abs s)) None ≡ natural_setting F X 6 s
  unfolding natural_setting setting_in_range number_of
  digits_natural = refl

  pub kept_natural : (m : Method) → m ≢ Absolute → m ≢ Digits → cond (between (pos 0) s (pos F)) (Some (nat_abs s)) None ≡ natural_setting F X (method_number m) s
  unfolding natural_setting setting_in_range number_of
  kept_natural Shave a d = refl
  kept_natural Set a d = refl
  kept_natural Groom a d = refl
  kept_natural Halfshave a d = refl
  kept_natural Round a d = refl
  kept_natural Absolute a d = absurd (a refl)
  kept_natural Digits a d = absurd (d refl)
