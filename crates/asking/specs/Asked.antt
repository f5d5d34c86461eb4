-- The questions before a trim as the code asks them: first the refusal's number, or 0, and then the setting as a natural number.
-- Where the refusal is 0, a method's number and that natural number are the method.
use Rattle.std.specs.Prelude.{cond, ℕ, suc, ◌+◌, ◌-◌, ◌^◌, leb, eqb, ℤ, nat_abs, Result, Ok, Err, Option, Some, None}
use Rattle.meaning.specs.Readings.{least_exp}
use Rattle.meaning.specs.Methods.{Method, tail, shave, set, groom, halfshave, round, absolute, digits, digit_count}
use Rattle.meaning.specs.Questions.{above, setting_in_range}
use Rattle.refusal.specs.declared.Refusal.{Refusal}
use Rattle.refusal.specs.Refusals as refusals
use Rattle.asking.specs.declared.Asked.{Asked}
use Rattle.asking.specs.declared.Limits.{Limits}

-- the method of a number up to 6 and a natural setting
unfoldable pub method_by : ℕ → ℕ → Method
method_by method n =
    cond (eqb method 0) (tail shave n)
    (cond (eqb method 1) (tail set n)
    (cond (eqb method 2) (tail groom n)
    (cond (eqb method 3) (tail halfshave n)
    (cond (eqb method 4) (round n)
    (cond (eqb method 5) (absolute n)
    (digits n))))))

-- the number of the refusal that the code answers, or 0
abbrev pub refusal_in : Result Asked Refusal → ℕ
refusal_in (Ok asked) = 0
refusal_in (Err refusal) = refusals.number_of refusal

-- the number that the code hands on, or 0 after a refusal
abbrev pub number_in : Result Asked Refusal → ℕ
number_in (Ok asked) = asked.number
number_in (Err refusal) = 0

module _ (F X : ℕ) where
  -- 1 for an unknown method, 2 for a setting out of its range, 0 for a job that is accepted
  unfoldable pub refusal_of : ℕ → ℤ → ℕ
  refusal_of method setting = cond (leb method 6) (cond (setting_in_range F X method setting) 0 2) 1

  -- the natural setting: p counted from the exponent of the least spacing, k and n as they are
  unfoldable pub number_of : ℕ → ℤ → ℕ
  number_of method setting = cond (eqb method 5) (above (least_exp F X) setting) (nat_abs setting)

  -- what the code hands on: the natural setting of a job that is accepted, 0 for one that is refused
  unfoldable pub asked_number : ℕ → ℤ → ℕ
  asked_number method setting = cond (eqb (refusal_of method setting) 0) (number_of method setting) 0

  -- the natural setting where it is in the method's range
  unfoldable pub natural_setting : ℕ → ℤ → Option ℕ
  natural_setting method setting = cond (setting_in_range F X method setting) (Some (number_of method setting)) None

  -- the limits of the settings' ranges
  unfoldable pub limits_of : Limits
  limits_of =
      record {
        kept = F;
        lift = least_exp F X;
        units = least_exp F X + (2 ^ (X - 1) - 1);
        digits = digit_count 10 (2 ^ suc F) - 1;
      }
