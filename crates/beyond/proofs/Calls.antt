-- What a comparison answers, refused or accepted, is the definition's.
use mathlib.Core.Path.{◌≡◌, refl, sym, ap, ◌∙◌}
use mathlib.Core.Logic.{◌≢◌}
use mathlib.Core.Bool.{Bool, true, false}
use mathlib.Core.List.{List}
use Prim.Native.Nat.{ℕ, ◌<◌}
use native.Mathlib.Omega.{arith}
use borrow.Author.Tests.{eq-eqb, ne_eqb}
use lib.IntN.{ℤ}
use lib.ListN.{length}
use Rattle.refusal.specs.declared.Refusal.{Refusal}
use Rattle.refusal.specs.Refusals.{number_of as refusal_number}
use Rattle.meaning.specs.Readings.{least_exp}
use Rattle.meaning.specs.Questions.{refused, accepted, ask, above, setting_in_range}
use Rattle.meaning.specs.Calls.{answering}
use Rattle.meaning.specs.Comparing.{compared, compare_questions, first_beyond}
use Rattle.asking.specs.Asked.{refusal_of, number_of, asked_number}
use Rattle.asking.proofs.Answers.{asked_number_lem, never_zero}
use Rattle.asking.proofs.Questions.{asked, single_bounds, double_bounds}

module _ (F X mark : ℕ) (p : ℤ) (raw trimmed : List ℕ) where
  pub lengths_refused : length raw ≢ length trimmed → refused 10 ≡ first_beyond F X mark p raw trimmed
  unfolding first_beyond compare_questions answering ask
  lengths_refused h = rw (ne_eqb (length raw) (length trimmed) h) refl

  module _ (l : length raw ≡ length trimmed) where
    pub limit_refused : (r : Refusal) → refusal_number r ≡ refusal_of F X 5 p → refused (refusal_number r) ≡ first_beyond F X mark p raw trimmed
    unfolding first_beyond compare_questions answering ask refusal_of
    limit_refused r e = go (setting_in_range F X 5 p) refl
      where
        go : (s : Bool) → setting_in_range F X 5 p ≡ s → refused (refusal_number r) ≡ first_beyond F X mark p raw trimmed
        go true k = absurd (never_zero r (e ∙ rw k refl))
        go false k = rw (eq-eqb (length raw) (length trimmed) l, k) (ap refused (e ∙ rw k refl))

    pub in_range : (n : ℕ) → 0 ≡ refusal_of F X 5 p → n ≡ asked_number F X 5 p → accepted (compared F X mark n raw trimmed) ≡ first_beyond F X mark p raw trimmed
    unfolding first_beyond compare_questions answering ask number_of
    in_range n e m =
        let k : n ≡ above (least_exp F X) p = m ∙ asked_number_lem F X 5 p (sym e) in
        rw (eq-eqb (length raw) (length trimmed) l, (asked F X 5 p (sym e)).1, k) refl

-- an accepted p, counted from the exponent of the least spacing
module _ (p : ℤ) (n : ℕ) where
  pub single_limit : 0 ≡ refusal_of 23 8 5 p → n ≡ asked_number 23 8 5 p → n < 277
  single_limit e m = omega (arith, m ∙ asked_number_lem 23 8 5 p (sym e), (single_bounds 5 p (sym e)).step refl)

  pub double_limit : 0 ≡ refusal_of 52 11 5 p → n ≡ asked_number 52 11 5 p → n < 2098
  double_limit e m = omega (arith, m ∙ asked_number_lem 52 11 5 p (sym e), (double_bounds 5 p (sym e)).step refl)
