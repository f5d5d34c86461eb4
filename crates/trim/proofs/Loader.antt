-- What the loader's call answers, refused or accepted, is the definition's.
use mathlib.Core.Path.{◌≡◌, refl, ap, ◌∙◌}
use mathlib.Core.Bool.{Bool, true, false, cond}
use Prim.Native.Nat.{ℕ, ◌+◌, ◌-◌, ◌*◌, ◌^◌, ◌≤◌, zero-le}
use native.Mathlib.Nat.{le_refl}
use native.Mathlib.Omega.{arith}
use lib.IntN.{ℤ}
use Rattle.meaning.specs.Methods.{trimmed, changed, risen, fallen}
use Rattle.meaning.specs.Calls.{answering, loader_number, gain, told, loader}
use Rattle.meaning.proofs.Moves.{rose_or_fell}
use Rattle.reading.specs.Left.{Settled, settled_by, in_force}
use Rattle.reading.proofs.Counted.{settled_is}
use Rattle.reading.proofs.Words.{cond_le}
use Rattle.asking.specs.Asked.{method_by, refusal_of, asked_number}
use Rattle.asking.proofs.Questions.{refused_is}
use Rattle.asking.proofs.Answers.{never_zero}
use Rattle.refusal.specs.declared.Refusal.{Refusal}
use Rattle.refusal.specs.Refusals.{number_of as refusal_number}
use Rattle.trim.proofs.Calls.{asked, ready}

-- the gain by two numbers of 0 or 1
gained : (rose fell : Bool) → 2 ^ 33 * cond rose 1 0 + 2 ^ 34 * cond fell 1 0 ≡ gain rose fell
unfolding gain
gained true true = refl
gained true false = refl
gained false true = refl
gained false false = refl

module _ (method : ℕ) (s : ℤ) (mark turn w : ℕ) where
  pub refused_loader : (r : Refusal) → refusal_number r ≡ refusal_of 23 8 method s → 2 ^ 32 + refusal_number r ≡ loader method s mark turn w
  unfolding loader loader_number answering
  refused_loader r e = rw (refused_is 23 8 method s (λ z. never_zero r (e ∙ z))) (ap (λ (k : ℕ). 2 ^ 32 + k) e)

  module _ (j n : ℕ) (k : j ≡ method) (e : 0 ≡ refusal_of 23 8 method s) (m : n ≡ asked_number 23 8 method s) (one : Settled) (o : one ≡ settled_by 23 8 (method_by j n) mark turn w) where
    is : one ≡ in_force 23 8 (method_by j n) mark turn w
    is = o ∙ settled_is 23 8 (method_by j n) (ready 23 8 method s j n k e m) mark turn w

    -- it fell where it changed and didn't rise
    either : one.tally.changed ≡ one.tally.risen + cond (fallen 23 8 (method_by j n) mark turn w) 1 0
    unfolding in_force
    either = rw is (rose_or_fell 23 8 (method_by j n) (ready 23 8 method s j n k e m) mark turn w)

    pub one_few : (one.tally.risen ≤ one.tally.changed) × (one.tally.changed ≤ 1)
    unfolding in_force
    one_few = (omega (arith, either), rw is (cond_le (changed 23 8 (method_by j n) mark turn w) 1 0 1 (le_refl 1) zero-le))

    pub accepted_loader : one.pattern + (2 ^ 33 * one.tally.risen + 2 ^ 34 * (one.tally.changed - one.tally.risen)) ≡ loader method s mark turn w
    unfolding loader loader_number answering told in_force
    accepted_loader =
        let fell : one.tally.changed - one.tally.risen ≡ cond (fallen 23 8 (method_by j n) mark turn w) 1 0 = omega (arith, either) in
        rw (asked 23 8 method s j n k e m, fell, is)
        (ap (λ (g : ℕ). trimmed 23 8 (method_by j n) mark turn w + g) (gained (risen 23 8 (method_by j n) mark turn w) (fallen 23 8 (method_by j n) mark turn w)))
