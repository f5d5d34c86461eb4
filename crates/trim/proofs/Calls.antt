-- What a call answers and leaves, refused or accepted, is the definition's.
use mathlib.Core.Path.{◌≡◌, refl, sym, ap, ◌∙◌}
use mathlib.Core.List.{List}
use Prim.Native.Nat.{ℕ, ◌≤◌}
use lib.IntN.{ℤ}
use Rattle.meaning.specs.Methods.{Method, turn_after, trim_from, counts}
use Rattle.meaning.specs.Questions.{refused, accepted, trim_questions}
use Rattle.meaning.specs.Calls.{answering, leaving, trim}
use Rattle.meaning.proofs.Accepted.{Ready, accepted_ready}
use Rattle.asking.specs.Asked.{method_by, refusal_of, number_of, asked_number}
use Rattle.refusal.specs.declared.Refusal.{Refusal}
use Rattle.refusal.specs.Refusals.{number_of as refusal_number}
use Rattle.asking.proofs.Answers.{asked_number_lem, never_zero}
use Rattle.asking.proofs.Questions.{Bounds, accepted_is, refused_is, single_bounds, double_bounds}
use Rattle.reading.specs.Left.{Tally, settled_by}
use Rattle.loops.specs.Walk.{walked_by, tallied_by}
use Rattle.loops.specs.Methods.{Fitting}
use Rattle.trim.specs.Answers.{counts_of}
use Rattle.trim.proofs.Meaning.{left_all, fewer, counts_are}

module _ (F X method : ℕ) (s : ℤ) (mark : ℕ) (ws : List ℕ) where
  pub refused_call : (r : Refusal) → refusal_number r ≡ refusal_of F X method s → (refused (refusal_number r) ≡ (trim F X method s mark ws).answer) × (ws ≡ (trim F X method s mark ws).readings)
  unfolding trim answering leaving
  refused_call r e =
      let q = refused_is F X method s (λ z. never_zero r (e ∙ z)) in
      (rw q (ap refused e), rw q refl)

  answer_is : (x : Method) → trim_questions F X method s ≡ accepted x → (trim F X method s mark ws).answer ≡ accepted (counts F X x mark ws)
  unfolding trim answering
  answer_is x e = rw e refl

  readings_are : (x : Method) → trim_questions F X method s ≡ accepted x → (trim F X method s mark ws).readings ≡ trim_from F X x mark 0 ws
  unfolding trim leaving
  readings_are x e = rw e refl

-- ---- an accepted call: the code's method j is the caller's, and its number n is the natural setting

module _ (F X method : ℕ) (s : ℤ) (j n : ℕ) (k : j ≡ method) (e : 0 ≡ refusal_of F X method s) (m : n ≡ asked_number F X method s) where
  natural : number_of F X method s ≡ n
  natural = sym (m ∙ asked_number_lem F X method s (sym e))

  fitting : {top most : ℕ} → Bounds method (number_of F X method s) F top most → Fitting j n F most
  fitting b = rw (k, ← natural) record { known = b.known; keep = b.keep; some = b.some; few = b.few }

  pub asked : trim_questions F X method s ≡ accepted (method_by j n)
  asked = rw (k, ← natural) (accepted_is F X method s (sym e))

  pub ready : Ready (method_by j n)
  ready = accepted_ready F X method s (method_by j n) asked

  module _ (mark : ℕ) (ws : List ℕ) (t : Tally) (te : t ≡ tallied_by (turn_after F X mark) (settled_by F X (method_by j n) mark) 0 ws) where
    pub fewer_sums : (t.missing ≤ t.marked) × (t.risen ≤ t.changed)
    fewer_sums = fewer F X (method_by j n) mark ready ws t te

    pub accepted_call : (ys : List ℕ) → ys ≡ walked_by (turn_after F X mark) (settled_by F X (method_by j n) mark) 0 ws
        → (accepted (counts_of t) ≡ (trim F X method s mark ws).answer)
        × (ys ≡ (trim F X method s mark ws).readings)
    accepted_call ys ye = (
      ap accepted (counts_are F X (method_by j n) mark ready ws t te) ∙ sym (answer_is F X method s mark ws (method_by j n) asked),
      ye ∙ left_all F X (method_by j n) mark ready 0 ws ∙ sym (readings_are F X method s mark ws (method_by j n) asked),
    )

module _ (method : ℕ) (s : ℤ) (j n : ℕ) (k : j ≡ method) where
  pub single_fitting : 0 ≡ refusal_of 23 8 method s → n ≡ asked_number 23 8 method s → Fitting j n 23 7
  single_fitting e m = fitting 23 8 method s j n k e m (single_bounds method s (sym e))

  pub double_fitting : 0 ≡ refusal_of 52 11 method s → n ≡ asked_number 52 11 method s → Fitting j n 52 15
  double_fitting e m = fitting 52 11 method s j n k e m (double_bounds method s (sym e))
