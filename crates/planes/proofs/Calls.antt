-- What a call answers and leaves, refused or accepted, is the definition's. For every number of bytes and both widths.
use mathlib.Core.Path.{◌≡◌, refl, sym, ap, ◌∙◌}
use mathlib.Core.Logic.{◌≢◌}
use mathlib.Core.Bool.{Bool, true, false, cond, true≢false}
use mathlib.Core.List.{List}
use Prim.Native.Nat.{ℕ, ◌*◌}
use native.Mathlib.Nat.{mul_comm}
use native.Mathlib.Omega.{arith}
use borrow.Author.Tests.{ne_eqb}
use lib.Dec.{leb}
use lib.IntN.{ℤ}
use lib.ListN.{length}
use Rattle.meaning.specs.Methods.{Method, turn_after}
use Rattle.meaning.specs.Questions.{Outcome, refused, accepted, ask, setting_in_range, method_of, trim_questions}
use Rattle.meaning.specs.Calls.{answering, leaving, trim}
use Rattle.meaning.specs.Planes.{planes, readings, planes_fit, planes_question, to_planes, from_planes, trim_planes_questions, trim_planes}
use Rattle.meaning.proofs.Planes.{fits_in, asked_as_trim}
use Rattle.asking.specs.Asked.{method_by, refusal_of, asked_number}
use Rattle.asking.proofs.Questions.{refused_is}
use Rattle.asking.proofs.Answers.{never_zero}
use Rattle.refusal.specs.declared.Refusal.{Refusal}
use Rattle.refusal.specs.Refusals.{number_of as refusal_number}
use Rattle.reading.specs.Left.{Tally, settled_by}
use Rattle.loops.specs.Walk.{walked_by, tallied_by}
use Rattle.trim.specs.Answers.{counts_of}
use Rattle.trim.proofs.Calls.{asked, accepted_call}
use Rattle.array_planes.specs.Places.{stored, fetched}
use Rattle.array_planes.proofs.Places.{stored_whole, fetched_whole}

-- ---- conversions

module _ (B n buffer : ℕ) where
  not_in : buffer ≢ n * B → planes_question B n buffer ≡ refused 13
  unfolding planes_question ask
  not_in e = rw (ne_eqb buffer (n * B) e) refl

module _ (B : ℕ) (ws ps : List ℕ) where
  pub to_refused : length ps ≢ length ws * B → (refused 13 ≡ (to_planes B ws ps).answer) × (ps ≡ (to_planes B ws ps).content)
  unfolding to_planes leaving
  to_refused e = rw (not_in B (length ws) (length ps) e) (refl, refl)

  pub to_done : length ps ≡ length ws * B → {qs : List ℕ} → qs ≡ stored B (length ws) 0 (length ws) ws ps → (accepted tt ≡ (to_planes B ws ps).answer) × (qs ≡ (to_planes B ws ps).content)
  unfolding to_planes leaving
  to_done l {qs} q = rw (fits_in B (length ws) (length ps) l) (refl, q ∙ stored_whole B (length ws) 0 ws ps refl (omega (arith, l, mul_comm (length ws) B)))

  -- ws is the array as it was
  pub from_refused : length ps ≢ length ws * B → (refused 13 ≡ (from_planes B ps ws).answer) × (ws ≡ (from_planes B ps ws).content)
  unfolding from_planes leaving
  from_refused e = rw (not_in B (length ws) (length ps) e) (refl, refl)

  pub from_done : length ps ≡ length ws * B → {vs : List ℕ} → vs ≡ fetched B (length ws) 0 (length ws) ps → (accepted tt ≡ (from_planes B ps ws).answer) × (vs ≡ (from_planes B ps ws).content)
  unfolding from_planes leaving
  from_done l {vs} v = rw (fits_in B (length ws) (length ps) l) (refl, v ∙ fetched_whole B (length ws) 0 ps)

-- ---- trimming

abbrev taken : Outcome Method → Bool
taken (refused n) = false
taken (accepted x) = true

module _ (B F X method : ℕ) (s : ℤ) (mark n : ℕ) (ps : List ℕ) where
  -- a refusal by trimming's questions comes first
  early : (r : ℕ) → trim_questions F X method s ≡ refused r → trim_planes_questions B F X method s n (length ps) ≡ refused r
  unfolding trim_questions trim_planes_questions ask
  early r = go (leb method 6) (setting_in_range F X method s)
    where
      go : (a b : Bool) → cond a (cond b (accepted (method_of F X method s)) (refused 2)) (refused 1) ≡ refused r
          → cond a (cond b (cond (planes_fit B n (length ps)) (accepted (method_of F X method s)) (refused 13)) (refused 2)) (refused 1) ≡ refused r
      go false b e = e
      go true false e = e
      go true true e = absurd (true≢false (ap taken e))

  pub refused_early : (r : Refusal) → refusal_number r ≡ refusal_of F X method s
      → (refused (refusal_number r) ≡ (trim_planes B F X method s mark n ps).answer) × (ps ≡ (trim_planes B F X method s mark n ps).content)
  unfolding trim_planes answering leaving
  refused_early r e =
      let q = early (refusal_of F X method s) (refused_is F X method s (λ y. never_zero r (e ∙ y))) in
      (rw q (ap refused e), rw q refl)

  late : (x : Method) → trim_questions F X method s ≡ accepted x → planes_fit B n (length ps) ≡ false → trim_planes_questions B F X method s n (length ps) ≡ refused 13
  unfolding trim_questions trim_planes_questions ask
  late x e f = rw f (go (leb method 6) (setting_in_range F X method s) e)
    where
      go : (a b : Bool) → cond a (cond b (accepted (method_of F X method s)) (refused 2)) (refused 1) ≡ accepted x → ◌≡◌ {A = Outcome Method} (cond a (cond b (refused 13) (refused 2)) (refused 1)) (refused 13)
      go true true z = refl
      go true false z = absurd (true≢false (sym (ap taken z)))
      go false b z = absurd (true≢false (sym (ap taken z)))

  module _ (j k : ℕ) (i : j ≡ method) (e : 0 ≡ refusal_of F X method s) (m : k ≡ asked_number F X method s) where
    pub refused_late : length ps ≢ n * B → (refused 13 ≡ (trim_planes B F X method s mark n ps).answer) × (ps ≡ (trim_planes B F X method s mark n ps).content)
    unfolding trim_planes answering leaving
    refused_late f =
        let q = late (method_by j k) (asked F X method s j k i e m) (ne_eqb (length ps) (n * B) f) in
        (rw q refl, rw q refl)

    pub accepted_planes : length ps ≡ n * B → (t : Tally) → t ≡ tallied_by (turn_after F X mark) (settled_by F X (method_by j k) mark) 0 (readings B n ps)
        → (qs : List ℕ) → qs ≡ planes B (walked_by (turn_after F X mark) (settled_by F X (method_by j k) mark) 0 (readings B n ps))
        → (accepted (counts_of t) ≡ (trim_planes B F X method s mark n ps).answer) × (qs ≡ (trim_planes B F X method s mark n ps).content)
    unfolding trim_planes answering leaving trim
    accepted_planes l t te qs qe =
        let call = accepted_call F X method s j k i e m mark (readings B n ps) t te (walked_by (turn_after F X mark) (settled_by F X (method_by j k) mark) 0 (readings B n ps)) refl in
        let a = asked F X method s j k i e m in
        let q = asked_as_trim B F X method s n (length ps) l ∙ a in
        (call.0 ∙ rw (q, a) refl, qe ∙ ap (planes B) call.1 ∙ rw (q, a) refl)
