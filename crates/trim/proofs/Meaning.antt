-- A walk by a method is the documents' trim of an array, and its sums give the six counts. For every width.
use mathlib.Core.Path.{◌≡◌, refl, ap, ap₂, ◌∙◌}
use mathlib.Core.Bool.{Bool, cond}
use mathlib.Core.List.{List, [], ◌∷◌}
use Prim.Native.Nat.{ℕ, ◌+◌, ◌-◌, ◌≤◌}
use native.Mathlib.Omega.{arith}
use Rattle.meaning.specs.Readings.{missing}
use Rattle.meaning.specs.Methods.{Method, turn_after, trim_from, count_from, changed, spared, clipped, risen, fallen, counts}
use Rattle.meaning.proofs.Moves.{counts_sum}
use Rattle.meaning.proofs.Accepted.{Ready}
use Rattle.reading.specs.Left.{Tally, settled_from, settled_by}
use Rattle.reading.proofs.Counted.{left_is, changed_is, marked_is, clipped_is, risen_is}
use Rattle.loops.specs.Tallies.{none, plus}
use Rattle.loops.specs.Walk.{walked_by, tallied_by}
use Rattle.trim.specs.Answers.{counts_of}

module _ (F X : ℕ) (x : Method) (mark : ℕ) where
  -- a count in a walk's sums
  sum_count : (count : Tally → ℕ) → count none ≡ 0 → ((s t : Tally) → count (plus s t) ≡ count s + count t) → (test : ℕ → ℕ → Bool)
      → ((turn w : ℕ) → count (settled_by F X x mark turn w).tally ≡ cond (test turn w) 1 0) → (turn : ℕ) (ws : List ℕ)
      → count (tallied_by (turn_after F X mark) (settled_by F X x mark) turn ws) ≡ count_from F X test mark turn ws
  unfolding count_from
  sum_count count zero more test h turn [] = zero
  sum_count count zero more test h turn (w ∷ ws) =
      more (settled_by F X x mark turn w).tally (tallied_by (turn_after F X mark) (settled_by F X x mark) (turn_after F X mark w turn) ws)
      ∙ ap₂ (λ (m n : ℕ). m + n) (h turn w) (sum_count count zero more test h (turn_after F X mark w turn) ws)

  -- two counts in one sum
  sum_both : (test also : ℕ → ℕ → Bool) → ((turn w : ℕ) → (settled_by F X x mark turn w).tally.marked ≡ cond (test turn w) 1 0 + cond (also turn w) 1 0) → (turn : ℕ) (ws : List ℕ)
      → (tallied_by (turn_after F X mark) (settled_by F X x mark) turn ws).marked ≡ count_from F X test mark turn ws + count_from F X also mark turn ws
  unfolding count_from plus
  sum_both test also h turn [] = refl
  sum_both test also h turn (w ∷ ws) =
      let e = h turn w in
      let r = sum_both test also h (turn_after F X mark w turn) ws in
      omega (arith, e, r)

  module _ (r : Ready x) where
    pub left_all : (turn : ℕ) (ws : List ℕ) → walked_by (turn_after F X mark) (settled_by F X x mark) turn ws ≡ trim_from F X x mark turn ws
    unfolding trim_from settled_by settled_from
    left_all turn [] = refl
    left_all turn (w ∷ ws) = ap₂ (λ (v : ℕ) (l : List ℕ). v ∷ l) (left_is F X x r mark turn w) (left_all (turn_after F X mark w turn) ws)

    module _ (ws : List ℕ) (t : Tally) (e : t ≡ tallied_by (turn_after F X mark) (settled_by F X x mark) 0 ws) where
      changed_sum : t.changed ≡ count_from F X (changed F X x mark) mark 0 ws
      unfolding plus settled_by settled_from
      changed_sum = ap (λ (s : Tally). s.changed) e ∙ sum_count (λ s. s.changed) refl (λ s u. refl) (changed F X x mark) (λ turn w. changed_is F X x r mark turn w) 0 ws

      clipped_sum : t.clipped ≡ count_from F X (clipped F X x mark) mark 0 ws
      unfolding plus settled_by settled_from
      clipped_sum = ap (λ (s : Tally). s.clipped) e ∙ sum_count (λ s. s.clipped) refl (λ s u. refl) (clipped F X x mark) (λ turn w. clipped_is F X x r mark turn w) 0 ws

      missing_sum : t.missing ≡ count_from F X (λ turn w. missing mark w) mark 0 ws
      unfolding plus settled_by settled_from missing
      missing_sum = ap (λ (s : Tally). s.missing) e ∙ sum_count (λ s. s.missing) refl (λ s u. refl) (λ turn w. missing mark w) (λ turn w. refl) 0 ws

      marked_sum : t.marked ≡ count_from F X (spared F X x mark) mark 0 ws + count_from F X (λ turn w. missing mark w) mark 0 ws
      unfolding settled_by settled_from
      marked_sum = ap (λ (s : Tally). s.marked) e ∙ sum_both (spared F X x mark) (λ turn w. missing mark w) (λ turn w. marked_is F X x r mark turn w) 0 ws

      risen_sum : t.risen ≡ count_from F X (risen F X x mark) mark 0 ws
      unfolding plus settled_by settled_from
      risen_sum = ap (λ (s : Tally). s.risen) e ∙ sum_count (λ s. s.risen) refl (λ s u. refl) (risen F X x mark) (λ turn w. risen_is F X x r mark turn w) 0 ws

      both_sum : t.changed ≡ t.risen + count_from F X (fallen F X x mark) mark 0 ws
      unfolding counts
      both_sum = omega (arith, changed_sum, risen_sum, counts_sum F X x r mark ws)

      pub fewer : (t.missing ≤ t.marked) × (t.risen ≤ t.changed)
      fewer = (omega (arith, missing_sum, marked_sum), omega (arith, both_sum))

      pub counts_are : counts_of t ≡ counts F X x mark ws
      unfolding counts
      counts_are =
          let spared-sum : t.marked - t.missing ≡ count_from F X (spared F X x mark) mark 0 ws = omega (arith, marked_sum, missing_sum) in
          let fallen-sum : t.changed - t.risen ≡ count_from F X (fallen F X x mark) mark 0 ws = omega (arith, both_sum) in
          rw (fallen-sum, changed_sum, spared-sum, clipped_sum, missing_sum, risen_sum) refl
