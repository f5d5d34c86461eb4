-- Document 02 (d), for every width: the constants follow from k alone, and each reading trimmed with them gets the result in force.
use mathlib.Core.Path.{◌≡◌, refl, ap, ◌∙◌}
use Prim.Native.Nat.{ℕ, zero, suc, ◌+◌, ◌-◌, ◌^◌, ◌≤◌, ◌<◌}
use native.Mathlib.Decide.{ℕ_discrete}
use native.Mathlib.Omega.{arith}
use borrow.Author.Tests.{eq-eqb, ne_eqb}
use Rattle.meaning.specs.Methods.{round, new_magnitude}
use Rattle.meaning.proofs.Accepted.{Ready}
use Rattle.asking.specs.Asked.{method_by}
use Rattle.reading.specs.Left.{settled_from, wanted_by, settled_by, settled_tail, in_force}
use Rattle.reading.specs.Tails.{constants, TailOf, tail_word, round_word, round_over}
use Rattle.reading.proofs.Counted.{settled_is}
use Rattle.reading.proofs.Tails.{made, alone, settled_tail_lem, settled_round}
use Rattle.loops.specs.Once.{add_for, Once}
use Rattle.loops.proofs.Methods.{tail_by, by_none, groom_at, turnless}

ready_low : (method k : ℕ) → method < 4 → Ready (method_by method k)
unfolding method_by
ready_low zero k h = tt
ready_low (suc zero) k h = tt
ready_low (suc (suc zero)) k h = tt
ready_low (suc (suc (suc zero))) k h = tt
ready_low (suc (suc (suc (suc m)))) k h = absurd (omega arith)

module _ (F X k mark turn w : ℕ) where
  tail_of : TailOf F (constants F k)
  tail_of = made F k (constants F k) refl

  filled : (method : ℕ) → method < 4 → settled_tail F X (F - k) (add_for method (constants F k) turn) mark w ≡ settled_by F X (method_by method k) mark turn w
  unfolding add_for constants
  filled method h = go (ℕ_discrete method 2)
    where
      go : Dec (method ≡ 2) → settled_tail F X (F - k) (add_for method (constants F k) turn) mark w ≡ settled_by F X (method_by method k) mark turn w
      go (yes e) = rw (eq-eqb method 2 e) (groom_at F X method k mark e (constants F k) refl turn w refl)
      go (no d) = rw (ne_eqb method 2 d) (tail_by F X k mark w method h d ∙ turnless F X method k mark d turn w)

  tails_are : (method : ℕ) → method < 4 → settled_from F X mark w (tail_word F X (constants F k) (add_for method (constants F k) turn) w) 0 ≡ in_force F X (method_by method k) mark turn w
  unfolding constants
  tails_are method h =
      settled_tail_lem F X (constants F k) tail_of mark w (add_for method (constants F k) turn) ∙ filled method h ∙ settled_is F X (method_by method k) (ready_low method k h) mark turn w

  -- method 4 at the first turn is method 4 at any
  round_is : settled_by F X (round k) mark 0 w ≡ in_force F X (round k) mark turn w
  unfolding settled_by wanted_by new_magnitude
  round_is = settled_is F X (round k) tt mark turn w

  rounds_are : 1 ≤ F - k → w < 2 ^ (F + X + 1) → settled_from F X mark w (round_word F X (constants F k) w) (round_over F X (constants F k) w) ≡ in_force F X (round k) mark turn w
  unfolding constants
  rounds_are some short =
      let keep : F - (F - k) ≡ k = omega arith in
      settled_round F X (constants F k) tail_of mark w some short ∙ ap (λ (n : ℕ). settled_by F X (round n) mark 0 w) keep ∙ round_is

  untailed_is : k ≡ F → settled_from F X mark w (tail_word F X (constants F k) 0 w) 0 ≡ in_force F X (round k) mark turn w
  unfolding constants
  untailed_is e =
      let none : F - k ≡ 0 = omega arith in
      let keep : F - (F - k) ≡ k = omega arith in
      settled_tail_lem F X (constants F k) tail_of mark w 0 ∙ by_none F X mark none w ∙ ap (λ (n : ℕ). settled_by F X (round n) mark 0 w) keep ∙ round_is

  pub once : Once F X k mark turn w
  once = record { alone = alone F k; tails = tails_are; rounds = rounds_are; untailed = untailed_is }
