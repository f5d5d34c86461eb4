-- Document 02 (b), grooming takes turns among the present: "the alternation counts present finite readings: the first is shaved, the next set, zeros take a turn, missing
-- readings and infinities and NaNs do not." For every width and method; the others don't look at the turn.
use mathlib.Core.Path.{◌≡◌, refl, sym, ap, ap₂, ◌∙◌}
use mathlib.Core.Bool.{Bool, true, false, cond}
use mathlib.Core.List.{List, [], ◌∷◌}
use Prim.Native.Nat.{ℕ, zero, suc, ◌+◌, ◌%◌, ◌<◌, ◌≤◌}
use native.Mathlib.Nat.{le_of_suc-le-suc, not-suc-le-zero, add-zero, zero-add}
use native.Mathlib.Omega.{arith}
use borrow.Author.Tests.{eq-eqb, ne_eqb}
use lib.IntN.{ℤ}
use lib.ListN.{length, take, get_or}
use Rattle.meaning.specs.Methods.{Method, tail, shave, set, groom, tail_changed, new_magnitude, result, trimmable, trimmed, turn_after, turns_in, trim_from}
use Rattle.meaning.specs.Questions.{Outcome, refused, accepted, trim_questions}
use Rattle.meaning.specs.Calls.{leaving, trim}
use Rattle.meaning.proofs.Accepted.{Ready, accepted_ready}
use Rattle.meaning.proofs.OneReading.{is_trimmable, trimmable_present, trimmable_below, stays_good}

module _ (F X mark : ℕ) where
  -- the turn after a reading counts it where it takes a turn
  turn_counts : (w turn : ℕ) → turn_after F X mark w turn ≡ turn + cond (trimmable F X mark w) 1 0
  unfolding turn_after
  turn_counts w turn = go (trimmable F X mark w)
    where
      go : (b : Bool) → cond b (suc turn) turn ≡ turn + cond b 1 0
      go true = let e : suc turn ≡ turn + 1 = omega arith in e
      go false = sym (add-zero turn)

  -- a reading that can't be trimmed moves no turn
  pub idle : (w turn : ℕ) → trimmable F X mark w ≡ false → turn_after F X mark w turn ≡ turn
  unfolding turn_after
  idle w turn e = rw e refl

  module _ (x : Method) where
    -- the reading at a place is trimmed at the turn that the readings before it leave
    pub at_turn : (turn : ℕ) (ws : List ℕ) (i : ℕ) → i < length ws → get_or (trim_from F X x mark turn ws) i 0 ≡ trimmed F X x mark (turn + turns_in F X mark (take i ws)) (get_or ws i 0)
    unfolding trim_from turns_in
    at_turn turn [] i h = absurd (not-suc-le-zero h)
    at_turn turn (w ∷ ws) zero h = ap (λ (p : ℕ). trimmed F X x mark p w) (sym (add-zero turn))
    at_turn turn (w ∷ ws) (suc i) h =
        let e : turn_after F X mark w turn + turns_in F X mark (take i ws) ≡ turn + (cond (trimmable F X mark w) 1 0 + turns_in F X mark (take i ws)) = omega (arith, turn_counts w turn) in
        at_turn (turn_after F X mark w turn) ws i (le_of_suc-le-suc h) ∙ ap (λ (p : ℕ). trimmed F X x mark p (get_or ws i 0)) e

  -- "the first is shaved, the next set": grooming at an even turn is shaving, and at an odd one setting
  module _ (k : ℕ) where
    groom_shaves : (turn w : ℕ) → turn % 2 ≡ 0 → trimmed F X (tail groom k) mark turn w ≡ trimmed F X (tail shave k) mark 0 w
    unfolding trimmed result new_magnitude tail_changed
    groom_shaves turn w e = rw (eq-eqb (turn % 2) 0 e) refl

    groom_sets : (turn w : ℕ) → turn % 2 ≡ 1 → trimmed F X (tail groom k) mark turn w ≡ trimmed F X (tail set k) mark 0 w
    unfolding trimmed result new_magnitude tail_changed
    groom_sets turn w e = rw (ne_eqb (turn % 2) 0 (λ z. omega arith)) refl

    groomed_at : (ws : List ℕ) (i : ℕ) → i < length ws → get_or (trim_from F X (tail groom k) mark 0 ws) i 0 ≡ trimmed F X (tail groom k) mark (turns_in F X mark (take i ws)) (get_or ws i 0)
    groomed_at ws i h = at_turn (tail groom k) 0 ws i h ∙ ap (λ (turn : ℕ). trimmed F X (tail groom k) mark turn (get_or ws i 0)) (zero-add (turns_in F X mark (take i ws)))

    pub even_shaved : (ws : List ℕ) (i : ℕ) → i < length ws → turns_in F X mark (take i ws) % 2 ≡ 0
        → get_or (trim_from F X (tail groom k) mark 0 ws) i 0 ≡ trimmed F X (tail shave k) mark 0 (get_or ws i 0)
    even_shaved ws i h e = groomed_at ws i h ∙ groom_shaves (turns_in F X mark (take i ws)) (get_or ws i 0) e

    pub odd_set : (ws : List ℕ) (i : ℕ) → i < length ws → turns_in F X mark (take i ws) % 2 ≡ 1
        → get_or (trim_from F X (tail groom k) mark 0 ws) i 0 ≡ trimmed F X (tail set k) mark 0 (get_or ws i 0)
    odd_set ws i h e = groomed_at ws i h ∙ groom_sets (turns_in F X mark (take i ws)) (get_or ws i 0) e

-- w before the others, where it takes a turn
abbrev before : Bool → ℕ → List ℕ → List ℕ
before true w ws = w ∷ ws
before false w ws = ws

module _ (F X mark : ℕ) where
  -- the readings of an array that take turns, without the others
  abbrev pub takers : List ℕ → List ℕ
  takers [] = []
  takers (w ∷ ws) = before (trimmable F X mark w) w (takers ws)

  still : (x : Method) (turn w : ℕ) → trimmable F X mark w ≡ false → trimmed F X x mark turn w ≡ w
  unfolding trimmed
  still x turn w e = rw e refl

  again : (x : Method) → Ready x → (turn w : ℕ) → trimmable F X mark w ≡ true → trimmable F X mark (trimmed F X x mark turn w) ≡ true
  again x r turn w e =
      let g = stays_good F X x r mark turn w (trimmable_present F X mark w e) (trimmable_below F X mark w e) in
      is_trimmable F X mark (trimmed F X x mark turn w) g.here g.below

  -- what is left of a reading takes a turn where the reading did
  pub same_turn : (x : Method) → Ready x → (turn w : ℕ) → turn_after F X mark (trimmed F X x mark turn w) turn ≡ turn_after F X mark w turn
  unfolding turn_after
  same_turn x r turn w = go (trimmable F X mark w) refl
    where
      go : (b : Bool) → trimmable F X mark w ≡ b → cond (trimmable F X mark (trimmed F X x mark turn w)) (suc turn) turn ≡ cond (trimmable F X mark w) (suc turn) turn
      go true e = rw (again x r turn w e, e) refl
      go false e = rw (still x turn w e) refl

  -- the others change nothing of what is left of them
  gaps_from : (x : Method) → Ready x → (turn : ℕ) (ws : List ℕ) → takers (trim_from F X x mark turn ws) ≡ trim_from F X x mark turn (takers ws)
  unfolding trim_from
  gaps_from x r turn [] = refl
  gaps_from x r turn (w ∷ ws) = go (trimmable F X mark w) refl (λ t. gaps_from x r t ws)
    where
      next : ℕ
      next = turn_after F X mark w turn

      go : (b : Bool) → trimmable F X mark w ≡ b → ((t : ℕ) → takers (trim_from F X x mark t ws) ≡ trim_from F X x mark t (takers ws))
          → before (trimmable F X mark (trimmed F X x mark turn w)) (trimmed F X x mark turn w) (takers (trim_from F X x mark next ws)) ≡ trim_from F X x mark turn (before b w (takers ws))
      go true e ih = rw (again x r turn w e) (ap (λ (l : List ℕ). trimmed F X x mark turn w ∷ l) (ih next))
      go false e ih = rw (still x turn w e, e, idle F X mark w turn e) (ih turn)

  pub gaps : (method : ℕ) (setting : ℤ) (ws : List ℕ) → takers (trim F X method setting mark ws).readings ≡ (trim F X method setting mark (takers ws)).readings
  unfolding trim leaving
  gaps method setting ws = go (trim_questions F X method setting) refl
    where
      go : (o : Outcome Method) → trim_questions F X method setting ≡ o → takers (leaving o (λ x. trim_from F X x mark 0 ws) ws) ≡ leaving o (λ x. trim_from F X x mark 0 (takers ws)) (takers ws)
      go (refused n) e = refl
      go (accepted x) e = gaps_from x (accepted_ready F X method setting x e) 0 ws

  -- where every reading takes a turn, the turn of a place is the place
  pub by_place : (ws : List ℕ) → ((k : ℕ) → k < length ws → trimmable F X mark (get_or ws k 0) ≡ true) → (i : ℕ) → i ≤ length ws → turns_in F X mark (take i ws) ≡ i
  unfolding turns_in
  by_place [] all zero h = refl
  by_place [] all (suc i) h = absurd (not-suc-le-zero h)
  by_place (w ∷ ws) all zero h = refl
  by_place (w ∷ ws) all (suc i) h =
      ap₂ (λ (b : Bool) (n : ℕ). cond b 1 0 + n) (all 0 (omega arith)) (by_place ws (λ k l. all (suc k) (omega arith)) i (le_of_suc-le-suc h)) ∙ (let e : 1 + i ≡ suc i = omega arith in e)
