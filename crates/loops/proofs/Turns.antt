-- Grooming's turns: what one leaves for the next, how many of them were taken, and the walk that takes each reading's state from where it was written down. For every width.
use mathlib.Core.Path.{◌≡◌, refl, sym, ap, ap₂, ◌∙◌}
use mathlib.Core.Logic.{inl, inr, ⊎_elim}
use mathlib.Core.Bool.{Bool, true, false, cond}
use mathlib.Core.List.{List, [], ◌∷◌}
use Prim.Native.Nat.{ℕ, zero, suc, ◌+◌, ◌-◌, ◌<◌}
use native.Mathlib.Nat.{add-zero, suc-add, add-suc}
use native.Mathlib.Omega.{arith}
use lib.ListN.{length, get_or}
use Rattle.meaning.specs.Methods.{trimmable, turn_after}
use Rattle.reading.specs.Left.{Tally, Settled}
use Rattle.loops.specs.Tallies.{plus}
use Rattle.loops.specs.Walk.{state_at, walked_by, tallied_by}
use Rattle.loops.specs.Methods.{add_at, Filling, filling_after}
use Rattle.loops.proofs.Methods.{filling_after_lem}

-- the state after one reading more
pub state_next : (next : ℕ → ℕ → ℕ) (s : ℕ) (ws : List ℕ) (k : ℕ) → k < length ws → state_at next s ws (suc k) ≡ next (get_or ws k 0) (state_at next s ws k)
state_next next s [] k h = absurd (omega arith)
state_next next s (w ∷ ws) zero h = refl
state_next next s (w ∷ ws) (suc k) h = state_next next (next w s) ws k (omega arith)

-- ---- a walk whose states at each place were written down is the walk by the states

module _ (f : ℕ → ℕ → Settled) (next : ℕ → ℕ → ℕ) (told : ℕ → ℕ) where
  abbrev pub Told : ℕ → List ℕ → ℕ → Type 0
  Told s ws i = (k : ℕ) → k < length ws → told (i + k) ≡ state_at next s ws k

  told_here : (w : ℕ) (ws : List ℕ) (s i : ℕ) → Told s (w ∷ ws) i → told i ≡ s
  told_here w ws s i h = rw (add-zero i) at (h 0 (omega arith))

  told_next : (w : ℕ) (ws : List ℕ) (s i : ℕ) → Told s (w ∷ ws) i → Told (next w s) ws (suc i)
  told_next w ws s i h k l = ap told (suc-add i k ∙ sym (add-suc i k)) ∙ h (suc k) (omega arith)

  pub told_walked : (ws : List ℕ) (s i : ℕ) → Told s ws i → walked_by (λ w c. suc c) (λ c w. f (told c) w) i ws ≡ walked_by next f s ws
  told_walked [] s i h = refl
  told_walked (w ∷ ws) s i h =
      ap₂ (λ (a : ℕ) (l : List ℕ). (f a w).pattern ∷ l) (told_here w ws s i h) (told_walked ws (next w s) (suc i) (told_next w ws s i h))

  pub told_tallied : (ws : List ℕ) (s i : ℕ) → Told s ws i → tallied_by (λ w c. suc c) (λ c w. f (told c) w) i ws ≡ tallied_by next f s ws
  told_tallied [] s i h = refl
  told_tallied (w ∷ ws) s i h =
      ap₂ (λ (a : ℕ) (t : Tally). plus (f a w).tally t) (told_here w ws s i h) (told_tallied ws (next w s) (suc i) (told_next w ws s i h))

-- ---- grooming's state is one of two, by how many readings took a turn

after_two : (F X mark ones w s : ℕ) → Filling ones s → Filling ones (filling_after F X ones mark w s)
unfolding filling_after
after_two F X mark ones w s h = go (trimmable F X mark w)
  where
    go : (b : Bool) → Filling ones (cond b (ones - s) s)
    go true = ⊎_elim (λ e. inr (omega arith)) (λ e. inl (omega arith)) h
    go false = h

pub states_two : (F X mark ones s : ℕ) → Filling ones s → (ws : List ℕ) (k : ℕ) → Filling ones (state_at (filling_after F X ones mark) s ws k)
states_two F X mark ones s h ws zero = h
states_two F X mark ones s h [] (suc k) = h
states_two F X mark ones s h (w ∷ ws) (suc k) = states_two F X mark ones (filling_after F X ones mark w s) (after_two F X mark ones w s h) ws k

pub states_by_turns : (F X mark ones even odd turn : ℕ) → odd + even ≡ ones → (ws : List ℕ) (k : ℕ)
    → state_at (filling_after F X ones mark) (add_at even odd turn) ws k ≡ add_at even odd (state_at (turn_after F X mark) turn ws k)
states_by_turns F X mark ones even odd turn h ws zero = refl
states_by_turns F X mark ones even odd turn h [] (suc k) = refl
states_by_turns F X mark ones even odd turn h (w ∷ ws) (suc k) =
    ap (λ (s : ℕ). state_at (filling_after F X ones mark) s ws k) (filling_after_lem F X mark w ones even odd turn h) ∙ states_by_turns F X mark ones even odd (turn_after F X mark w turn) h ws k
