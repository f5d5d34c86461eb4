-- A walk over an array: what is left of each reading and what all of them count for, where a reading's outcome f goes by a state, and each reading moves that state on.
use Rattle.std.specs.Prelude.{List, [], ◌∷◌, ℕ, zero, suc}
use Rattle.reading.specs.Left.{Tally, Settled}
use Rattle.loops.specs.Tallies.{none, plus}

-- the state after the first k readings
abbrev pub state_at : (ℕ → ℕ → ℕ) → ℕ → List ℕ → ℕ → ℕ
state_at next s ws zero = s
state_at next s [] (suc k) = s
state_at next s (w ∷ ws) (suc k) = state_at next (next w s) ws k

abbrev pub walked_by : (ℕ → ℕ → ℕ) → (ℕ → ℕ → Settled) → ℕ → List ℕ → List ℕ
walked_by next f s [] = []
walked_by next f s (w ∷ ws) = (f s w).pattern ∷ walked_by next f (next w s) ws

abbrev pub tallied_by : (ℕ → ℕ → ℕ) → (ℕ → ℕ → Settled) → ℕ → List ℕ → Tally
tallied_by next f s [] = none
tallied_by next f s (w ∷ ws) = plus (f s w).tally (tallied_by next f (next w s) ws)

-- where no reading's outcome looks at the state, one that never moves serves
abbrev pub stays : ℕ → ℕ → ℕ
stays w s = s

abbrev pub walked : (ℕ → Settled) → List ℕ → List ℕ
walked g ws = walked_by stays (λ s w. g w) 0 ws

abbrev pub tallied : (ℕ → Settled) → List ℕ → Tally
tallied g ws = tallied_by stays (λ s w. g w) 0 ws
