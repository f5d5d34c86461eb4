-- What one is told of a function that trims single readings, and of an array that was trimmed. `value` reads a word as a number, `made` says which results a call may have.
use Rattle.std.specs.Prelude.{◌≡◌, ℕ, List, map}
use Rattle.reading.specs.Left.{Tally, Settled}
use Rattle.reading.specs.Words.{settled_at}
use Rattle.reading.specs.declared.Trimmed.{Trimmed}
use Rattle.loops.specs.Tallies.{Few}
use Rattle.loops.specs.Walk.{walked, tallied, walked_by, tallied_by}

module _ {W : Type 0} (value : W → ℕ) (made : W → Trimmed W → Type 0) where
  -- each count of a trimmed reading is 0 or 1
  abbrev pub CountsOnce : Type 0
  CountsOnce = (x : W) (r : Trimmed W) → made x r → Few (settled_at value r).tally 1

  -- what it leaves of a reading is what f says
  abbrev pub Leaves : (ℕ → Settled) → Type 0
  Leaves f = (x : W) (r : Trimmed W) → made x r → settled_at value r ≡ f (value x)

abbrev pub EachOnce : (ℕ → Settled) → Type 0
EachOnce f = (w : ℕ) → Few (f w).tally 1

-- an array trimmed reading by reading, as f says, and what all of them count for
pub record AllTrimmed {W : Type 0} (value : W → ℕ) (f : ℕ → Settled) (old new : List W) (t : Tally) : Type 0 where
  pub sums : t ≡ tallied f (map value old)
  pub content : map value new ≡ walked f (map value old)

-- the same where a reading's outcome goes by a state, and each reading moves that state on; `first` is the state of the first one
pub record AllTrimmedFrom {W : Type 0} (value : W → ℕ) (next : ℕ → ℕ → ℕ) (f : ℕ → ℕ → Settled) (first : ℕ) (old new : List W) (t : Tally) : Type 0 where
  pub sums : t ≡ tallied_by next f first (map value old)
  pub content : map value new ≡ walked_by next f first (map value old)
