-- The turn of a place is the place.
use mathlib.Core.Path.{ap, ◌∙◌}
use Prim.Native.Nat.{ℕ, ◌%◌}
use native.Mathlib.Omega.{arith}
use Rattle.meaning.proofs.Turns.{even_shaved, odd_set, by_place}
use Rattle.papers.specs.Grooming.{Grooming}

pub grooming : (F X : ℕ) → Grooming F X
grooming F X =
    record {
      even_shaved = λ k mark ws all i h e. even_shaved F X mark k ws i h (ap (λ (turn : ℕ). turn % 2) (by_place F X mark ws all i (omega arith)) ∙ e);
      odd_set = λ k mark ws all i h e. odd_set F X mark k ws i h (ap (λ (turn : ℕ). turn % 2) (by_place F X mark ws all i (omega arith)) ∙ e);
    }
