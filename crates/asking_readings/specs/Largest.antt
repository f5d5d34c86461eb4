-- What the loop of question 6 finds.
use Rattle.std.specs.Prelude.{cond, List, [], ◌∷◌, ℕ, max, ◌%◌, eqb}

-- the largest magnitude of the present readings
unfoldable pub largest_present : ℕ → List ℕ → ℕ
largest_present mark [] = 0
largest_present mark (w ∷ ws) = max (cond (eqb w mark) 0 (w % 2147483648)) (largest_present mark ws)
