-- Writing at a place: a run of bytes laid over others, and what is taken from the work area.
use Rattle.std.specs.Prelude.{ℕ, zero, suc, ◌+◌, List, [], ◌∷◌, ◌++◌, length, take, drop, get_or}
use Rattle.form.specs.Parse.{ending}
use Rattle.form.specs.Output.{decimal}

-- l with the bytes of w from `at` on
abbrev pub paste : List ℕ → ℕ → List ℕ → List ℕ
paste l at w = take at l ++ (w ++ drop (at + length w) l)

-- n values from place q, q + 512 ..
unfoldable pub gather : List ℕ → ℕ → ℕ → List ℕ
gather w q zero = []
gather w q (suc n) = get_or w q 0 ∷ gather w (q + 512) n

-- a number in decimal, and the byte after it with n more fields on its line
abbrev pub field : ℕ → ℕ → List ℕ
field v n = decimal v ++ (ending n ∷ [])

-- m lines of n values, the first from place i, i + 512 ..
unfoldable pub gathered : List ℕ → ℕ → ℕ → ℕ → List (List ℕ)
gathered w n i zero = []
gathered w n i (suc m) = gather w i n ∷ gathered w n (suc i) m
