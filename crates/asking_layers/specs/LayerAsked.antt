-- Questions 3, 4, 5 and 11 of packing and unpacking as the code asks them: the refusal's number, or 0.
use Rattle.std.specs.Prelude.{Bool, cond, ◌&&◌, List, ℕ, ◌/◌, Result, Ok, Err, eqb, length}
use Rattle.meaning.specs.Questions.{all, length_in_range, whole, width_in_range}
use Rattle.refusal.specs.declared.Refusal.{Refusal}
use Rattle.refusal.specs.Refusals.{number_of}

-- L is a layer's length and n the number of readings (or codes); `beside` says whether the array beside them has its length, and `per_layer` are the lengths of those
-- with one entry for each layer beside the widths
unfoldable pub layer_refusal : ℕ → ℕ → Bool → List ℕ → List ℕ → ℕ
layer_refusal L n beside per_layer widths =
    cond (length_in_range L)
    (cond (whole n L)
    (cond (beside && eqb (length widths) (n / L) && all (λ k. eqb k (n / L)) per_layer)
    (cond (all width_in_range widths) 0 11)
    5)
    4)
    3

-- the number of a refusal, or 0 where the questions let the call go on
abbrev pub number_or_0 : {A : Type 0} → Result A Refusal → ℕ
number_or_0 (Ok a) = 0
number_or_0 (Err r) = number_of r
