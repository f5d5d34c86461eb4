-- The documents' outcome for a comparison's answer, and what a walk over places answers.
use Rattle.std.specs.Prelude.{◌≡◌, Bool, true, false, ℕ, ◌+◌, ◌<◌, Option, Some, None, Result, MatchOption}
use Rattle.meaning.specs.Questions.{Outcome}
use Rattle.meaning.specs.Comparing as meant
use Rattle.refusal.specs.declared.Refusal.{Refusal}
use Rattle.refusal.specs.Refusals.{outcome_of}
use Rattle.beyond.specs.declared.Compared.{Compared}

abbrev pub place_of : Option ℕ → meant.Place
place_of None = meant.none
place_of (Some place) = meant.at place

abbrev pub found_of : Compared → meant.Compared
found_of c = record { first = place_of c.place; read = c.read }

abbrev pub answer_of : Result Compared Refusal → Outcome meant.Compared
answer_of = outcome_of found_of

-- the first of n places at which a test says true, and how many places were read; `Says i b` is that the test says b at place i
pub record FirstTrue (Says : ℕ → Bool → Type 0) (n : ℕ) (c : Compared) : Type 0 where
  pub first :
      MatchOption c.place
      ((c.read ≡ n) × ((i : ℕ) → i < n → Says i false))
      (λ place. (place < n) × (c.read ≡ place + 1) × Says place true × ((i : ℕ) → i < place → Says i false))
