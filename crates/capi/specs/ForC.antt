-- What a C caller gets of an outcome: 0, or the refusal's number. A refused call writes no counts, no place and no totals.
use Rattle.std.specs.Prelude.{List, [], ◌∷◌, ℕ}
use Rattle.meaning.specs.Methods.{Counts}
use Rattle.meaning.specs.Questions.{Outcome, refused, accepted}
use Rattle.meaning.specs.Comparing.{Place, none, at, Compared}
use Rattle.meaning.specs.Totals.{Totals}

unfoldable pub number_for_c : {A : Type 0} → Outcome A → ℕ
number_for_c (refused n) = n
number_for_c (accepted a) = 0

unfoldable pub counts_for_c : Outcome Counts → List ℕ → List ℕ
counts_for_c (refused n) before = before
counts_for_c (accepted c) before = c.changed_places ∷ c.spared_places ∷ c.clipped_places ∷ c.missing_places ∷ c.risen_places ∷ c.fallen_places ∷ []

-- 1 and the first place, or 0 and 0 where there is none; then the number of readings read
unfoldable pub place_for_c : Place → ℕ → List ℕ
place_for_c none read = 0 ∷ 0 ∷ read ∷ []
place_for_c (at place) read = 1 ∷ place ∷ read ∷ []

unfoldable pub found_for_c : Outcome Compared → List ℕ → List ℕ
found_for_c (refused n) before = before
found_for_c (accepted c) before = place_for_c c.first c.read

unfoldable pub totals_for_c : Outcome Totals → List ℕ → List ℕ
totals_for_c (refused n) before = before
totals_for_c (accepted t) before = t.count ∷ t.sum ∷ []
