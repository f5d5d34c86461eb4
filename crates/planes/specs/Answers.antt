-- The documents' outcome for a conversion's answer.
use Rattle.std.specs.Prelude.{Result}
use Rattle.meaning.specs.Questions.{Outcome}
use Rattle.refusal.specs.declared.Refusal.{Refusal}
use Rattle.refusal.specs.Refusals.{outcome_of}

abbrev pub answer_of : Result (Unit {0}) Refusal → Outcome (Unit {0})
answer_of = outcome_of (λ done. done)
