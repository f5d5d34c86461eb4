-- The documents' outcome for what totals answers.
use Rattle.std.specs.Prelude.{Result}
use Rattle.meaning.specs.Questions.{Outcome}
use Rattle.meaning.specs.Totals.{Totals}
use Rattle.refusal.specs.declared.Refusal.{Refusal}
use Rattle.refusal.specs.Refusals.{outcome_of}
use Rattle.totals.specs.declared.Total.{Total}

abbrev pub values_of : Total → Totals
values_of t = record { count = t.count; sum = t.sum }

abbrev pub answer_of : Result Total Refusal → Outcome Totals
answer_of = outcome_of values_of
