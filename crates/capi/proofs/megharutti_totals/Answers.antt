-- The answer of totals, handed over.
use mathlib.Core.Path.{ap, ◌∙◌}
use Rattle.meaning.specs.Questions.{Outcome}
use Rattle.meaning.specs.Totals.{Totals}
use Rattle.capi.specs.ForC.{number_for_c, totals_for_c}
use Rattle.capi.proofs.megharutti_totals.Goals as goal

pub returns : goal.returns
returns c =
    let before = c.args.out.now in
    let answer = c.totals-answer.ensures in
    record {
      answer = c.hand_totals.ensures.number ∙ ap number_for_c answer;
      totals = c.hand_totals.ensures.totals ∙ ap (λ (o : Outcome Totals). totals_for_c o before) answer;
    }
