-- The comparison's answer, handed over.
use mathlib.Core.Path.{ap, ◌∙◌}
use lib.IntN.{ℤ}
use mir.Facts.{to_z-of_z}
use Rattle.meaning.specs.Questions.{Outcome}
use Rattle.meaning.specs.Comparing.{Compared, first_beyond_singles}
use Rattle.capi.specs.ForC.{number_for_c, found_for_c}
use Rattle.capi.proofs.megharutti_first_beyond_singles.Goals as goal

pub returns : goal.returns
returns c =
    let answer =
    c.first_beyond_singles-answer.ensures ∙ ap (λ (z : ℤ). first_beyond_singles c.args.mark z c.args.raw.now c.args.trimmed.now) (to_z-of_z c.ranges.p) in
    record {
      answer = c.hand_place.ensures.number ∙ ap number_for_c answer;
      found = c.hand_place.ensures.found ∙ ap (λ (o : Outcome Compared). found_for_c o c.args.found.now) answer;
    }
