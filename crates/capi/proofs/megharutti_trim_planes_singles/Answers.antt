-- The trim's answer, handed over.
use mathlib.Core.Path.{ap, ◌∙◌}
use lib.IntN.{ℤ}
use mir.Facts.{to_z-of_z}
use Rattle.meaning.specs.Planes.{AfterTrimPlanes, trim_planes_singles}
use Rattle.meaning.specs.Methods.{Counts}
use Rattle.meaning.specs.Questions.{Outcome}
use Rattle.capi.specs.ForC.{number_for_c, counts_for_c}
use Rattle.capi.proofs.megharutti_trim_planes_singles.Goals as goal

pub returns : goal.returns
returns c =
    let after = ap (λ (z : ℤ). trim_planes_singles c.args.method z c.args.mark c.args.n c.args.planes.now) (to_z-of_z c.ranges.setting) in
    let answer = c.trim_planes_singles-answer.ensures.answer ∙ ap (λ (a : AfterTrimPlanes). a.answer) after in
    record {
      answer = c.hand_over.ensures.number ∙ ap number_for_c answer;
      content = c.trim_planes_singles-answer.ensures.content ∙ ap (λ (a : AfterTrimPlanes). a.content) after;
      counted = c.hand_over.ensures.counted ∙ ap (λ (o : Outcome Counts). counts_for_c o c.args.counts.now) answer;
    }
