use mathlib.Core.Path.{◌∙◌}
use Rattle.std.proofs.Common.{rules, tests}
use Rattle.std.proofs.lemmas.Iterator.{YieldsList-from_slice}
use Rattle.std.proofs.lemmas.Iterator.Search.{all_from_yields_List}
use Rattle.meaning.specs.Questions.{width_in_range}
use Rattle.asking_layers.proofs.Every.{list_all_is_all}
use Rattle.asking_layers.proofs.all_widths.Goals as goal

pub returns : goal.returns
returns c =
    all_from_yields_List width_in_range _ _ _ c.all.ensures.ran (YieldsList-from_slice c.args.widths.now cc) (λ x b q k. search (rules, tests))
    ∙ list_all_is_all width_in_range c.args.widths.now
