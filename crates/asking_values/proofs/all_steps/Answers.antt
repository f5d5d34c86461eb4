use mathlib.Core.Path.{◌∙◌}
use Rattle.std.proofs.Common.{rules, tests}
use Rattle.std.proofs.lemmas.Iterator.{YieldsList-from_slice}
use Rattle.std.proofs.lemmas.Iterator.Search.{all_from_yields_List}
use Rattle.meaning.specs.Questions.{exponent_in_range}
use Rattle.asking_layers.proofs.Every.{list_all_is_all}
use Rattle.asking_values.proofs.all_steps.Goals as goal

pub returns : goal.returns
returns c =
    all_from_yields_List exponent_in_range _ _ _ c.all.ensures.ran (YieldsList-from_slice c.args.exponents.now cc) (λ x b q k. search (rules, tests))
    ∙ list_all_is_all exponent_in_range c.args.exponents.now
