use mathlib.Core.Path.{◌∙◌}
use Rattle.std.proofs.Common.{rules, tests}
use Rattle.std.proofs.lemmas.Iterator.{YieldsList-from_slice}
use Rattle.std.proofs.lemmas.Iterator.Search.{all_from_yields_List}
use Rattle.decoding.specs.Floats.{finite_float}
use Rattle.asking_layers.proofs.Every.{list_all_is_all}
use Rattle.asking_values.proofs.all_finite.Goals as goal

pub returns : goal.returns
returns c =
    all_from_yields_List finite_float _ _ _ c.all.ensures.ran (YieldsList-from_slice c.args.references.now cc) (λ x b q k. search (rules, tests))
    ∙ list_all_is_all finite_float c.args.references.now
