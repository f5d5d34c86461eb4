use lib.Dec.{eqb}
use mathlib.Core.List.{[], ◌∷◌}
use Rattle.std.proofs.Common.{rules, tests}
use Rattle.std.proofs.lemmas.Iterator.{YieldsList-from_slice}
use Rattle.std.proofs.lemmas.Iterator.Search.{all_from_yields_List}
use Rattle.meaning.specs.Questions.{all}
use Rattle.asking_layers.proofs.one_each.Goals as goal

pub returns : goal.returns
unfolding all
returns c =
    let s = c.args in
    all_from_yields_List (λ k. eqb k s.layers) _ _ _ c.all.ensures.ran (YieldsList-from_slice (s.widths ∷ s.references ∷ s.exponents ∷ []) c.iter.ensures.rest) (λ x b q k. search (rules, tests))
