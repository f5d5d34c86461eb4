-- `spacing_exponent` meets its contract: the exponent field, less one where it isn't 0.
use borrow.Author.Rules.{rules}
use Rattle.meaning.specs.Readings.{exponent_field, spacing_exp}
use Rattle.absolute.proofs.spacing_exponent.Goals as goal

pub returns-then-field-eq0 : goal.returns-then-field-eq0
unfolding spacing_exp exponent_field
returns-then-field-eq0 c = search rules

pub returns : goal.returns
unfolding spacing_exp exponent_field
returns c = search rules
