-- `widened_normal` meets its contract: a finite value is no NaN, and as a double it is the same value.
use mathlib.Core.Path.{refl}
use borrow.Author.Rules.{rules}
use Rattle.decoding.proofs.Numbers.{finite_number}
use Rattle.decoding.proofs.widened_normal.Goals as goal

pub float_to_float-result : goal.float_to_float-result
float_to_float-result c = search (rules, finite_number)

pub returns : goal.returns
returns c = refl
