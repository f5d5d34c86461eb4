-- The table's test at the place i.
use mathlib.Core.Path.{refl}
use Rattle.digit_tails.proofs.Decades.{step_at}
use Rattle.digit_tails.proofs.step_exponent.Goals as goal

pub returns : goal.returns
returns c = record { is = refl; power = step_at c.args.i c.requires }
