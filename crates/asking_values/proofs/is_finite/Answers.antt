-- `is_finite` meets its contract: 0.0 is the zero of the test.
use lib.Ieee.{of_bits}
use Rattle.asking_values.proofs.Finite.{difference}
use Rattle.asking_values.proofs.is_finite.Goals as goal

pub returns : goal.returns
unfolding of_bits
returns c = difference c.args.x
