-- `coarse_double` meets its contract: `coarse_step` for doubles.
use mathlib.Core.Path.{refl}
use Rattle.meaning.specs.Readings.{infinity}
use Rattle.absolute.proofs.coarse_double.Goals as goal

pub returns : goal.returns
unfolding infinity
returns c = let t = c.coarse_step.ensures 11 refl in record { magnitude = t.new; clipped = t.clip }
