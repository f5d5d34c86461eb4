-- `is_nan` meets its contract: a NaN's magnitude is above that of the infinities.
use mathlib.Core.Path.{refl}
use Rattle.meaning.specs.Readings.{magnitude, infinity}
use Rattle.meaning.specs.Questions.{is_nan}
use Rattle.asking_values.proofs.is_nan.Goals as goal

pub returns : goal.returns
unfolding is_nan infinity magnitude
returns c = refl
