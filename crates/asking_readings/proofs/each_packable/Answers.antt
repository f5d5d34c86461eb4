use mathlib.Core.Path.{ap, ◌∙◌}
use Prim.Native.Nat.{ℕ}
use lib.Dec.{ltb}
use Rattle.asking_readings.proofs.Largest.{all_finite}
use Rattle.asking_readings.proofs.each_packable.Goals as goal

pub returns : goal.returns
returns c = ap (λ (m : ℕ). ltb m 2139095040) c.largest_magnitude.ensures ∙ all_finite _ _
