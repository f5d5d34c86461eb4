-- The choice of `finite_or0`.
use Rattle.reading_pair.specs.Limit.{finite_or0}
use Rattle.reading_pair.proofs.finite_or_zero.Goals as goal

pub returns : goal.returns
unfolding finite_or0
returns g c = rw (c.magnitude-m.ensures.value, c.zero.ensures) at c.finite.ensures
