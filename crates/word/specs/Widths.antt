-- One is a finite magnitude of either width.
use Rattle.std.specs.Prelude.{◌<◌}
use Rattle.std.proofs.Common.{lit≤}
use Rattle.meaning.specs.Readings.{infinity}

pub one_finite_single : 1 < infinity 23 8
unfolding infinity
one_finite_single = lit≤ tt

pub one_finite_double : 1 < infinity 52 11
unfolding infinity
one_finite_double = lit≤ tt
