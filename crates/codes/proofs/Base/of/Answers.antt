use Rattle.std.proofs.Common.{arith}
use Rattle.meaning.specs.Readings.{magnitude}
use Rattle.codes.proofs.Reading.{shift_bound, opposed_magnitude}
use Rattle.codes.proofs.Base.of.Goals as goal

pub cut_reading-requires : goal.cut_reading-requires
cut_reading-requires c =
    let s = c.args in
    rw (c.opposite.ensures, opposed_magnitude s.reference (omega arith)) (omega (arith, c.unit_of.ensures, shift_bound (magnitude 23 8 s.reference) s.exponent (omega arith)))
