-- A word has at least 32 bits.
use Rattle.std.proofs.Common.{arith}
use Rattle.word.proofs.Room.{numbers_fit}
use Rattle.word.proofs.Word.of.Goals as goal

pub from_wide-requires : goal.from_wide-requires
from_wide-requires g c = let w = g.Self.Word in omega (arith, c.from.ensures, c.ranges.n.fits, numbers_fit w.FRACTION w.EXPONENT g.met.Self.Word.bits)
