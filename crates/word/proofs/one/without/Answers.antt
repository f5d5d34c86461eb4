-- What is taken off is a part of the word's bits.
use Rattle.std.proofs.Common.{arith}
use lib.Bits.{and_le_l}
use Rattle.word.proofs.one.without.Goals as goal

pub minus-requires : goal.minus-requires
minus-requires g c = omega (arith, and_le_l (g.W.Word.value c.args.x) (g.W.Word.value c.args.ones), c.and.ensures)
