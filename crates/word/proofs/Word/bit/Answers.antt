-- A word has at least 32 bits.
use Rattle.std.proofs.Common.{arith}
use Rattle.word.proofs.Word.bit.Goals as goal

pub unit-requires : goal.unit-requires
unit-requires g c = let bits = g.met.Self.Word.bits in omega (arith, bits)
