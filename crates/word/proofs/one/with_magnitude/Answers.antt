-- The magnitude is a part of the reading, and the new one has room below the sign.
use Rattle.std.proofs.Common.{arith}
use Rattle.word.proofs.Room.{sign_room, magnitude_le}
use Rattle.word.proofs.one.with_magnitude.Goals as goal

pub minus-requires : goal.minus-requires
minus-requires g c = magnitude_le g.W.Word.FRACTION g.W.Word.EXPONENT (g.W.Word.value c.args.x) (g.W.Word.value c.args.m) c.requires.1

pub sum-requires : goal.sum-requires
sum-requires g c =
    omega (
      arith,
      c.minus.ensures,
      sign_room g.W.Word.FRACTION g.W.Word.EXPONENT (g.W.Word.value c.args.x) (g.W.Word.value c.args.m) (g.W.Word.value c.args.n) c.requires.0 c.requires.1 c.requires.2,
    )
