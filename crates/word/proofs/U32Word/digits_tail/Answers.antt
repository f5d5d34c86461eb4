-- The magnitude is finite.
use Rattle.meaning.specs.Readings.{infinity}
use Rattle.word.proofs.U32Word.digits_tail.Goals as goal

pub single_tail-requires : goal.single_tail-requires
unfolding infinity
single_tail-requires c = c.requires
