-- The magnitude is finite.
use Rattle.meaning.specs.Readings.{infinity}
use Rattle.word.proofs.U32Word.any_step.Goals as goal

pub coarse_single-requires : goal.coarse_single-requires
unfolding infinity
coarse_single-requires c = c.requires
