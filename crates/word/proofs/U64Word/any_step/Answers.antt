-- The magnitude is finite.
use Rattle.meaning.specs.Readings.{infinity}
use Rattle.word.proofs.U64Word.any_step.Goals as goal

pub coarse_double-requires : goal.coarse_double-requires
unfolding infinity
coarse_double-requires c = c.requires
