-- The magnitude is finite, and no unit of the float adder clips one.
use Rattle.std.proofs.Common.{arith}
use Rattle.meaning.specs.Readings.{infinity}
use Rattle.absolute.proofs.Clip.{never_clips}
use Rattle.word.proofs.U32Word.added_step.Goals as goal

pub fine_single-requires : goal.fine_single-requires
unfolding infinity
fine_single-requires c = c.requires

pub returns-clause-unclipped : goal.returns-clause-unclipped
returns-clause-unclipped c = never_clips 23 8 c.args.q c.args.self (omega arith) c.requires.0
