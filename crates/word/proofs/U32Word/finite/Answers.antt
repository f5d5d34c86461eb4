-- The test's value, on either way.
use Rattle.std.proofs.Common.{le-ltb, lt-ltb}
use Rattle.meaning.specs.Readings.{infinity}
use Rattle.word.proofs.U32Word.finite.Goals as goal

pub returns-then-self-lt2139095040 : goal.returns-then-self-lt2139095040
unfolding infinity
returns-then-self-lt2139095040 c = simp (lt-ltb _ _ c.if-self-lt2139095040.true)

pub returns-else-self-lt2139095040 : goal.returns-else-self-lt2139095040
unfolding infinity
returns-else-self-lt2139095040 c = simp (le-ltb _ _ c.if-self-lt2139095040.false)
