use Rattle.std.proofs.Common.{eq-eqb, ne_eqb}
use Rattle.meaning.specs.Readings.{missing}
use Rattle.codes.proofs.Base.code_or_mark.Goals as goal

pub returns-then-reading-mark : goal.returns-then-reading-mark
unfolding missing
returns-then-reading-mark c = simp (eq-eqb _ _ c.if-reading-mark.true)

pub returns-else-reading-mark : goal.returns-else-reading-mark
unfolding missing
returns-else-reading-mark c = rw (ne_eqb _ _ c.if-reading-mark.false) c.code.ensures
