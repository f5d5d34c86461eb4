-- The tests' values, on each way.
use Rattle.std.proofs.Common.{le-ltb, lt-ltb, eq-eqb, ne_eqb}
use Rattle.meaning.specs.Readings.{magnitude}
use Rattle.single.specs.Left.{subnormal}
use Rattle.single.proofs.subnormal_single.Goals as goal

pub returns-then-m-eq0 : goal.returns-then-m-eq0
unfolding subnormal magnitude
returns-then-m-eq0 c = simp (eq-eqb _ _ c.if-m-eq0.true)

pub returns-then-m-lt8388608 : goal.returns-then-m-lt8388608
unfolding subnormal magnitude
returns-then-m-lt8388608 c = simp (ne_eqb _ _ c.if-m-eq0.false, lt-ltb _ _ c.if-m-lt8388608.true)

pub returns-else-m-lt8388608 : goal.returns-else-m-lt8388608
unfolding subnormal magnitude
returns-else-m-lt8388608 c = simp (ne_eqb _ _ c.if-m-eq0.false, le-ltb _ _ c.if-m-lt8388608.false)
