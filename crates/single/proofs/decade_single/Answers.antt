-- The test's value, on either way.
use Rattle.std.proofs.Common.{le-ltb, lt-ltb}
use Rattle.single.proofs.decade_single.Goals as goal

pub returns-then-m-limit : goal.returns-then-m-limit
returns-then-m-limit c = simp (lt-ltb _ _ c.if-m-limit.true)

pub returns-else-m-limit : goal.returns-else-m-limit
returns-else-m-limit c = simp (le-ltb _ _ c.if-m-limit.false)
