-- `magnitude_at` meets its contract, by its one test.
use native.Mathlib.Omega.{arith}
use borrow.Author.Tests.{eq-eqb, ne_eqb}
use Rattle.absolute.proofs.magnitude_at.Goals as goal

-- `magnitude_at` meets its contract, by its one test.
pub returns-then-spacings-eq0 : goal.returns-then-spacings-eq0
returns-then-spacings-eq0 c = simp (eq-eqb _ _ c.if-spacings-eq0.true)

pub overflow_mul-result : goal.overflow_mul-result
overflow_mul-result c = rw c.power.ensures (omega arith)

pub overflow_add-result : goal.overflow_add-result
overflow_add-result c = rw c.power.ensures (omega arith)

pub returns : goal.returns
returns c = simp (c.power.ensures, ne_eqb _ _ c.if-spacings-eq0.false)
