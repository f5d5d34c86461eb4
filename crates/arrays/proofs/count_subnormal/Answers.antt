-- The count's law at each reading.
use native.Mathlib.Omega.{arith}
use lib.ListN.{get_or}
use Rattle.arrays.proofs.Rest.{few_subnormal, found_turn}
use Rattle.arrays.proofs.count_subnormal.Goals as goal

pub loop-reading-init : goal.loop-reading-init
loop-reading-init c = (omega arith, λ z k h. absurd (omega arith))

pub overflow_add-found : goal.overflow_add-found
overflow_add-found c =
    omega (arith, c.subnormal_single-found.ensures, few_subnormal (get_or c.args.readings.now c.loop-reading.reading-index 0), c.loop-reading.invariant.0, c.loop-reading-test.true)

pub loop-reading-preserved : goal.loop-reading-preserved
loop-reading-preserved c = found_turn c.args.readings.now c.loop-reading.reading-index c.loop-reading.found c.subnormal_single-found.result c.subnormal_single-found.ensures c.loop-reading.invariant

pub returns : goal.returns
returns c z k h = c.loop-reading.invariant.1 z k (omega (arith, c.loop-reading-test.false))
