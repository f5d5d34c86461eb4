-- The size stays as x is doubled and f falls by one.
use native.Mathlib.Omega.{arith}
use Rattle.digit_tails.proofs.Singles.{start, room, turn, finish}
use Rattle.digit_tails.proofs.subnormal_widened.Goals as goal

pub loop-x-init : goal.loop-x-init
loop-x-init c = rw c.from-x.ensures (start c.args.m c.requires.0 c.requires.1)

pub overflow_sub-f : goal.overflow_sub-f
overflow_sub-f c = omega (arith, room _ _ _ c.loop-x.invariant)

pub loop-x-smaller : goal.loop-x-smaller
loop-x-smaller c = omega (arith, room _ _ _ c.loop-x.invariant)

pub loop-x-preserved : goal.loop-x-preserved
loop-x-preserved c = turn _ _ _ (omega arith) c.loop-x.invariant

pub overflow_mul-result : goal.overflow_mul-result
overflow_mul-result c = omega (arith, c.loop-x.invariant.high)

pub overflow_mul-result-2 : goal.overflow_mul-result-2
overflow_mul-result-2 c = omega (arith, c.loop-x.invariant.short)

pub overflow_add-result : goal.overflow_add-result
overflow_add-result c = omega (arith, c.loop-x.invariant.high, c.loop-x.invariant.short)

pub returns : goal.returns
returns c =
    let inv = c.loop-x.invariant in
    (omega (arith, inv.some), omega (arith, inv.high, inv.short), finish _ _ _ c.requires.1 (omega arith) inv)
