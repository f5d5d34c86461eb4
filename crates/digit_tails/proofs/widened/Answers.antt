-- A normal single's field and significand go up 29 bits, and the field grows by 896.
use native.Mathlib.Omega.{arith}
use Rattle.digit_tails.proofs.Singles.{normal_widened}
use Rattle.digit_tails.proofs.widened.Goals as goal

pub subnormal_widened-requires : goal.subnormal_widened-requires
subnormal_widened-requires c = (c.requires.0, c.if-m-lt8388608.true)

pub returns-then-m-lt8388608 : goal.returns-then-m-lt8388608
returns-then-m-lt8388608 c = c.subnormal_widened.ensures

pub returns : goal.returns
returns c = (omega (arith, c.from.ensures), omega (arith, c.from.ensures), rw c.from.ensures (normal_widened c.args.m c.if-m-lt8388608.false))
