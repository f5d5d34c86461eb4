-- Each sum has room for one more.
use Rattle.std.proofs.Common.{◌+◌, arith, pow_pos}
use Rattle.loops.specs.Tallies.{plus}
use Rattle.loops.proofs.Sums.plus.Goals as goal

pub sum-requires : goal.sum-requires
unfolding plus
sum-requires g c = let m = g.W.Word in omega (arith, c.requires.changed_few, pow_pos (m.FRACTION + m.EXPONENT + 1))

pub sum-requires-2 : goal.sum-requires-2
unfolding plus
sum-requires-2 g c = let m = g.W.Word in omega (arith, c.requires.marked_few, pow_pos (m.FRACTION + m.EXPONENT + 1))

pub sum-requires-3 : goal.sum-requires-3
unfolding plus
sum-requires-3 g c = let m = g.W.Word in omega (arith, c.requires.clipped_few, pow_pos (m.FRACTION + m.EXPONENT + 1))

pub sum-requires-4 : goal.sum-requires-4
unfolding plus
sum-requires-4 g c = let m = g.W.Word in omega (arith, c.requires.missing_few, pow_pos (m.FRACTION + m.EXPONENT + 1))

pub sum-requires-5 : goal.sum-requires-5
unfolding plus
sum-requires-5 g c = let m = g.W.Word in omega (arith, c.requires.risen_few, pow_pos (m.FRACTION + m.EXPONENT + 1))

pub returns : goal.returns
unfolding plus
returns g c = simp (c.sum.ensures, c.sum-2.ensures, c.sum-3.ensures, c.sum-4.ensures, c.sum-5.ensures)
