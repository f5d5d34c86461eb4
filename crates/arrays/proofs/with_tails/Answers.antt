-- What one reading is left as, all are.
use Rattle.std.proofs.Common.{rules}
use Rattle.reading.specs.Left.{settled_tail}
use Rattle.loops.proofs.Tallies.{one_tail}
use Rattle.arrays.proofs.Outcomes.{counts_of}
use Rattle.arrays.proofs.with_tails.Goals as goal

pub each-requires-clause-counted : goal.each-requires-clause-counted
each-requires-clause-counted g c =
    let m = g.W.Word in
    let s = c.args in
    counts_of m.value (settled_tail m.FRACTION m.EXPONENT s.tail.bits (m.value s.add) (m.value s.mark)) (one_tail m.FRACTION m.EXPONENT _ _ _) (λ x r made. search rules)

pub returns : goal.returns
returns g c =
    let m = g.W.Word in
    let s = c.args in
    c.each.ensures (settled_tail m.FRACTION m.EXPONENT s.tail.bits (m.value s.add) (m.value s.mark)) (one_tail m.FRACTION m.EXPONENT _ _ _) (λ x r made. search rules)
