-- What one reading is left as, all are; with no tail nothing is added.
use Rattle.std.proofs.Common.{◌-◌, rules}
use Prim.Native.Nat.{zero-le}
use Rattle.meaning.specs.Methods.{round}
use Rattle.reading.specs.Left.{settled_by}
use Rattle.loops.proofs.Tallies.{one_by}
use Rattle.loops.proofs.Methods.{by_none}
use Rattle.arrays.proofs.Outcomes.{counts_of, trimmed_as}
use Rattle.arrays.proofs.rounded.Goals as goal

pub with_tails-requires : goal.with_tails-requires
with_tails-requires g c = ((c.requires.0, rw c.zero.ensures zero-le), c.requires.1)

pub returns-then-tail-eq0 : goal.returns-then-tail-eq0
returns-then-tail-eq0 g c =
    let m = g.W.Word in
    let s = c.args in
    trimmed_as _ _ (by_none m.FRACTION m.EXPONENT (m.value s.mark) c.if-tail-eq0.true) (rw c.zero.ensures at c.with_tails.ensures)

pub each-requires-clause-counted : goal.each-requires-clause-counted
each-requires-clause-counted g c =
    let m = g.W.Word in
    let s = c.args in
    counts_of m.value (settled_by m.FRACTION m.EXPONENT (round (m.FRACTION - s.tail.bits)) (m.value s.mark) 0) (one_by m.FRACTION m.EXPONENT _ _ _) (λ x r made. search rules)

pub returns : goal.returns
returns g c =
    let m = g.W.Word in
    let s = c.args in
    c.each.ensures (settled_by m.FRACTION m.EXPONENT (round (m.FRACTION - s.tail.bits)) (m.value s.mark) 0) (one_by m.FRACTION m.EXPONENT _ _ _) (λ x r made. search rules)
