-- What one reading is left as, all are.
use Rattle.std.proofs.Common.{rules}
use Rattle.meaning.specs.Methods.{digits}
use Rattle.reading.specs.Left.{settled_by}
use Rattle.loops.proofs.Tallies.{one_by}
use Rattle.arrays.proofs.Outcomes.{counts_of}
use Rattle.arrays.proofs.by_powers.Goals as goal

pub each-requires-clause-counted : goal.each-requires-clause-counted
each-requires-clause-counted g c =
    let m = g.W.Word in
    let s = c.args in
    counts_of m.value (settled_by m.FRACTION m.EXPONENT (digits s.n) (m.value s.mark) 0) (one_by m.FRACTION m.EXPONENT _ _ _) (λ x r made. search rules)

pub returns : goal.returns
returns g c =
    let m = g.W.Word in
    let s = c.args in
    c.each.ensures (settled_by m.FRACTION m.EXPONENT (digits s.n) (m.value s.mark) 0) (one_by m.FRACTION m.EXPONENT _ _ _) (λ x r made. search rules)
