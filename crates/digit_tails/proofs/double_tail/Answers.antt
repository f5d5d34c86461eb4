-- The law of the tail, with the decade's place, the step's exponent and the spacing's exponent that the callees ensure.
use native.Mathlib.Nat.{sub-add_cancel}
use Rattle.digit_tails.proofs.Widths.{double_none, double_some}
use Rattle.digit_tails.proofs.double_tail.Goals as goal

pub decade_place-r-requires : goal.decade_place-r-requires
decade_place-r-requires c = let p = c.requires in (p.0, p.1, p.4)

pub returns-then-r-d : goal.returns-then-r-d
returns-then-r-d c =
    let p = c.requires in
    double_none _ _ _ c.decade_place-r.ensures.1 p.2 p.0 p.1 c.if-r-d.true

pub returns : goal.returns
returns c =
    let p = c.requires in
    let tail = double_some _ _ _ c.decade_place-r.ensures.1 p.2 p.0 p.1 in
    rw c.saturating_sub.ensures (tail _ _ _ (sub-add_cancel c.if-r-d.false) c.step_exponent-j.ensures.power c.saturating_sub-c.ensures)
