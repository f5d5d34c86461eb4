-- The law of the tail, as for doubles, with the decade of the double of the same size.
use native.Mathlib.Nat.{sub-add_cancel}
use Rattle.digit_tails.proofs.Widths.{single_none, single_some}
use Rattle.digit_tails.proofs.single_tail.Goals as goal

pub widened-w-requires : goal.widened-w-requires
widened-w-requires c = let p = c.requires in (p.0, p.1)

pub decade_place-r-requires : goal.decade_place-r-requires
decade_place-r-requires c = let w = c.widened-w.ensures in (w.0, w.1, c.requires.4)

pub returns-then-r-d : goal.returns-then-r-d
returns-then-r-d c =
    let p = c.requires in
    let w = c.widened-w.ensures in
    single_none _ _ _ _ c.decade_place-r.ensures.1 w.2 p.2 p.0 p.1 w.0 c.if-r-d.true

pub returns : goal.returns
returns c =
    let p = c.requires in
    let w = c.widened-w.ensures in
    let tail = single_some _ _ _ _ c.decade_place-r.ensures.1 w.2 p.2 p.0 p.1 w.0 in
    rw c.saturating_sub.ensures (tail _ _ _ (sub-add_cancel c.if-r-d.false) c.step_exponent-j.ensures.power c.saturating_sub-c.ensures)
