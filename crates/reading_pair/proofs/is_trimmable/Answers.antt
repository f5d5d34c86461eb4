-- The mark first, then the magnitude.
use mathlib.Core.Path.{sym, ◌∙◌}
use Rattle.reading_pair.proofs.Pairs.{missing_out, present_by_magnitude}
use Rattle.reading_pair.proofs.is_trimmable.Goals as goal

pub returns-then-wide-clause-value : goal.returns-then-wide-clause-value
returns-then-wide-clause-value g c =
    let w = g.W.Word in
    missing_out w.FRACTION w.EXPONENT _ _ (sym c.wide.ensures ∙ c.if-wide.true ∙ c.wide-2.ensures)

pub returns-clause-value : goal.returns-clause-value
returns-clause-value g c =
    let w = g.W.Word in
    simp (c.wide-3.ensures, c.magnitude.ensures.value, c.INFINITY.ensures, g.met.W.Near.infinity_is)
    (present_by_magnitude w.FRACTION w.EXPONENT _ _ (λ e. c.if-wide.false (c.wide.ensures ∙ e ∙ sym c.wide-2.ensures)))
