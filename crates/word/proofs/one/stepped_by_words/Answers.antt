-- Where the reading is finite the new magnitude is the definition's; the rest is `settled_by_lem`.
use Rattle.std.proofs.Common.{ℕ, ◌<◌, cond, sym, ap, ◌∙◌, subst, arith}
use Rattle.meaning.specs.Readings.{infinity}
use Rattle.meaning.specs.Methods.{absolute, new_magnitude, clips}
use Rattle.meaning.proofs.OneReading.{new_below}
use Rattle.reading.specs.Left.{over}
use Rattle.reading.proofs.Words.{finite_or_zero}
use Rattle.reading.proofs.Settled.{settled_by_lem}
use Rattle.word.proofs.Room.{below}
use Rattle.word.proofs.one.stepped_by_words.Goals as goal

-- what is handed on is a finite magnitude
pub any_step-step-requires : goal.any_step-step-requires
any_step-step-requires g c =
    let w = g.W.Word in
    let i = infinity w.FRACTION w.EXPONENT in
    let finite = below _ i _ _ (omega (arith, g.met.W.Word.one_finite, c.zero.ensures)) c.finite-a.ensures in
    finite

-- and so is what comes back
pub with_magnitude-requires : goal.with_magnitude-requires
with_magnitude-requires g c =
    let w = g.W.Word in
    let i = infinity w.FRACTION w.EXPONENT in
    let finite = below _ i _ _ (omega (arith, g.met.W.Word.one_finite, c.zero.ensures)) c.finite-a.ensures in
    let back = new_below w.FRACTION w.EXPONENT (absolute (w.value c.args.q)) tt 0 (w.value c.finite-a.result) finite in
    (c.magnitude-m.ensures.room, c.magnitude-m.ensures.value, subst (λ (n : ℕ). n < i) (sym c.any_step-step.ensures.magnitude) back)

pub returns : goal.returns
unfolding over
returns g c =
    let w = g.W.Word in
    let v = w.value in
    let s = c.args in
    let zero = c.zero.ensures in
    let m = c.magnitude-m.ensures.value in
    let same = finite_or_zero _ (infinity w.FRACTION w.EXPONENT) (v c.finite-a.result) (rw (m, zero) at c.finite-a.ensures) in
    let settled = c.settle.ensures in
    settled
    ∙ settled_by_lem w.FRACTION w.EXPONENT (absolute (v s.q)) (v s.mark) (v s.x) (v c.any_step-step.result.magnitude) (v c.any_step-step.result.clipped) (v c.finite-new.result)
    (λ f. c.any_step-step.ensures.magnitude ∙ ap (λ (a : ℕ). new_magnitude w.FRACTION w.EXPONENT (absolute (v s.q)) 0 a) (same f))
    (λ f. c.any_step-step.ensures.clipped ∙ ap (λ (a : ℕ). cond (clips w.FRACTION w.EXPONENT (absolute (v s.q)) a) 1 0) (same f))
    (rw (c.with_magnitude.ensures, m) at c.finite-new.ensures)
