-- Where the reading is finite the new magnitude is the definition's, by `digits_word`; the rest is `settled_by_lem`.
use Rattle.std.proofs.Common.{ℕ, ◌<◌, sym, ◌∙◌, subst, arith}
use Rattle.meaning.specs.Readings.{magnitude, infinity}
use Rattle.meaning.specs.Methods.{digits}
use Rattle.meaning.proofs.OneReading.{new_below}
use Rattle.reading.proofs.Words.{cond_lt, any_magnitude, some_magnitude, digits_word, digits_over}
use Rattle.reading.proofs.Settled.{settled_by_lem}
use Rattle.word.proofs.one.with_digits.Goals as goal

-- what is handed on is a finite magnitude, and not zero
pub digits_tail-t-requires : goal.digits_tail-t-requires
digits_tail-t-requires g c =
    let w = g.W.Word in
    let v = w.value in
    let i = infinity w.FRACTION w.EXPONENT in
    let any = any_magnitude (v c.magnitude-m.result) i (v c.finite-b.result) (v c.choose-a.result) g.met.W.Word.one_finite
    (rw c.one-one.ensures at c.finite-b.ensures) (rw (c.zero-zero.ensures, c.one-one.ensures) at c.choose-a.ensures) in
    (any.0, any.1, c.requires.0.0, c.requires.0.1, c.requires.1)

pub halfshave-h-requires : goal.halfshave-h-requires
halfshave-h-requires g c =
    let w = g.W.Word in
    let v = w.value in
    let i = infinity w.FRACTION w.EXPONENT in
    let any = any_magnitude (v c.magnitude-m.result) i (v c.finite-b.result) (v c.choose-a.result) g.met.W.Word.one_finite
    (rw c.one-one.ensures at c.finite-b.ensures) (rw (c.zero-zero.ensures, c.one-one.ensures) at c.choose-a.ensures) in
    (any, c.digits_tail-t.ensures.0)

-- what comes back is finite
pub with_magnitude-requires : goal.with_magnitude-requires
with_magnitude-requires g c =
    let w = g.W.Word in
    let v = w.value in
    let i = infinity w.FRACTION w.EXPONENT in
    let any = any_magnitude (v c.magnitude-m.result) i (v c.finite-b.result) (v c.choose-a.result) g.met.W.Word.one_finite
    (rw c.one-one.ensures at c.finite-b.ensures) (rw (c.zero-zero.ensures, c.one-one.ensures) at c.choose-a.ensures) in
    let back : v c.halfshave-h.result < i =
    subst (λ (n : ℕ). n < i) (sym (c.halfshave-h.ensures ∙ sym c.digits_tail-t.ensures.1))
    (new_below w.FRACTION w.EXPONENT (digits c.args.n) c.requires.0.0 0 (v c.choose-a.result) any.1) in
    let some : 0 < i = omega (arith, g.met.W.Word.one_finite) in
    (c.magnitude-m.ensures.room, c.magnitude-m.ensures.value, subst (λ (n : ℕ). n < i) (sym (rw c.zero-zero.ensures at c.choose-k.ensures)) (cond_lt _ 0 (v c.halfshave-h.result) i some back))

pub returns : goal.returns
returns g c =
    let w = g.W.Word in
    let v = w.value in
    let F = w.FRACTION in
    let X = w.EXPONENT in
    let s = c.args in
    let zero = c.zero-zero.ensures in
    let one = c.one-one.ensures in
    let m = c.magnitude-m.ensures.value in
    let t = c.digits_tail-t in
    let h = c.halfshave-h in
    let settled = rw zero at c.settle.ensures in
    settled
    ∙ settled_by_lem F X (digits s.n) (v s.mark) (v s.x) (v c.choose-k.result) 0 (v c.finite-new.result)
    (digits_word F X s.n (magnitude F X (v s.x)) (v c.choose-a.result) t.result (v h.result) (v c.choose-k.result)
    (some_magnitude (magnitude F X (v s.x)) (infinity F X) (v c.finite-b.result) (v c.choose-a.result) g.met.W.Word.one_finite (rw (m, one) at c.finite-b.ensures) (rw (zero, one) at c.choose-a.ensures))
    t.ensures.1 h.ensures (rw (m, zero) at c.choose-k.ensures))
    (λ f. digits_over F X s.n (v s.x)) (rw (c.with_magnitude.ensures, m) at c.finite-new.ensures)
