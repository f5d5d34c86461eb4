use Rattle.std.proofs.Common.{◌≡◌, ℕ, refl, sym, ap, ◌∙◌, arith}
use borrow.Author.Tests.{lt-ltb, le-ltb}
use Rattle.codes.specs.declared.Cut.{Cut}
use Rattle.codes.specs.Cut.{reading_of, opposed}
use Rattle.codes.proofs.Reading.{opposed_magnitude, reading_lost, sign_small, span_test, span_both}
use Rattle.codes.proofs.holds_at.Goals as goal

-- the cut of what the code calls the opposite
low_is : (lo t o : ℕ) (y : Cut) → y ≡ reading_of o t → o ≡ opposed lo → y ≡ reading_of (opposed lo) t
low_is lo t o y e f = e ∙ ap (λ (z : ℕ). reading_of z t) f

pub cut_reading-low-requires : goal.cut_reading-low-requires
cut_reading-low-requires c =
    let s = c.args in
    rw (c.opposite.ensures, opposed_magnitude s.span.low s.span.low_finite) (omega (arith, c.unit_of-unit.ensures))

pub overflow_add-lost : goal.overflow_add-lost
overflow_add-lost c = omega (arith, reading_lost _ _ _ c.cut_reading-high.ensures, reading_lost _ _ _ c.cut_reading-low.ensures)

pub returns-then-lost-eq2 : goal.returns-then-lost-eq2
returns-then-lost-eq2 c =
    let s = c.args in
    sym (span_both s.span s.steps s.exponent c.unit_of-unit.result c.cut_reading-high.result c.cut_reading-low.result (sign_small s.span.low (omega arith)) (omega arith) c.requires.span_bound c.unit_of-unit.ensures c.cut_reading-high.ensures
    (low_is _ _ _ _ c.cut_reading-low.ensures c.opposite.ensures) c.if-lost-eq2.true)

pub returns-then-difference-top : goal.returns-then-difference-top
returns-then-difference-top c =
    let s = c.args in
    let test = span_test s.span s.steps s.exponent c.unit_of-unit.result c.top_of-top.result _ c.cut_reading-high.result c.cut_reading-low.result (sign_small s.span.low (omega arith)) (omega arith) c.requires.span_bound c.unit_of-unit.ensures c.cut_reading-high.ensures
    (low_is _ _ _ _ c.cut_reading-low.ensures c.opposite.ensures) refl c.top_of-top.ensures c.if-lost-eq2.false in
    sym (lt-ltb _ _ (omega arith)) ∙ test.1 (λ e. omega (arith, e))

pub returns-then-top-difference : goal.returns-then-top-difference
returns-then-top-difference c =
    let s = c.args in
    let test = span_test s.span s.steps s.exponent c.unit_of-unit.result c.top_of-top.result _ c.cut_reading-high.result c.cut_reading-low.result (sign_small s.span.low (omega arith)) (omega arith) c.requires.span_bound c.unit_of-unit.ensures c.cut_reading-high.ensures
    (low_is _ _ _ _ c.cut_reading-low.ensures c.opposite.ensures) refl c.top_of-top.ensures c.if-lost-eq2.false in
    sym (le-ltb _ _ (omega arith)) ∙ test.1 (λ e. omega (arith, e))

pub returns : goal.returns
returns c =
    let s = c.args in
    let test = span_test s.span s.steps s.exponent c.unit_of-unit.result c.top_of-top.result _ c.cut_reading-high.result c.cut_reading-low.result (sign_small s.span.low (omega arith)) (omega arith) c.requires.span_bound c.unit_of-unit.ensures c.cut_reading-high.ensures
    (low_is _ _ _ _ c.cut_reading-low.ensures c.opposite.ensures) refl c.top_of-top.ensures c.if-lost-eq2.false in
    test.0 (omega arith)
