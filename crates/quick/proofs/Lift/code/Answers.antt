use mathlib.Core.Path.{◌≡◌, refl, ◌∙◌}
use mathlib.Core.Logic.{◌≢◌}
use mathlib.Core.Bool.{cond}
use Prim.Native.Nat.{ℕ, ◌<◌}
use lib.Dec.{eqb}
use Rattle.codes.specs.declared.LayerStep.{LayerStep}
use Rattle.codes.specs.Cut.{CanCode}
use borrow.Author.Rules.{rules}
use borrow.Author.Tests.{eq-eqb, ne_eqb}
use Rattle.meaning.specs.Readings.{magnitude, infinity, missing}
use Rattle.quick.proofs.Numbers.{coded, single_number, float_number, sum_number}
use Rattle.quick.proofs.Codes.{quick_code_is}
use Rattle.quick.proofs.Lift.code.Goals as goal

-- the pattern that is coded is finite
finite_coded : (w mark p : ℕ) (l : LayerStep) → (w ≢ mark → CanCode w l.reference l.exponent) → p ≡ cond (eqb w mark) l.reference w → magnitude 23 8 p < infinity 23 8
finite_coded w mark p l can is = coded w mark l.reference p (λ z. (can z).finite) l.reference_finite is

pub float_from_bits-difference : goal.float_from_bits-difference
float_from_bits-difference c = single_number c.choose-pattern.result (finite_coded _ _ _ c.args.self.layer c.requires.can_code c.choose-pattern.ensures)

pub float_to_float-difference : goal.float_to_float-difference
float_to_float-difference c = let n = float_number c.choose-pattern.result (finite_coded _ _ _ c.args.self.layer c.requires.can_code c.choose-pattern.ensures) in search rules

pub float_to_bits-code : goal.float_to_bits-code
float_to_bits-code c =
    let l = c.args.self in
    rw (l.low_value, l.lift_value) (sum_number c.choose-pattern.result l.layer.reference l.layer.exponent (finite_coded _ _ _ c.args.self.layer c.requires.can_code c.choose-pattern.ensures) l.layer.reference_finite l.layer.exponent_bound)

pub returns-then-reading-mark : goal.returns-then-reading-mark
unfolding missing
returns-then-reading-mark c = rw (eq-eqb _ _ c.if-reading-mark.true) refl

pub returns-else-reading-mark : goal.returns-else-reading-mark
unfolding missing
returns-else-reading-mark c =
    let s = c.args in
    let l = s.self in
    let q = c.requires in
    let o = c.if-reading-mark.false in
    let p : c.choose-pattern.result ≡ s.reading = c.choose-pattern.ensures ∙ rw (ne_eqb s.reading s.mark o) refl in
    rw (p, l.low_value, l.lift_value, ne_eqb s.reading s.mark o)
    (quick_code_is l.layer.width s.reading l.layer.reference l.layer.exponent l.layer.width_bound (q.can_code o) (q.held o) l.layer.reference_finite l.layer.exponent_bound (q.coarse_reading o) q.coarse)
