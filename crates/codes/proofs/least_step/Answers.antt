use Rattle.std.proofs.Common.{ℕ, ◌+◌, ◌-◌, ◌*◌, ◌^◌, ◌<◌, ◌≤◌, sym, ◌∙◌, subst, inl, inr, mul-le-mul_right, arith, leb-false}
use Rattle.meaning.specs.Readings.{magnitude, position}
use Rattle.meaning.specs.Layers.{last_code}
use Rattle.codes.proofs.Reading.{sign_small}
use Rattle.layer_width.proofs.Steps.{steps_some, steps_few}
use Rattle.codes.proofs.Least.{least_is, lower_small, start_holds, lower_shifts}
use Rattle.codes.proofs.least_step.Goals as goal

-- where the search begins
begins : (c : goal.After-max)
    → (position 23 8 c.args.span.high - position 23 8 c.args.span.low ≤ last_code c.args.width * 2 ^ (c.max.result + 26 - c.args.width))
    × (c.max.result + 26 - c.args.width ≤ 277)
unfolding magnitude
begins c =
    let v = c.args.span in
    start_holds v.low v.high (sign_small v.low (omega arith)) v.low_finite v.high_finite v.order c.args.width _ _ _
    (omega arith) (omega arith) c.spacing_of-low_spacing.ensures c.spacing_of-high_spacing.ensures c.max.ensures

pub overflow_add-exponent : goal.overflow_add-exponent
overflow_add-exponent c = omega (arith, (begins c).1)

pub loop-exponent-init : goal.loop-exponent-init
loop-exponent-init c = begins c

pub holds_at-requires : goal.holds_at-requires
holds_at-requires c =
    let v = c.args.span in
    let l = c.loop-exponent in
    let few = steps_few c.args.width (omega arith) in
    let n : position 23 8 v.high - position 23 8 v.low ≤ 65534 * 2 ^ l.exponent = omega (arith, l.invariant.0, mul-le-mul_right (2 ^ l.exponent) few) in
    let b = lower_shifts v.low v.high (sign_small v.low (omega arith)) v.low_finite v.high_finite v.order l.exponent n in
    record { exponent_bound = omega arith; high_bound = b.0; low_bound = b.1; span_bound = lower_small (position 23 8 v.high - position 23 8 v.low) l.exponent n; le_steps = omega (arith, steps_some c.args.width (omega arith)); steps_bound = omega (arith, few) }

pub returns-else-holds_at : goal.returns-else-holds_at
returns-else-holds_at c =
    let v = c.args.span in
    let l = c.loop-exponent in
    let h = leb-false _ _ (sym c.holds_at.ensures ∙ c.if-holds_at.false) in
    least_is c.args.width (position 23 8 v.high - position 23 8 v.low) l.exponent l.invariant.1 l.invariant.0
    (inr (subst (λ (n : ℕ). n * 2 ^ (l.exponent - 1) < position 23 8 v.high - position 23 8 v.low) c.steps_of-steps.ensures h))

pub returns-after-loop-exponent : goal.returns-after-loop-exponent
returns-after-loop-exponent c =
    let v = c.args.span in
    let l = c.loop-exponent in
    least_is c.args.width (position 23 8 v.high - position 23 8 v.low) l.exponent l.invariant.1 l.invariant.0 (inl (omega arith))
