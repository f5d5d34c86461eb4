-- `coarse_step` meets its contract, by the laws of `Whole`: it stays, becomes zero, moves, or clips. None of its numbers passes 64 bits.
use native.Mathlib.Omega.{arith}
use mathlib.Core.Path.{sym}
use lib.Pow.{pow_pos}
use Rattle.absolute.proofs.Whole.{low_part, sig_small, step_stays, step_zero, Work, unit_pos, near_fits, below_fits, work_near, work_below}
use Rattle.absolute.proofs.coarse_step.Goals as goal

-- what the code has, once it has the nearest whole number
work : (c : goal.After-nearest_whole)
    → Work c.args.bits c.args.q c.args.m
    c.spacing_exponent-exponent.result c.power.result c.power-unit.result c.nearest_whole.result
work c =
    record {
      exponent = c.spacing_exponent-exponent.ensures;
      hidden = c.power.ensures;
      unit = c.power-unit.ensures;
      whole = c.nearest_whole.ensures;
    }

pub returns-then-q-exponent : goal.returns-then-q-exponent
returns-then-q-exponent c X e =
    let s = c in
    step_stays s.args.bits X s.args.q s.args.m (rw (sym e) s.requires.1.0) (omega (arith, c.spacing_exponent-exponent.ensures))

pub returns-then-bits-above : goal.returns-then-bits-above
returns-then-bits-above c X e =
    let s = c in
    step_zero s.args.bits X s.args.q s.args.m (rw (sym e) s.requires.1.0) (omega (arith, c.spacing_exponent-exponent.ensures))

pub overflow_mul-significand : goal.overflow_mul-significand
overflow_mul-significand c =
    let s = c in rw (c.power.ensures, c.spacing_exponent-exponent.ensures) (omega (arith, low_part s.args.bits s.args.m))

pub overflow_sub-significand : goal.overflow_sub-significand
overflow_sub-significand c =
    let s = c in rw (c.power.ensures, c.spacing_exponent-exponent.ensures) (low_part s.args.bits s.args.m)

pub nearest_whole-requires : goal.nearest_whole-requires
nearest_whole-requires c =
    let s = c in
    rw (c.power.ensures, c.power-unit.ensures, c.spacing_exponent-exponent.ensures) (omega (arith, sig_small s.args.bits s.args.m {b = 62} (omega arith)), pow_pos _)

pub overflow_mul-nearest_whole : goal.overflow_mul-nearest_whole
overflow_mul-nearest_whole c = omega (arith, near_fits (work c) {b = 62} (omega arith) (omega arith))

pub magnitude_at-near-requires : goal.magnitude_at-near-requires
magnitude_at-near-requires c = (omega arith, omega (arith, near_fits (work c) {b = 62} (omega arith) (omega arith)))

pub returns-then-near-limit : goal.returns-then-near-limit
returns-then-near-limit c X e =
    let w = work c.before.before in
    let s = c in
    work_near w X c.magnitude_at-near.result (rw (sym e) s.requires.1.0) (omega arith) (omega arith) c.magnitude_at-near.ensures (rw (sym e) c.if-near-limit.true)

pub nonzero_div-significand : goal.nonzero_div-significand
nonzero_div-significand c = unit_pos (work c.before.before)

pub overflow_mul-significand-2 : goal.overflow_mul-significand-2
overflow_mul-significand-2 c = omega (arith, below_fits (work c.before.before))

pub magnitude_at-below-requires : goal.magnitude_at-below-requires
magnitude_at-below-requires c = (omega arith, omega (arith, below_fits (work c.before.before)))

pub returns : goal.returns
returns c X e =
    let w = work c.before.before.before in
    let s = c in
    work_below w X c.magnitude_at-near.result (rw (sym e) s.requires.1.0) (omega arith) (omega arith) c.magnitude_at-near.ensures (rw (sym e) c.if-near-limit.false)
    c.magnitude_at-below.result c.magnitude_at-below.ensures
