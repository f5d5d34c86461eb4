-- The mask's laws at each step; the rest is `settled_by_lem`.
use Rattle.std.proofs.Common.{◌<◌, refl, ◌∙◌, arith}
use Rattle.meaning.specs.Readings.{magnitude}
use Rattle.meaning.specs.Methods.{digits, new_magnitude}
use Rattle.reading.proofs.Words.{digits_over}
use Rattle.reading.proofs.Settled.{settled_by_lem}
use Rattle.single.proofs.Fields.{second_few, rest_le, ones_fit, new_fits, new_is}
use Rattle.single.proofs.field_single.Goals as goal
use Rattle.single.proofs.field_single.Goals.{After-decade_single-s}

few : (c : After-decade_single-s) → c.decade_single-s.result < 2
few c =
    second_few c.args.n c.args.x c.decade_single-s.result c.args.limits.now c.args.masks.now
    c.requires.0.0 c.requires.0.1 c.requires.1 c.requires.2 (omega arith) c.decade_single-s.ensures

pub overflow_add-ones : goal.overflow_add-ones
overflow_add-ones c = omega (arith, few (goal.at.overflow_add-ones c).After-decade_single-s)

pub offset_bounds-masks-f : goal.offset_bounds-masks-f
offset_bounds-masks-f c = omega (arith, few (goal.at.offset_bounds-masks-f c).After-decade_single-s)

pub bounds-masks-f : goal.bounds-masks-f
bounds-masks-f c = omega (arith, few (goal.at.bounds-masks-f c).After-decade_single-s)

pub overflow_sub-z : goal.overflow_sub-z
overflow_sub-z c =
    rest_le c.args.n c.args.x c.decade_single-s.result c.args.limits.now c.args.masks.now
    c.requires.0.0 c.requires.0.1 c.requires.1 c.requires.2 (omega arith) c.decade_single-s.ensures

pub overflow_add-z : goal.overflow_add-z
overflow_add-z c =
    omega (
      arith,
      ones_fit c.args.n c.args.x c.decade_single-s.result c.args.limits.now c.args.masks.now
          c.requires.0.0 c.requires.0.1 c.requires.1 c.requires.2 (omega arith) c.decade_single-s.ensures,
    )

pub overflow_add-z-2 : goal.overflow_add-z-2
overflow_add-z-2 c =
    omega (
      arith,
      new_fits c.args.n c.args.x c.decade_single-s.result c.args.limits.now c.args.masks.now
          c.requires.0.0 c.requires.0.1 c.requires.1 c.requires.2 (omega arith) c.decade_single-s.ensures,
    )

pub returns : goal.returns
unfolding magnitude
returns c =
    let d = c.decade_single-s in
    c.settle.ensures
    ∙ settled_by_lem 23 8 (digits c.args.n) c.args.mark c.args.x (new_magnitude 23 8 (digits c.args.n) 0 (magnitude 23 8 c.args.x)) 0 _
    (λ _. refl) (λ _. digits_over 23 8 c.args.n c.args.x)
    (new_is c.args.n c.args.x d.result c.args.limits.now c.args.masks.now
    c.requires.0.0 c.requires.0.1 c.requires.1 c.requires.2 (omega arith) d.ensures c.requires.3)
