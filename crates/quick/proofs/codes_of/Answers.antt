use native.Mathlib.Omega.{arith}
use Prim.Native.Nat.{◌+◌}
use Rattle.quick.proofs.Finest.{all_coarse, one_coarse}
use Rattle.quick.proofs.codes_of.Goals as goal

pub quick_codes-requires-clause-coarse : goal.quick_codes-requires-clause-coarse
quick_codes-requires-clause-coarse c =
    let l = c.args.layer in
    one_coarse (l.exponent + l.width) l.reference (omega (arith, c.limit_of.ensures, c.or_top-reference.ensures, c.min-finest.ensures, c.if-finest-limit_of.false))

pub quick_codes-requires-clause-all_coarse : goal.quick_codes-requires-clause-all_coarse
quick_codes-requires-clause-all_coarse c =
    let l = c.args.layer in
    all_coarse c.args.mark (l.exponent + l.width) c.args.readings.now (omega (arith, c.limit_of.ensures, c.finest_magnitude.ensures, c.min-finest.ensures, c.if-finest-limit_of.false))
