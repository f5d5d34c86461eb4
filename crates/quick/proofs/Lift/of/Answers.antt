use borrow.Author.Rules.{rules}
use Rattle.quick.proofs.Numbers.{single_number, float_number, lift_number, lift_fits}
use Rattle.quick.proofs.Lift.of.Goals as goal

pub float_from_bits-result : goal.float_from_bits-result
float_from_bits-result c = single_number c.args.layer.reference c.args.layer.reference_finite

pub float_to_float-result : goal.float_to_float-result
float_to_float-result c = let n = float_number c.args.layer.reference c.args.layer.reference_finite in search rules

pub float_from_bits-result-2 : goal.float_from_bits-result-2
float_from_bits-result-2 c = let l = c.args.layer in rw (c.from.ensures, lift_fits l.exponent l.exponent_bound) (lift_number l.exponent l.exponent_bound)
