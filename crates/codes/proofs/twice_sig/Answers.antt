use Rattle.std.proofs.Common.{arith}
use Rattle.codes.proofs.Leaf.{sig_is, sig_size}
use Rattle.codes.proofs.twice_sig.Goals as goal

pub overflow_mul-spacing : goal.overflow_mul-spacing
overflow_mul-spacing c = omega (arith, sig_is c.args.magnitude c.args.spacing c.requires)

pub overflow_sub-magnitude : goal.overflow_sub-magnitude
overflow_sub-magnitude c = omega (arith, sig_is c.args.magnitude c.args.spacing c.requires)

pub returns : goal.returns
returns c =
    record { size = rw c.from.ensures (sig_size c.args.magnitude c.args.spacing c.requires); small = omega (arith, c.from.ensures, sig_is c.args.magnitude c.args.spacing c.requires) }
