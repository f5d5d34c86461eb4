use Rattle.std.proofs.Common.{◌-◌, mod-eq_of_lt, one-mul, arith}
use lib.Pow.{pow-lt}
use Rattle.codes.proofs.half.Goals as goal

pub returns : goal.returns
returns c = rw one-mul (mod-eq_of_lt (pow-lt {i = c.args.k - 1} {j = 64} (omega arith)))
