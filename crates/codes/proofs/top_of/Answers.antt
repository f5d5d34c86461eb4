use Rattle.std.proofs.Common.{◌^◌, mod-eq_of_lt, mul-le-mul, arith, pow_mono}
use Rattle.codes.proofs.top_of.Goals as goal

pub returns : goal.returns
returns c =
    mod-eq_of_lt (omega (arith, mul-le-mul {n₁ = c.args.steps} {m₁ = 2 ^ c.args.k} {n₂ = 65534} {m₂ = 2 ^ 40} (omega arith) (pow_mono {i = c.args.k} {j = 40} (omega arith))))
