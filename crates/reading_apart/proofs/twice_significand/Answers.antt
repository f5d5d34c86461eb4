-- What a magnitude has above its spacing's exponent is its significand.
use mathlib.Core.Path.{◌≡◌, refl}
use Prim.Native.Nat.{◌*◌, ◌^◌}
use native.Mathlib.Omega.{arith}
use Rattle.meaning.specs.Readings.{spacing_exp}
use Rattle.reading_apart.proofs.Sums.{Parts, significand_parts}
use Rattle.reading_apart.proofs.twice_significand.Goals as goal

parts : (c : goal.After-power) → Parts c.args.bits c.args.m
parts c = significand_parts _ _ c.requires.0

product : (c : goal.After-power) → c.args.exponent * c.power.result ≡ spacing_exp c.args.bits c.args.m * 2 ^ c.args.bits
product c = rw (c.power.ensures, c.requires.1) refl

pub overflow_mul-result : goal.overflow_mul-result
overflow_mul-result c = omega (arith, product c, (parts c).is)

pub overflow_sub-result : goal.overflow_sub-result
overflow_sub-result c = omega (arith, product c, (parts c).is)

pub overflow_mul-result-2 : goal.overflow_mul-result-2
overflow_mul-result-2 c = omega (arith, product c, (parts c).is, (parts c).small)

pub returns : goal.returns
returns c =
    record { value = omega (arith, product c, (parts c).is); small = omega (arith, product c, (parts c).is, (parts c).small) }
