-- `widened` meets its contract: a subnormal reference is its magnitude times 2^-149, with its sign.
use mathlib.Core.Path.{refl, ap, ◌∙◌}
use Prim.Native.Nat.{◌%◌}
use native.Mathlib.Omega.{arith}
use borrow.Author.Rules.{rules}
use lib.IntN.{pos}
use lib.Ieee.{Float, binary32, binary64, neg, mul, of_int, to_bits}
use Rattle.meaning.specs.Readings.{magnitude}
use Rattle.decoding.proofs.Numbers.{finite_number}
use Rattle.decoding.proofs.Subnormal.{widened_plus, widened_minus}
use Rattle.decoding.proofs.widened.Goals as goal

pub float_to_bits-w : goal.float_to_bits-w
float_to_bits-w c = search (rules, finite_number)

pub widened_normal-requires : goal.widened_normal-requires
unfolding magnitude
widened_normal-requires c = record { reference_value = c.requires; bound = omega arith }

pub returns-then-m-ge8388608 : goal.returns-then-m-ge8388608
returns-then-m-ge8388608 c = c.widened_normal.ensures

pub step_of-requires : goal.step_of-requires
step_of-requires c = refl

pub returns-then-w-lt2147483648 : goal.returns-then-w-lt2147483648
returns-then-w-lt2147483648 c =
    ap (λ (y : Float). mul binary64 (of_int binary64 (pos (to_bits binary32 c.args.reference % 2147483648))) y) c.step_of.ensures
    ∙ widened_plus c.args.reference (search rules) c.requires (omega arith) (omega arith)

pub returns-else-w-lt2147483648 : goal.returns-else-w-lt2147483648
returns-else-w-lt2147483648 c =
    ap (λ (y : Float). neg (mul binary64 (of_int binary64 (pos (to_bits binary32 c.args.reference % 2147483648))) y)) c.step_of.ensures
    ∙ widened_minus c.args.reference (search rules) c.requires (omega arith) (omega arith)
