-- `step_of` meets its contract: E + 1023 is a natural number, and E's double has it as its exponent field.
use mathlib.Core.Path.{◌≡◌, sym, ap, ◌∙◌, subst}
use mathlib.Core.Bool.{Bool, not}
use Prim.Native.Nat.{ℕ, ◌*◌, ◌%◌, ◌^◌}
use native.Mathlib.Omega.{arith}
use borrow.Author.Tests.{le-ltb}
use lib.Dec.{T}
use lib.IntN.{ℤ, pos, nat_abs, ◌+ℤ◌}
use lib.Signed.{non_neg}
use lib.Ieee.{binary64, nan_bits, of_bits}
use lib.Ieee.Bits.{nan_bits_above}
use mir.Syntax.{w32, w64}
use mir.Val.{Fits, to_z, of_z}
use Rattle.meaning.specs.Questions.{above}
use Rattle.decoding.proofs.Steps.{small, step_is, sum_fits, sum_back}
use Rattle.decoding.proofs.step_of.Goals as goal

-- the pattern
pattern_is : (c : goal.Start) → nat_abs (to_z w32 (of_z w32 (to_z w32 (of_z w32 c.args.exponent) +ℤ pos 1023))) * 2 ^ 52 % 2 ^ 64 ≡ above 1023 c.args.exponent * 2 ^ 52
pattern_is c =
    let e = c.args.exponent in
    ap (λ (z : ℤ). nat_abs z * 2 ^ 52 % 2 ^ 64) (sum_back e c.requires c.ranges.exponent) ∙ omega (arith, small e c.requires)

pub overflow_add-result : goal.overflow_add-result
overflow_add-result c = sum_fits c.args.exponent c.requires c.ranges.exponent

pub overflow_cast-result : goal.overflow_cast-result
overflow_cast-result c =
    let e = c.args.exponent in
    subst (λ (y : ℤ). T (non_neg y) × Fits w64 (nat_abs y)) (sym (sum_back e c.requires c.ranges.exponent)) (tt, record { fits = omega (arith, small e c.requires) })

pub float_from_bits-result : goal.float_from_bits-result
float_from_bits-result c =
    let e = c.args.exponent in
    let n = above 1023 e * 2 ^ 52 in
    subst (λ (n : ℕ). T (not (nan_bits binary64 n))) (sym (pattern_is c))
    (subst (λ (b : Bool). T (not b)) (sym (nan_bits_above binary64 n ∙ le-ltb (2047 * 2 ^ 52) (n % 2 ^ 63) (omega (arith, small e c.requires)))) tt)

pub returns : goal.returns
returns c = ap (of_bits binary64) (pattern_is c) ∙ step_is c.args.exponent c.requires
