-- Below an infinity's magnitude no pattern is a NaN's.
use Rattle.std.proofs.Common.{◌%◌, Bool, not, T, sym, ◌∙◌, subst, le-ltb}
use lib.Ieee.{binary32}
use lib.Ieee.Bits.{nan_bits_above}
use Rattle.cases.proofs.layers.value.Goals as goal

pub float_from_bits-result : goal.float_from_bits-result
float_from_bits-result c =
    let n = c.args.pattern in
    subst (λ (b : Bool). T (not b)) (sym (nan_bits_above binary32 n ∙ le-ltb 2139095040 (n % 2147483648) c.if-pattern-gt2139095040.false)) tt
