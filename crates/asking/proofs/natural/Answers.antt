-- One of three ranges, by the method, of the setting as a wider number.
use Rattle.std.proofs.Common.{◌≡◌, pos, ◌+ℤ◌, w64, to_z, of_z, arith, ◌∙◌}
use Rattle.std.proofs.lemmas.Int.{ints}
use Rattle.asking.specs.Asked.{limits_of}
use Rattle.asking.proofs.Ranges.{kept_natural, lifted_natural, digits_natural}
use Rattle.asking.proofs.natural.Goals as goal

pub returns-in-Absolute : goal.returns-in-Absolute
unfolding limits_of
returns-in-Absolute c = λ F X e.
    let h : to_z w64 (of_z w64 (to_z w64 (of_z w64 c.from-setting.result) +ℤ to_z w64 (of_z w64 c.from.result))) ≡ c.args.setting +ℤ pos c.args.limits.lift = omega (arith, ints) in
    let i = rw (h, e) at c.in_range.ensures in
    rw c.in-Absolute.is (i ∙ lifted_natural F X c.args.setting)

pub returns-in-Digits : goal.returns-in-Digits
unfolding limits_of
returns-in-Digits c = λ F X e.
    let h : to_z w64 (of_z w64 c.from-setting.result) ≡ c.args.setting = omega (arith, ints) in
    let i = rw (h, e) at c.in_range-in-Digits.ensures in
    rw c.in-Digits.is (i ∙ digits_natural F X c.args.setting)

pub returns-in_default : goal.returns-in_default
unfolding limits_of
returns-in_default c = λ F X e.
    let h : to_z w64 (of_z w64 c.from-setting.result) ≡ c.args.setting = omega (arith, ints) in
    let i = rw (h, e) at c.in_range-in_default.ensures in
    i ∙ kept_natural F X c.args.setting c.args.method c.in_default.not-Absolute c.in_default.not-Digits
