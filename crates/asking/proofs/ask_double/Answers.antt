-- The code's limits are those of the width.
use Rattle.std.proofs.Common.{refl, w32}
use Rattle.std.proofs.lemmas.Int.{to_z-of_z}
use Rattle.meaning.specs.Readings.{least_exp}
use Rattle.meaning.specs.Methods.{digits_from, digit_count}
use Rattle.asking.specs.Asked.{limits_of}
use Rattle.asking.proofs.ask_double.Goals as goal

pub returns : goal.returns
unfolding limits_of least_exp digit_count digits_from
returns c =
    let a = simp (to_z-of_z w32 c.args.setting c.ranges.setting) at (c.ask.ensures.refusal 52 11 refl) in
    let b = simp (to_z-of_z w32 c.args.setting c.ranges.setting) at (c.ask.ensures.number 52 11 refl) in
    record { refusal = a; number = b; method = c.ask.ensures.method }
