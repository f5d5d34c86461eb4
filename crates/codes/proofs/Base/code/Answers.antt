use Rattle.std.proofs.Common.{◌≡◌, ◌-◌, ◌^◌, refl, arith, pow_pos}
use Rattle.meaning.specs.Readings.{magnitude, position}
use Rattle.meaning.specs.Methods.{nearest}
use Rattle.meaning.proofs.Nearest.{nearest_between}
use Rattle.codes.proofs.Reading.{shift_bound, with_law, base_lost, reading_lost, sign_small}
use Rattle.codes.proofs.Base.code.Goals as goal

result_is : (c : goal.After-round_word) → c.round_word.result ≡ nearest (position 23 8 c.args.reading - position 23 8 c.args.self.reference) (2 ^ c.args.self.exponent)
result_is c =
    let s = c.args in
    with_law s.reading s.self c.unit_of-unit.result _ c.round_word.result c.cut_reading-cut.result (sign_small s.self.reference (omega arith)) c.requires
    c.unit_of-unit.ensures c.cut_reading-cut.ensures refl c.round_word.ensures

pub cut_reading-cut-requires : goal.cut_reading-cut-requires
cut_reading-cut-requires c =
    let s = c.args in
    omega (arith, c.unit_of-unit.ensures, shift_bound (magnitude 23 8 s.reading) s.self.exponent (omega arith))

pub overflow_add-lost : goal.overflow_add-lost
overflow_add-lost c = omega (arith, reading_lost _ _ _ c.cut_reading-cut.ensures, base_lost c.args.self)

pub overflow_cast-result : goal.overflow_cast-result
overflow_cast-result c =
    let s = c.args in
    omega (arith, result_is c, nearest_between 0 65534 (position 23 8 s.reading - position 23 8 s.self.reference) (2 ^ s.self.exponent) (pow_pos s.self.exponent) (omega arith) (omega arith))

pub returns : goal.returns
returns c = result_is c
