use Rattle.std.proofs.Common.{◌≡◌, get_or, rules, of_calls}
use Rattle.codes.specs.Cut.{code_by}
use Rattle.codes.proofs.Each.{each_is}
use Rattle.codes.proofs.Reading.{by_layer}
use Rattle.codes.proofs.codes_of.Goals as goal

pub returns : goal.returns
returns c =
    let ws = c.args.readings.now in
    let b = c.of-base.result in
    each_is _ ws c.code_each.new.out (search rules) (λ k h.
    let at : get_or c.code_each.new.out k 0 ≡ code_by c.missing_of-missing.result c.args.mark b.reference b.exponent (get_or ws k 0) = search (of_calls, c.code_each.ensures k h) in
    by_layer _ _ _ _ _ _ _ _ _ at c.missing_of-missing.ensures c.of-base.ensures.reference c.of-base.ensures.exponent)
