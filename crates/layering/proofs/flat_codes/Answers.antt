use Rattle.std.proofs.Common.{rules, of_calls}
use Rattle.codes.proofs.Each.{each_is}
use Rattle.layering.proofs.flat_codes.Goals as goal

pub returns : goal.returns
returns c =
    each_is _ c.args.readings.now c.code_each.new.out (search rules) (λ k h. search (of_calls, c.code_each.ensures k h))
