use Rattle.summary.proofs.Made.{made, both_keys}
use Rattle.std.proofs.Common.{rules}
use Rattle.summary.proofs.summary_of.Goals as goal

pub between_ends-requires : goal.between_ends-requires
between_ends-requires c =
    let m = made c.args.mark c.args.readings.now c.requires (λ i h. search rules) in
    both_keys _ _ _ _ m.ended c.ends_of.ensures.low c.ends_of.ensures.high

pub returns : goal.returns
returns c =
    let m = made c.args.mark c.args.readings.now c.requires (λ i h. search rules) in
    cc
