-- What is surely within is not beyond; words decide about the rest.
use mathlib.Core.Path.{sym}
use native.Mathlib.Omega.{arith}
use Rattle.reading_pair.proofs.Limit.{limit_small, limit_finite}
use Rattle.reading_pair.proofs.is_beyond.Goals as goal

pub is_within-requires : goal.is_within-requires
is_within-requires g c =
    let w = g.W.Word in
    omega (arith, c.requires.1, limit_finite w.FRACTION c.args.q w.EXPONENT c.requires.0 g.met.W.Near.narrow.1)

pub returns-then-is_within : goal.returns-then-is_within
returns-then-is_within g c =
    let w = g.W.Word in
    sym (c.is_within.ensures c.if-is_within.true (w.value c.args.mark) c.args.q (limit_small w.FRACTION c.args.q (w.value c.args.limit) c.requires.1))
