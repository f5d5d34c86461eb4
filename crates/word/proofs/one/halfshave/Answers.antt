-- The cut and half a unit, by `halfshaved_word`; the sum has room below the sign.
use Rattle.std.proofs.Common.{◌+◌, ◌-◌, ◌^◌, refl, ◌∙◌, arith}
use lib.Pow.{pow-lt}
use Rattle.reading.proofs.Words.{floor_room, halfshaved_none, halfshaved_word}
use Rattle.word.proofs.Room.{infinity_le, two, cut_is}
use Rattle.word.proofs.one.halfshave.Goals as goal

pub returns-then-t-eq0 : goal.returns-then-t-eq0
returns-then-t-eq0 g c = halfshaved_none c.args.t (g.W.Word.value c.args.m) c.if-t-eq0.true

pub sum-requires : goal.sum-requires
sum-requires g c =
    let w = g.W.Word in
    let v = w.value in
    let t = c.args.t in
    let short = c.requires.1 in
    let half = c.unit-half.ensures in
    omega (
      arith,
      cut_is t (v c.args.m) _ _ _ _ c.one.ensures c.unit-unit.ensures c.minus.ensures c.without.ensures,
      floor_room (w.FRACTION + w.EXPONENT + 1) t (v c.args.m) (v c.unit-half.result) (omega (arith, short))
          (omega (arith, c.requires.0.1, infinity_le w.FRACTION w.EXPONENT, two w.FRACTION w.EXPONENT))
          (omega (arith, half, pow-lt {i = t - 1} {j = t} (omega arith))),
    )

pub returns : goal.returns
returns g c =
    let v = g.W.Word.value in
    let t = c.args.t in
    c.sum.ensures
    ∙ halfshaved_word t (v c.args.m) (2 ^ t) (v c.unit-half.result) (v c.without.result) c.if-t-eq0.false c.requires.0.0 refl c.unit-half.ensures
    (cut_is t (v c.args.m) _ _ _ _ c.one.ensures c.unit-unit.ensures c.minus.ensures c.without.ensures)
