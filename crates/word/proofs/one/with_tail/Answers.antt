-- The words are those of `tail_word`; the cut and the new tail have room.
use Rattle.std.proofs.Common.{◌+◌, ◌^◌, ◌<◌, ◌∙◌, arith, pow_pos}
use Rattle.meaning.specs.Readings.{magnitude, finite}
use Rattle.reading.specs.Tails.{tail_word}
use Rattle.reading.proofs.Words.{cond_lt, floor_room}
use Rattle.reading.proofs.Tails.{mask_cut, settled_tail_lem}
use Rattle.reading.specs.Words.{constants_at}
use Rattle.word.proofs.one.with_tail.Goals as goal

pub sum-y-requires : goal.sum-y-requires
sum-y-requires g c =
    let w = g.W.Word in
    let v = w.value in
    let t = c.args.tail.bits in
    let ones = c.requires.0.is_ones in
    let low : v c.args.add < 2 ^ t = omega (arith, c.requires.1, ones, pow_pos t) in
    let few : v c.choose.result < 2 ^ t = rw (c.choose.ensures, c.zero-zero.ensures) (cond_lt _ 0 (v c.args.add) (2 ^ t) (pow_pos t) low) in
    let short = c.requires.0.short in
    omega (
      arith,
      c.without-cut.ensures,
      mask_cut t (v c.args.x) (v c.args.tail.ones) ones,
      floor_room (w.FRACTION + w.EXPONENT + 1) t (v c.args.x) (v c.choose.result) (omega (arith, short)) c.magnitude-m.ensures.room few,
    )

pub returns-clause-words : goal.returns-clause-words
unfolding tail_word finite magnitude
returns-clause-words g c =
    c.settle.ensures ∙ simp (c.finite-new.ensures, c.sum-y.ensures, c.without-cut.ensures, c.choose.ensures, c.magnitude-m.ensures.value, c.zero-zero.ensures)

pub returns-clause-result : goal.returns-clause-result
returns-clause-result g c =
    let w = g.W.Word in
    let v = w.value in
    returns-clause-words g c ∙ settled_tail_lem w.FRACTION w.EXPONENT (constants_at v c.args.tail) c.requires.0 (v c.args.mark) (v c.args.x) (v c.args.add)
