-- The words are those of `round_word` and `round_over`; every sum has room.
use Rattle.std.proofs.Common.{◌≡◌, ◌+◌, ◌-◌, ◌%◌, ◌∙◌, arith, pow_pos}
use lib.Bits.{and_mask}
use lib.Pow.{pow-lt}
use Rattle.meaning.specs.Readings.{magnitude, finite}
use Rattle.reading.specs.Tails.{near_word, round_word, round_over}
use Rattle.reading.proofs.Tails.{half_positive, settled_round}
use Rattle.reading.specs.Words.{constants_at}
use Rattle.word.proofs.one.rounded.Goals as goal

pub sum-requires : goal.sum-requires
sum-requires g c =
    let w = g.W.Word in
    let v = w.value in
    let t = c.args.tail.bits in
    let tail = c.requires.0 in
    let odd : v c.and-odd.result ≡ v c.shifted.result % 2 = rw c.one-one.ensures at c.and-odd.ensures ∙ and_mask (v c.shifted.result) 1 in
    let short = tail.short in
    omega (
      arith,
      odd,
      c.minus.ensures,
      c.one-one.ensures,
      tail.is_half,
      half_positive t c.requires.1,
      pow_pos (t - 1),
      pow-lt {i = t - 1} {j = w.FRACTION + w.EXPONENT + 1} (omega (arith, short)),
    )

pub sum-requires-2 : goal.sum-requires-2
sum-requires-2 g c =
    let w = g.W.Word in
    let t = c.args.tail.bits in
    let short = c.requires.0.short in
    omega (arith, c.one-one.ensures, c.requires.0.is_ones, pow_pos t, pow-lt {i = t} {j = w.FRACTION + w.EXPONENT + 1} (omega (arith, short)))

pub returns-clause-words : goal.returns-clause-words
unfolding round_word round_over near_word finite magnitude
returns-clause-words g c =
    let w = g.W.Word in
    let v = w.value in
    let odd : v c.and-odd.result ≡ v c.shifted.result % 2 = rw c.one-one.ensures at c.and-odd.ensures ∙ and_mask (v c.shifted.result) 1 in
    c.settle.ensures
    ∙ simp (
      c.finite-new.ensures,
      c.wrapping_sub-y.ensures,
      c.finite-back.ensures,
      c.finite-over.ensures,
      c.sum-2.ensures,
      c.magnitude-u.ensures.value,
      c.without-up.ensures,
      c.wrapping_add-near.ensures,
      c.sum.ensures,
      c.minus.ensures,
      odd,
      c.shifted.ensures,
      c.magnitude-m.ensures.value,
      c.zero-zero.ensures,
      c.one-one.ensures,
    )

pub returns-clause-result : goal.returns-clause-result
returns-clause-result g c =
    let w = g.W.Word in
    let v = w.value in
    returns-clause-words g c
    ∙ settled_round w.FRACTION w.EXPONENT (constants_at v c.args.tail) c.requires.0 (v c.args.mark) (v c.args.x) c.requires.1 c.magnitude-m.ensures.room
