-- The rise by `rose_word`; each other choice is what the definition says.
use Rattle.meaning.specs.Readings.{sign}
use Rattle.reading.proofs.Settled.{settled_as}
use Rattle.reading.proofs.Rose.{rose_word}
use Rattle.word.proofs.one.settle.Goals as goal

pub returns : goal.returns
unfolding sign
returns g c =
    let w = g.W.Word in
    let v = w.value in
    let s = c.args in
    let zero = c.zero-zero.ensures in
    let one = c.one-one.ensures in
    let left = c.left-left in
    let room = left.ensures.room in
    let changed = rw (zero, one) at c.choose-changed.ensures in
    let turned = rw (c.sign-sign.ensures, c.sign.ensures, zero, one) at c.choose-turned.ensures in
    settled_as w.FRACTION w.EXPONENT (v s.mark) (v s.x) (v s.new) (v s.over) _ _ _ _ _ _ left.ensures.pattern changed
    (rw (left.ensures.wanted, one, zero) at c.choose-marked.ensures) (rw zero at c.choose-clipped.ensures) (rw (one, zero) at c.choose-missing.ensures)
    (rose_word w.FRACTION w.EXPONENT (v s.x) (v left.result.pattern) (v left.result.lost) (v c.choose-turned.result) (v c.choose-changed.result) _
    room.0 room.1 room.2 left.ensures.lost turned changed c.and-risen.ensures)
