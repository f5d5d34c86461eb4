-- Chosen by the mark, then by the magnitude.
use Rattle.reading.proofs.Words.{takes_word}
use Rattle.word.proofs.one.turn.Goals as goal

pub returns : goal.returns
returns g c =
    let w = g.W.Word in
    let v = w.value in
    let zero = c.zero-zero.ensures in
    takes_word w.FRACTION w.EXPONENT (v c.args.bit) (v c.args.mark) (v c.args.x) (v c.choose-y.result) _
    (rw zero at c.choose-y.ensures) (rw (c.magnitude-m.ensures.value, zero) at c.finite.ensures)
