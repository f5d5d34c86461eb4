-- The mask and the top bit of a power of two.
use Rattle.reading.proofs.Tails.{worked_out}
use Rattle.word.proofs.one.tail_of.Goals as goal

pub returns : goal.returns
returns g c =
    let w = g.W.Word in
    simp (c.minus-ones.ensures, c.one.ensures, c.shifted.ensures, c.FRACTION.ensures)
    (worked_out w.FRACTION c.args.k (w.value c.unit-unit.result) (rw c.FRACTION.ensures at c.unit-unit.ensures))
