-- Column by column.
use mathlib.Core.Path.{ap, ◌∙◌}
use native.Mathlib.Omega.{arith}
use Rattle.std.proofs.lemmas.List.{length-map}
use Rattle.reading.specs.Left.{takes}
use Rattle.rows.proofs.Rows.{mark_end}
use Rattle.groom.proofs.Words.{mark_next_at}
use Rattle.groom.proofs.mark_row.Goals as goal

pub loop-i-preserved : goal.loop-i-preserved
loop-i-preserved g c =
    let value = g.W.Word.value in
    let at = c.loop-i in
    let row = c.args.row.now in
    mark_next_at value row at.turns c.index-turns-i.result c.index-row-i.result at.invariant c.loop-i-test.true
    (omega (arith, c.requires, length-map c.args.turns.now value))
    (omega (arith, c.requires, at.invariant.long, length-map at.turns value, length-map c.args.turns.now value)) c.xor.ensures
    (c.turn.ensures ∙ ap (λ (w : _). takes g.W.Word.FRACTION g.W.Word.EXPONENT (value c.args.bit) (value c.args.mark) (value w)) c.index-row-i.is)

pub returns-clause-content : goal.returns-clause-content
returns-clause-content g c = mark_end c.loop-i.invariant (omega (arith, length-map c.args.row.now g.W.Word.value))
