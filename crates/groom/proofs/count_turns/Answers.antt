-- Column by column; the state after the last is written down behind it.
use native.Mathlib.Omega.{arith}
use lib.ListN.{take}
use Rattle.std.proofs.lemmas.List.{length-map, length-take-le}
use Rattle.groom.proofs.Words.{count_next_at, counted_all}
use Rattle.groom.proofs.count_turns.Goals as goal

pub loop-word-preserved : goal.loop-word-preserved
loop-word-preserved g c =
    let value = g.W.Word.value in
    let at = c.loop-word in
    count_next_at value at.word-items c.word-item.result at.invariant (omega (arith, c.loop-word-test.true, length-map (take c.args.n c.args.turns.now) value)) (omega (arith, c.loop-word-test.true, at.auto.word-items)) c.xor-odd.ensures

pub returns-clause-content : goal.returns-clause-content
returns-clause-content g c =
    let at = c.loop-word in
    counted_all g.W.Word.value c.args.turns.now at.word-items at.invariant
    (omega (arith, at.auto.word-index-end, c.loop-word-test.false, length-take-le c.args.n c.args.turns.now (omega (arith, c.requires)))) (omega (arith, c.requires))
