-- The walk's laws at each column; the state is the column.
use mathlib.Core.Path.{◌≡◌, ap, ◌∙◌}
use mathlib.Core.List.{map}
use Prim.Native.Nat.{ℕ}
use native.Mathlib.Numerals.{add-one}
use native.Mathlib.Omega.{arith}
use lib.ListN.{get_or}
use Rattle.std.proofs.lemmas.List.{length-map}
use Rattle.reading.specs.Left.{settled_tail}
use Rattle.reading.specs.Words.{settled_at}
use Rattle.loops.proofs.Tallies.{one_tail}
use Rattle.loops.proofs.Walks.{begin, end}
use Rattle.loops.proofs.Words.{room_at, step_at}
use Rattle.word.proofs.Room.{counts_fit}
use Rattle.rows.specs.Rows.{fill_at}
use Rattle.groom.proofs.Words.{fill_is}
use Rattle.groom.proofs.groom_row.Given as given
use Rattle.groom.proofs.groom_row.Goals as goal
use Rattle.groom.proofs.groom_row.Goals.{After-with_tail-one}

-- the reading at this column
is : (g : given.Over) (c : After-with_tail-one g)
    → let s = c.args in
    let at = c.loop-i in
    let value = g.W.Word.value in
    settled_at value c.with_tail-one.result
    ≡ settled_tail g.W.Word.FRACTION g.W.Word.EXPONENT s.tail.bits (fill_at (map value s.turns.now) (value s.bit) (value s.want) (value s.tail.ones) at.i) (value s.mark) (value (get_or at.row at.i c.index-row-i.result))
is g c =
    let s = c.args in
    let at = c.loop-i in
    let value = g.W.Word.value in
    c.with_tail-one.ensures
    ∙ ap (λ (a : ℕ). settled_tail g.W.Word.FRACTION g.W.Word.EXPONENT s.tail.bits a (value s.mark) (value (get_or at.row at.i c.index-row-i.result)))
    (c.filling.ensures.value ∙ fill_is value s.turns.now (value s.bit) (value s.want) (value s.tail.ones) at.i _ (omega (arith, c.type_inv.turns, c.requires.1, at.invariant.same, length-map at.row value, length-map s.row.now value)))

pub loop-i-init : goal.loop-i-init
loop-i-init g c = begin (λ s w. one_tail g.W.Word.FRACTION g.W.Word.EXPONENT _ _ _ w) c.new-sums.ensures

pub plus-sums-requires : goal.plus-sums-requires
plus-sums-requires g c =
    let at = c.loop-i in
    let value = g.W.Word.value in
    room_at value at.row at.invariant c.index-row-i.result (omega (arith, counts_fit g.W.Word.FRACTION g.W.Word.EXPONENT g.met.W.Word.bits)) (omega (arith, at.invariant.same, length-map at.row value, length-map c.args.row.now value)) (is g (goal.at.plus-sums-requires g c).After-with_tail-one)

pub loop-i-preserved : goal.loop-i-preserved
loop-i-preserved g c =
    let at = c.loop-i in
    let value = g.W.Word.value in
    step_at value at.row at.invariant c.index-row-i.result (omega (arith, at.invariant.same, length-map at.row value, length-map c.args.row.now value)) (is g (goal.at.loop-i-preserved g c).After-with_tail-one) c.plus-sums.ensures (add-one _)

pub returns : goal.returns
returns g c =
    let at = c.loop-i in
    let value = g.W.Word.value in
    let it = end at.invariant (omega (arith, at.invariant.same, length-map c.args.row.now value)) in
    record { sums = it.0; content = it.1 }
