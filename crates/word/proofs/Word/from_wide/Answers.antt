-- Each bit that is 1 is a part of the number, which has room.
use Rattle.std.proofs.Common.{◌≡◌, ◌+◌, ◌%◌, ◌^◌, ap, ◌∙◌, arith}
use native.Mathlib.Nat.{mod-eq_of_lt}
use Rattle.word.proofs.Room.{bit_more, bit_part, bit_place}
use Rattle.word.proofs.Word.from_wide.Goals.{then-n-t-eq1, else-n-t-eq1}
use Rattle.word.proofs.Word.from_wide.Goals as goal

pub loop-t-init : goal.loop-t-init
loop-t-init g c = c.zero-word.ensures ∙ omega arith

pub unit-requires : goal.unit-requires
unit-requires g c = omega (arith, bit_place c.args.n c.loop-t.t c.if-n-t-eq1.true (g.Self.Word.FRACTION + g.Self.Word.EXPONENT + 1) c.requires)

pub sum-word-requires : goal.sum-word-requires
sum-word-requires g c = omega (arith, c.loop-t.invariant, c.unit.ensures, bit_part c.args.n c.loop-t.t c.if-n-t-eq1.true, c.requires)

pub loop-t-preserved : goal.loop-t-preserved
loop-t-preserved g c =
    let v = g.Self.Word.value in
    let n = c.args.n in
    let t = c.loop-t.t in
    elim c.if-n-t-eq1.branch [
      | then-n-t-eq1 w ↦ ap v w.word-is ∙ w.sum-word.ensures ∙ omega (arith, w.unit.ensures, c.loop-t.invariant, bit_more n t 1 w.if-n-t-eq1.true)
      | else-n-t-eq1 w ↦ ap v w.word-is ∙ c.loop-t.invariant ∙ omega (arith, bit_more n t 0 (omega (arith, w.if-n-t-eq1.false)))
    ]

pub returns : goal.returns
returns g c =
    let t : c.loop-t.t ≡ 64 = omega (arith, c.loop-t.auto.t-end, c.loop-t-test.false) in
    c.loop-t.invariant ∙ ap (λ t. c.args.n % 2 ^ t) t ∙ mod-eq_of_lt c.ranges.n.fits
