-- By the turn's parity.
use Rattle.std.proofs.Common.{◌≡◌, ◌∙◌, ap}
use Prim.Native.Nat.{zero-le}
use native.Mathlib.Nat.{le_refl}
use borrow.Author.Tests.{eq-eqb, ne_eqb}
use Rattle.loops.specs.Methods.{add_at}
use Rattle.loops.proofs.Methods.{add_below}
use Rattle.arrays.proofs.groomed_one.Given.{Over}
use Rattle.arrays.proofs.groomed_one.Goals as goal
use Rattle.arrays.proofs.groomed_one.Goals.{Joined-turn-eq0, then-turn-eq0, else-turn-eq0}

added : (g : Over) (c : Joined-turn-eq0 g) → g.W.Word.value c.if-turn-eq0.add ≡ add_at 0 (g.W.Word.value c.args.tail.ones) c.args.turn
unfolding add_at
added g c =
    elim c.if-turn-eq0.branch [
      | then-turn-eq0 w ↦ rw (eq-eqb _ _ w.if-turn-eq0.true) (ap g.W.Word.value w.add-is ∙ c.zero-none.ensures)
      | else-turn-eq0 w ↦ rw (ne_eqb _ _ w.if-turn-eq0.false) (ap g.W.Word.value w.add-is)
    ]

pub with_tail-requires : goal.with_tail-requires
with_tail-requires g c =
    let ones = g.W.Word.value c.args.tail.ones in
    (c.requires, rw (added g c) (add_below 0 ones c.args.turn ones zero-le (le_refl ones)))

pub returns : goal.returns
returns g c = rw (added g (goal.at.returns g c).Joined-turn-eq0) at c.with_tail.ensures
