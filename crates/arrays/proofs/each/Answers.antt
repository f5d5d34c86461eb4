-- The walk's laws at each reading.
use Rattle.std.proofs.Common.{◌^◌, ◌-◌, ◌+◌, ◌<◌, length, sym, refl, arith}
use lib.ListN.{length-set}
use lib.Seq.{get_or-set_other}
use mathlib.Core.Path.{subst, ◌∙◌}
use Rattle.std.proofs.lemmas.List.{length-map}
use Rattle.reading.specs.Left.{Tally}
use Rattle.loops.specs.Tallies.{Few}
use Rattle.loops.proofs.Tallies.{few_none, few_plus, few_wider}
use Rattle.loops.proofs.Walks.{begin, end}
use Rattle.loops.proofs.Words.{step_at}
use Rattle.word.proofs.Room.{counts_fit}
use Rattle.arrays.proofs.each.Goals as goal

pub loop-reading-init : goal.loop-reading-init
loop-reading-init g c = (
  refl,
  λ k d l h. c.requires.callable k d h,
  subst (λ (t : Tally). Few t 0) (sym c.new-sums.ensures) few_none,
  λ f once leaves. begin (λ s w. once w) c.new-sums.ensures,
)

pub plus-sums-requires : goal.plus-sums-requires
plus-sums-requires g c =
    let m = g.W.Word in
    let at = c.loop-reading in
    few_wider _ (at.reading-index + 1) (2 ^ (m.FRACTION + m.EXPONENT + 1) - 1)
    (omega (arith, at.invariant.0, c.loop-reading-test.true, c.requires.few, counts_fit m.FRACTION m.EXPONENT g.met.W.Word.bits))
    (few_plus _ _ at.reading-index 1 at.invariant.2 (c.requires.counted _ _ c.trim-one.ensures))

pub loop-reading-preserved : goal.loop-reading-preserved
loop-reading-preserved g c =
    let at = c.loop-reading in
    let inv = at.invariant in
    let one = c.trim-one in
    let item = c.reading-item.result in
    let long : at.reading-index < length at.readings = omega (arith, inv.0, c.loop-reading-test.true) in (
      length-set at.readings at.reading-index one.result.pattern ∙ inv.0,
      λ k d l h. subst (λ (x : _). goal.F-pre g c.args.trim x) (sym (get_or-set_other at.readings at.reading-index k one.result.pattern d (λ z. omega arith))) (inv.1 k d (omega arith) (omega (arith, length-set at.readings at.reading-index one.result.pattern))),
      subst (λ (t : Tally). Few t (at.reading-index + 1)) (sym c.plus-sums.ensures) (few_plus _ _ at.reading-index 1 inv.2 (c.requires.counted _ _ one.ensures)),
      λ f once leaves. step_at g.W.Word.value at.readings (inv.3 f once leaves) item long (leaves _ _ one.ensures) c.plus-sums.ensures refl,
    )

pub returns : goal.returns
returns g c f once leaves =
    let it = end (c.loop-reading.invariant.3 f once leaves) (simp length-map (omega (arith, c.loop-reading.invariant.0, c.loop-reading-test.false))) in
    record { sums = it.0; content = it.1 }
