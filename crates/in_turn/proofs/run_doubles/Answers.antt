-- Turn after turn, by the laws of `Turns`.
use Rattle.std.proofs.Common.{rules, inl, inr, w32}
use Rattle.std.specs.Iterator.Adapters.{zip_first, zip_second}
use Rattle.std.specs.Slice.Iter.{iter_rest}
use mir.Val.{SFits}
use Rattle.in_turn.proofs.Turns.{turn_next, turn_end}
use Rattle.in_turn.proofs.run_doubles.Goals as goal

pub loop-method-preserved : goal.loop-method-preserved
loop-method-preserved c =
    let k = c.in-Some.ensures.steps in
    let f : SFits w32 c.in-Some.setting.now = search rules in
    turn_next 52 11 c.args.mark c.loop-method.readings k.0 k.1 c.trim_doubles.ensures.content f c.loop-method.invariant

pub returns : goal.returns
returns c =
    let it = c.loop-method.method-iterator in
    turn_end 52 11 c.args.mark c.loop-method.readings (iter_rest (zip_first it)) (iter_rest (zip_second it))
    (elim c.in-None.ensures.steps [ inl p ↦ inl p.1.0 | inr p ↦ inr p.1.0 ]) c.loop-method.invariant
