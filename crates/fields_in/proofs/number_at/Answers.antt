use Rattle.std.proofs.Common.{rules, arith, sym, ◌∙◌, ◌<◌}
use Rattle.fields_in.proofs.Walk.{number_start, number_none, number_length, number_turn, number_done}
use Rattle.fields_in.proofs.number_at.Goals as goal

pub returns-then-n-eq0-clause-s_value : goal.returns-then-n-eq0-clause-s_value
returns-then-n-eq0-clause-s_value c = number_none c.args.s.now c.args.at (sym c.digits_at-n.ensures ∙ c.if-n-eq0.true)

pub overflow_add-b-items : goal.overflow_add-b-items
overflow_add-b-items c = let t = number_start _ _ _ c.requires c.digits_at-n.ensures in let w = t.within in omega arith

pub slice_bounds-b-items-end : goal.slice_bounds-b-items-end
slice_bounds-b-items-end c = let t = number_start _ _ _ c.requires c.digits_at-n.ensures in let w = t.within in search rules

pub loop-b-init : goal.loop-b-init
loop-b-init c = number_start _ _ _ c.requires c.digits_at-n.ensures

pub loop-b-preserved : goal.loop-b-preserved
loop-b-preserved c =
    let t = c.loop-b.invariant in
    let i : c.loop-b.b-index < c.digits_at-n.result = omega (arith, number_length _ _ _ _ _ t) in
    number_turn _ _ _ _ _ t i _ c.from.ensures

pub returns-clause-s_value : goal.returns-clause-s_value
returns-clause-s_value c = number_done _ _ _ _ _ c.loop-b.invariant (omega (arith, number_length _ _ _ _ _ c.loop-b.invariant)) c.if-n-eq0.false
