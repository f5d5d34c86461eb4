use Rattle.std.proofs.Common.{arith}
use Rattle.fields_in.proofs.Walk.{hex_room, hex_ended, hex_stopped, hex_turn, hex_done}
use Rattle.fields_in.proofs.pattern_at.Goals as goal

pub overflow_mul-v : goal.overflow_mul-v
overflow_mul-v c = omega (arith, hex_room _ _ _ _ c.loop-i.invariant c.loop-i-test.true)

pub returns-in_err-get : goal.returns-in_err-get
returns-in_err-get c =
    rw c.from_residual.ensures (hex_ended _ _ _ _ c.loop-i.invariant c.loop-i-test.true c.in_err-get.ensures.lookup.3)

pub returns-in_err-v : goal.returns-in_err-v
returns-in_err-v c =
    let found = c.in_ok-get.ensures.lookup.3 in
    rw c.from_residual-in_err-v.ensures (hex_stopped _ _ _ _ c.loop-i.invariant c.loop-i-test.true found.0 _ (found.1 0) c.in_err-v.ensures)

pub overflow_add-v : goal.overflow_add-v
overflow_add-v c = let d = c.in_ok-v.ensures in omega (arith, d.1, hex_room _ _ _ _ c.loop-i.invariant c.loop-i-test.true)

pub loop-i-preserved : goal.loop-i-preserved
loop-i-preserved c =
    let found = c.in_ok-get.ensures.lookup.3 in
    let d = c.in_ok-v.ensures in
    hex_turn _ _ _ _ c.loop-i.invariant c.loop-i-test.true found.0 _ (found.1 0) _ d.0 d.1

pub returns : goal.returns
returns c = hex_done _ _ _ _ c.loop-i.invariant c.loop-i-test.false
