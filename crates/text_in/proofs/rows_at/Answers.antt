use Rattle.std.proofs.Common.{rules, arith}
use Rattle.text_in.proofs.LineLaws.{rows_start, rows_many, rows_bad, rows_turn, rows_done}
use Rattle.text_in.proofs.rows_at.Goals as goal

pub loop-p-init : goal.loop-p-init
loop-p-init c =
    let s = c.requires in
    rows_start _ _ _ _ s.0 s.1 (search rules)

pub returns-then-i-eq512 : goal.returns-then-i-eq512
returns-then-i-eq512 c = rows_many _ _ _ _ _ _ _ c.loop-p.invariant c.loop-p-test.true (omega (arith, c.if-i-eq512.true))

pub returns-in_err-p : goal.returns-in_err-p
returns-in_err-p c =
    rw c.from_residual.ensures (rows_bad _ _ _ _ _ _ _ c.loop-p.invariant c.loop-p-test.true (let l = c.loop-p.invariant.low in omega (arith, c.if-i-eq512.false)) c.in_err-p.ensures)

pub loop-p-preserved : goal.loop-p-preserved
loop-p-preserved c =
    rows_turn _ _ _ _ _ _ _ c.loop-p.invariant c.loop-p-test.true (let l = c.loop-p.invariant.low in omega (arith, c.if-i-eq512.false)) _ _ c.in_ok-p.ensures

pub returns : goal.returns
returns c = rows_done _ _ _ _ _ _ _ c.loop-p.invariant c.loop-p-test.false
