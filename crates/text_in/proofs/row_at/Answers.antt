use Rattle.std.proofs.Common.{rules}
use Rattle.text_in.proofs.RowLaws.{row_start, row_bad, row_unended, row_turn, row_done}
use Rattle.text_in.proofs.row_at.Goals as goal

pub loop-j-init : goal.loop-j-init
loop-j-init c =
    let s = c.requires in
    row_start _ _ _ _ _ s.0 s.1 s.2 (search rules)

pub returns-in_err-v : goal.returns-in_err-v
returns-in_err-v c = rw c.from_residual.ensures (row_bad _ _ _ _ _ _ _ _ c.loop-j.invariant c.loop-j-test.true c.in_err-v.ensures)

pub returns-in_err-p : goal.returns-in_err-p
returns-in_err-p c =
    rw c.from_residual-in_err-p.ensures (row_unended _ _ _ _ _ _ _ _ c.loop-j.invariant c.loop-j-test.true _ c.in_ok-v.ensures c.in_err-p.ensures)

pub loop-j-preserved : goal.loop-j-preserved
loop-j-preserved c = row_turn _ _ _ _ _ _ _ _ c.loop-j.invariant c.loop-j-test.true _ c.in_ok-v.ensures _ c.in_ok-p.ensures

pub returns : goal.returns
returns c = row_done _ _ _ _ _ _ _ _ c.loop-j.invariant c.loop-j-test.false
