use Rattle.std.proofs.Common.{rules, drop}
use Rattle.text_in.proofs.ParseLaws.{header_long, names_few, text_headless, text_jobless, text_nameless, text_rowless, text_done}
use Rattle.text_in.proofs.read_text.Goals as goal

pub returns-then-not-header_at : goal.returns-then-not-header_at
returns-then-not-header_at c = text_headless c.args.s.now c.if-not-header_at.ensures

pub start_at-requires : goal.start_at-requires
start_at-requires c = let t = c.args.s.now in header_long t (drop 20 t) c.if-not-header_at.ensures

pub returns-in_err-job : goal.returns-in_err-job
returns-in_err-job c = rw c.from_residual.ensures (text_jobless c.args.s.now c.if-not-header_at.ensures c.in_err-job.ensures)

pub returns-in_err-names : goal.returns-in_err-names
returns-in_err-names c = rw c.from_residual-in_err-names.ensures (text_nameless c.args.s.now c.if-not-header_at.ensures _ _ _ _ c.in_ok-job.ensures c.in_err-names.ensures)

pub rows_at-requires : goal.rows_at-requires
rows_at-requires c = let y = c.in_ok-names.ensures in (y.within, names_few _ _ _ _ y)

pub returns-in_err-lines : goal.returns-in_err-lines
returns-in_err-lines c = rw c.from_residual-in_err-lines.ensures (text_rowless c.args.s.now c.if-not-header_at.ensures _ _ _ _ c.in_ok-job.ensures _ _ c.in_ok-names.ensures c.in_err-lines.ensures)

pub returns : goal.returns
returns c = text_done c.args.s.now c.if-not-header_at.ensures _ _ _ _ c.in_ok-job.ensures _ _ c.in_ok-names.ensures c.args.work.now _ _ (search rules) c.in_ok-lines.ensures
