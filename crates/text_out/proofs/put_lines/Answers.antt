use Rattle.text_out.proofs.LaidLaws.{lines_turn, lines_done}
use Rattle.text_out.proofs.put_lines.Goals as goal

pub loop-i-preserved : goal.loop-i-preserved
loop-i-preserved c =
    lines_turn _ _ _ _ _ _ _ _ c.loop-i.invariant c.loop-i-test.true _ _ c.put_line-p.ensures.value c.put_line-p.ensures.out_after

pub returns : goal.returns
returns c =
    let it = lines_done _ _ _ _ _ _ _ _ c.loop-i.invariant c.loop-i-test.false in
    record { value = it.0; out_after = it.1 }
