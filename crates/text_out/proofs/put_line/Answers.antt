use Rattle.text_out.proofs.PutLaws.{line_turn, line_done}
use Rattle.text_out.proofs.put_line.Goals as goal

pub loop-j-preserved : goal.loop-j-preserved
loop-j-preserved c =
    line_turn _ _ _ _ _ _ _ c.loop-j.invariant c.loop-j-test.true c.requires.2 _ c.put_pattern.ensures _ c.ending_byte.ensures

pub returns-clause-out_after : goal.returns-clause-out_after
returns-clause-out_after c = line_done _ _ _ _ _ _ _ c.loop-j.invariant c.loop-j-test.false
