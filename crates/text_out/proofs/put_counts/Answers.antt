use Rattle.text_out.proofs.LaidLaws.{counts_turn}
use Rattle.text_out.proofs.put_counts.Goals as goal

pub loop-i-preserved : goal.loop-i-preserved
loop-i-preserved c =
    counts_turn _ _ _ _ _ _ c.loop-i.invariant c.loop-i-test.true _ _ (c.put_field-p.ensures.value, c.put_field-p.ensures.out_after)
