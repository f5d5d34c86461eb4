use Rattle.text_out.proofs.Paste.{put_start, put_turn}
use Rattle.text_out.proofs.put_pattern.Goals as goal

pub loop-done-init : goal.loop-done-init
loop-done-init c = put_start _ _ _ c.requires

pub loop-done-preserved : goal.loop-done-preserved
loop-done-preserved c =
    put_turn _ _ _ _ _ _ _ c.requires c.loop-done.invariant c.loop-done-test.true c.hex_char.ensures
