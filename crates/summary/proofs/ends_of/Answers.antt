use Rattle.summary.proofs.Made.{start, turn, low_end, high_end}
use Rattle.std.proofs.Common.{rules}
use Rattle.summary.proofs.ends_of.Goals as goal

pub loop-reading-init : goal.loop-reading-init
loop-reading-init c = start _ _

pub loop-reading-preserved : goal.loop-reading-preserved
loop-reading-preserved c =
    turn _ _ _ _ _ c.loop-reading.invariant (search rules) c.choose.result c.choose-in-loop-reading.result _ _ (cc) (cc) c.min-low.ensures c.max-high.ensures

pub returns : goal.returns
returns c =
    let l = c.loop-reading in
    record { low = low_end _ _ _ _ _ l.invariant (search rules); high = high_end _ _ _ _ _ l.invariant (search rules) }
