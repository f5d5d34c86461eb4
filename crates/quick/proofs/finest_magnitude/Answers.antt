use borrow.Author.Rules.{rules}
use Rattle.quick.proofs.Finest.{start, turn, end}
use Rattle.quick.proofs.finest_magnitude.Goals as goal

pub loop-reading-init : goal.loop-reading-init
loop-reading-init c = start _ _

pub loop-reading-preserved : goal.loop-reading-preserved
loop-reading-preserved c =
    turn _ _ _ _ _ _ _ (search rules) c.choose-magnitude.ensures c.or_top.ensures c.min-least.ensures c.loop-reading.invariant

pub returns : goal.returns
returns c = end _ _ _ _ (search rules) c.loop-reading.invariant
