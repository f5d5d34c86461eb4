use borrow.Author.Rules.{rules}
use Rattle.asking_readings.proofs.Largest.{turn, end}
use Rattle.asking_readings.proofs.largest_magnitude.Goals as goal

pub loop-w-preserved : goal.loop-w-preserved
loop-w-preserved c =
    turn _ _ _ _ _ _ (search rules) c.choose-m.ensures c.larger-most.ensures c.loop-w.invariant

pub returns : goal.returns
returns c =
    end c.args.mark c.args.readings.now c.loop-w.most c.loop-w.w-index (search rules) c.loop-w.invariant
