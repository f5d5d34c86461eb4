-- `add_codes` meets its contract: there is room for one more code in each lane.
use Rattle.totals.specs.Gathered.{added}
use Rattle.totals.proofs.add_codes.Goals as goal

pub returns : goal.returns
unfolding added
returns c = cc
