-- Both bytes at once.
use mathlib.Core.Path.{◌∙◌}
use lib.ListN.{length}
use Rattle.array_planes.proofs.Places.{fetched_pairs}
use Rattle.array_planes.proofs.U16Planes.read.Goals as goal

pub returns : goal.returns
returns c =
    let s = c.args in
    c.join.ensures ∙ fetched_pairs s.n s.at (length s.block.now) s.planes.now
