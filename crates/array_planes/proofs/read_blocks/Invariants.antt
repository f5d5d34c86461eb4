use Prim.Native.Nat.{◌-◌, min}
use lib.ListN.{length}
use Rattle.array_planes.proofs.Blocks.{Reading}
use Rattle.array_planes.proofs.read_blocks.Given as goal

-- Block after block.
abbrev pub invariant-loop-start : goal.invariant-loop-start
invariant-loop-start g l =
    Reading g.Reading.Number.value g.Reading.Number.BYTES l.n l.at (length l.initial.readings) l.planes l.readings (min l.start (length l.initial.readings))

abbrev pub decreases-loop-start : goal.decreases-loop-start
decreases-loop-start g l = length l.initial.readings - l.start
