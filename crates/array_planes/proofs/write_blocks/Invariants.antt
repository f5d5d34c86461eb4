use Prim.Native.Nat.{◌-◌, min}
use lib.ListN.{length}
use Rattle.array_planes.proofs.Blocks.{Writing}
use Rattle.array_planes.proofs.write_blocks.Given as goal

-- Block after block.
abbrev pub invariant-loop-start : goal.invariant-loop-start
invariant-loop-start g l =
    Writing g.Reading.Number.value g.Reading.Number.BYTES l.n l.at l.readings l.initial.planes l.planes (min l.start (length l.readings))

abbrev pub decreases-loop-start : goal.decreases-loop-start
decreases-loop-start g l = length l.readings - l.start
