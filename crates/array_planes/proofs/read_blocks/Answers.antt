-- Block after block.
use Prim.Native.Nat.{◌+◌, ◌-◌}
use native.Mathlib.Omega.{arith}
use lib.ListN.{length}
use Rattle.array_planes.proofs.Blocks.{reading_turn, reading_end}
use Rattle.array_planes.proofs.read_blocks.Goals as goal

pub loop-start-preserved : goal.loop-start-preserved
loop-start-preserved g c =
    let at = c.loop-start in
    reading_turn g.Reading.Number.value g.Reading.Number.BYTES c.args.n c.args.at (length c.args.readings.now) c.args.planes.now at.readings at.start (omega arith) at.invariant c.requires c.read.new.block
    (at.start + c.min.result - at.start) (omega arith) c.read.auto.block c.read.ensures

pub returns : goal.returns
returns g c =
    reading_end g.Reading.Number.value g.Reading.Number.BYTES c.args.n c.args.at (length c.args.readings.now) c.args.planes.now c.loop-start.readings c.loop-start.start (omega arith) c.loop-start.invariant c.requires
