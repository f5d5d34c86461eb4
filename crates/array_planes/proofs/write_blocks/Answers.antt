-- Block after block.
use Prim.Native.Nat.{◌+◌, ◌-◌}
use native.Mathlib.Omega.{arith}
use Rattle.array_planes.proofs.Blocks.{writing_turn, writing_end}
use Rattle.array_planes.proofs.write_blocks.Goals as goal

pub loop-start-preserved : goal.loop-start-preserved
loop-start-preserved g c =
    let at = c.loop-start in
    writing_turn g.Reading.Number.value g.Reading.Number.BYTES c.args.n c.args.at c.args.readings.now c.args.planes.now at.planes at.start (omega arith) at.invariant c.requires.readings c.requires.room
    (at.start + c.min.result - at.start) (omega arith) c.write.ensures

pub returns : goal.returns
returns g c =
    writing_end g.Reading.Number.value g.Reading.Number.BYTES c.args.n c.args.at c.args.readings.now c.args.planes.now c.loop-start.planes c.loop-start.start (omega arith) c.loop-start.invariant
