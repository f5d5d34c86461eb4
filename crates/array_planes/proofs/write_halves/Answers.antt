-- The low halves, and then the high ones.
use Rattle.array_planes.proofs.Places.{stored_block}
use Rattle.array_planes.proofs.write_halves.Goals as goal

pub returns : goal.returns
returns g c =
    stored_block g.Whole.Number.value g.Half.Number.value g.Half.Number.BYTES c.args.n c.args.at c.args.planes.now c.BYTES-bytes.result c.BYTES-bytes.ensures c.args.block.now c.cut.new.halves c.cut-2.new.halves
    c.cut.ensures c.write.ensures c.cut-2.ensures c.write-2.ensures
