-- Both halves, joined.
use mathlib.Core.Path.{sym, ◌∙◌}
use native.Mathlib.Omega.{arith}
use lib.ListN.{length}
use lib.Seq.{length-take-le}
use Rattle.array_planes.proofs.Places.{fetched_block}
use Rattle.array_planes.proofs.read_halves.Goals as goal

pub returns : goal.returns
returns g c =
    let k = length c.args.block.now in
    c.join.ensures
    ∙ fetched_block g.Whole.Number.value g.Half.Number.value g.Half.Number.BYTES c.args.n c.args.at c.args.planes.now c.BYTES.result c.BYTES.ensures k _ _ (sym (length-take-le k c.args.low.now (omega arith)))
    (sym (length-take-le k c.args.high.now (omega arith))) c.requires.room c.read.new.block c.read-2.new.block c.read.ensures c.read-2.ensures
