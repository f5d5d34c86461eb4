-- The method's walk from the first turn on.
use Rattle.std.proofs.Common.{ap}
use Rattle.method.specs.Kinds.{number_of}
use Rattle.plane_blocks.proofs.Trimming.{by_method}
use Rattle.plane_blocks.proofs.blocks_of.Goals as goal

pub returns : goal.returns
returns g c =
    let m = g.W.Word in
    let s = c.args in
    let j = c.job_of.ensures in
    let it = by_method m.FRACTION m.EXPONENT g.W.InPlanes.BYTES s.n (m.value s.mark) s.planes.now (ap number_of j.method) j.setting (c.blocks-2.ensures.sums, c.blocks-2.ensures.content) in
    record { sums = it.0; content = it.1 }
