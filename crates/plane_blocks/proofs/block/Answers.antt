-- Read, trimmed and written back.
use Rattle.std.proofs.Common.{length}
use Rattle.std.proofs.lemmas.List.{length-map}
use Rattle.method.specs.Kinds.{number_of}
use Rattle.loops.specs.Methods.{settled_with, next_with}
use Rattle.plane_blocks.proofs.Trimming.{block_done}
use Rattle.plane_blocks.proofs.block.Goals as goal

pub returns : goal.returns
returns g c =
    let m = g.W.Word in
    let s = c.args in
    let k = number_of s.job.method in
    let mark = m.value s.mark in
    let it = block_done (next_with m.FRACTION m.EXPONENT k s.job.n mark) (settled_with m.FRACTION m.EXPONENT k s.job.n mark) g.W.InPlanes.BYTES s.n s.at (length s.room.now) (m.value s.add) s.planes.now c.requires.2
    c.read.ensures c.part-part.ensures.trimmed.sums (rw length-map c.part-part.ensures.add) c.part-part.ensures.trimmed.content (rw length-map c.write.ensures) in
    record { sums = it.0; add = it.1.0; content = it.1.1 }
