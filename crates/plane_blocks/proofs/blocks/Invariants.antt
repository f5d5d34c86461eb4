use Rattle.std.proofs.Common.{◌≡◌, ◌-◌, length}
use Rattle.method.specs.Kinds.{number_of}
use Rattle.loops.specs.Tallies.{totals_of}
use Rattle.loops.specs.Methods.{Filling, settled_with, next_with}
use Rattle.plane_blocks.proofs.Trimming.{Trimming}
use Rattle.plane_blocks.proofs.blocks.Given as goal

-- Block after block.
abbrev pub invariant-loop-a : goal.invariant-loop-a
invariant-loop-a g l =
    let m = g.W.Word in
    let k = number_of l.job.method in
    let mark = m.value l.mark in
    Trimming (next_with m.FRACTION m.EXPONENT k l.job.n mark) (settled_with m.FRACTION m.EXPONENT k l.job.n mark) g.W.InPlanes.BYTES l.n l.initial.planes l.planes (totals_of l.sums) (m.value l.add) l.a
    × (Filling (m.value l.job.tail.ones) (m.value l.add) × (length l.room ≡ length l.initial.room))

abbrev pub decreases-loop-a : goal.decreases-loop-a
decreases-loop-a g l = l.n - l.a
