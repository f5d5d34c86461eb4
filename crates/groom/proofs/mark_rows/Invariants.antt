use mathlib.Core.Path.{◌≡◌}
use mathlib.Core.List.{map}
use Prim.Native.Nat.{◌*◌}
use lib.ListN.{length, drop}
use Rattle.std.specs.Iterator.Adapters.{enumerate_source, enumerate_count}
use Rattle.std.specs.Slice.Iter.{chunks_rest, chunks_size}
use Rattle.rows.proofs.Rows.{Marked}
use Rattle.groom.proofs.mark_rows.Given as goal

-- Row by row, each with a bit of its own.
abbrev pub invariant-loop-r : goal.invariant-loop-r
invariant-loop-r g l =
    let value = g.W.Word.value in
    let left = enumerate_source l.r-iterator in
    let r = enumerate_count l.r-iterator in
    Marked g.W.Word.FRACTION g.W.Word.EXPONENT (value l.mark) (map value l.block) (map value l.turns) r
    × (length l.turns ≡ 513) × (chunks_size left ≡ 512) × (chunks_rest left ≡ drop (r * 512) l.block)
    × (goal.iterator-loop-r g).can_next l.r-iterator × (goal.iterator-loop-r g).is_finite l.r-iterator
