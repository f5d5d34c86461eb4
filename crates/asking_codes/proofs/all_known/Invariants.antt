use Rattle.std.specs.Iterator.Adapters.{zip_first, zip_second}
use Rattle.std.specs.Slice.Iter.{iter_rest, chunks_rest, chunks_size}
use Rattle.asking_codes.proofs.Turns.{Turn, all_known}
use Rattle.asking_codes.proofs.all_known.Given as goal

-- `all_known` meets its contract: each turn of the loop takes a layer by the bits of its codes.
abbrev pub invariant-loop-width : goal.invariant-loop-width
invariant-loop-width l =
    let left = l.width-iterator in
    Turn l.run (iter_rest (zip_first left)) (chunks_rest (zip_second left)) (chunks_size (zip_second left)) (all_known l.run l.widths l.codes)
