-- The low bytes, and then the high ones.
use mathlib.Core.Path.{sym, ◌∙◌}
use lib.ListN.{length}
use Rattle.array_planes.proofs.Places.{map_same, stored_pairs}
use Rattle.array_planes.proofs.U16Planes.write.Goals as goal

pub returns : goal.returns
returns c =
    let s = c.args in
    rw (map_same s.block.now)
    (stored_pairs s.n s.at (length s.block.now) s.block.now s.planes.now (sym (map_same c.cut.new.halves) ∙ c.cut.ensures) (sym (map_same c.cut-2.new.halves) ∙ c.cut-2.ensures))
