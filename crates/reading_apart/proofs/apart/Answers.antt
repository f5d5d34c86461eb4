-- With one sign the sizes' difference counts, with two their sum.
use mathlib.Core.Path.{ap, ◌∙◌}
use Prim.Native.Nat.{ℕ, ◌^◌}
use native.Mathlib.Omega.{arith}
use lib.Dec.{ltb}
use Rattle.reading_apart.proofs.Distances.{apart_is}
use Rattle.reading_apart.proofs.apart.Goals as goal

pub far-requires : goal.far-requires
far-requires c = (c.requires.0, (c.requires.1.0, omega (arith, c.min.ensures, c.max.ensures)))

pub returns : goal.returns
returns c X e fw fv =
    c.far.ensures
    ∙ ap (λ (n : ℕ). ltb (2 ^ c.args.q) n) (apart_is _ X _ _ fw fv _ c.max.result c.min.result e c.max.ensures c.min.ensures)
