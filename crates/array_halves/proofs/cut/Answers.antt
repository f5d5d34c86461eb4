-- Half after half.
use Prim.Native.Nat.{◌/◌, ◌%◌, ◌^◌}
use native.Mathlib.Omega.{arith}
use mathlib.Core.Path.{ap}
use mathlib.Core.List.{map}
use lib.ListN.{length-map}
use Rattle.std.proofs.lemmas.List.{map-set}
use Rattle.parts.proofs.Fills.{filled_turn}
use Rattle.array_halves.proofs.cut.Goals as goal

pub loop-i-preserved : goal.loop-i-preserved
loop-i-preserved g c =
    let half = λ (w : g.row.Whole.Denot). g.Whole.Number.value w / 2 ^ c.args.shift % 256 ^ g.Half.Number.BYTES in
    rw (map-set g.Half.Number.value c.loop-i.halves c.loop-i.i c.half.result)
    (filled_turn half c.args.numbers.now (map g.Half.Number.value c.loop-i.halves) c.loop-i.i c.index-numbers-i.result _ (omega arith) (simp length-map (omega arith)) (rw c.half.ensures (ap half c.index-numbers-i.is)) c.loop-i.invariant)
