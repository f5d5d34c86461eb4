-- Number after number.
use Prim.Native.Nat.{◌+◌, ◌*◌, ◌^◌}
use native.Mathlib.Omega.{arith}
use mathlib.Core.Path.{ap₂}
use mathlib.Core.List.{map}
use lib.ListN.{length-map}
use Rattle.std.proofs.lemmas.List.{map-set}
use Rattle.parts.proofs.Fills.{zipped_turn, zipped_end}
use Rattle.array_halves.proofs.join.Goals as goal

pub loop-i-preserved : goal.loop-i-preserved
loop-i-preserved g c =
    let number = λ (low high : g.row.Half.Denot). g.Half.Number.value low + 256 ^ g.Half.Number.BYTES * g.Half.Number.value high in
    rw (map-set g.Whole.Number.value c.loop-i.numbers c.loop-i.i c.joined.result)
    (zipped_turn number c.args.low.now c.args.high.now (map g.Whole.Number.value c.loop-i.numbers) c.loop-i.i c.index-low-i.result c.index-high-i.result _ (omega arith) (omega arith) (simp length-map (omega arith)) (rw c.joined.ensures (ap₂ number c.index-low-i.is c.index-high-i.is)) c.loop-i.invariant)

pub returns : goal.returns
returns g c =
    zipped_end (λ low high. g.Half.Number.value low + 256 ^ g.Half.Number.BYTES * g.Half.Number.value high) c.args.low.now c.args.high.now (map g.Whole.Number.value c.loop-i.numbers) c.loop-i.i (omega arith) (simp length-map (omega arith)) c.loop-i.invariant
