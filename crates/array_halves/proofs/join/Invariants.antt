use Prim.Native.Nat.{◌+◌, ◌*◌, ◌^◌}
use mathlib.Core.List.{map}
use Rattle.parts.proofs.Fills.{Zipped}
use Rattle.array_halves.proofs.join.Given as goal

-- Number after number.
abbrev pub invariant-loop-i : goal.invariant-loop-i
invariant-loop-i g l = Zipped (λ low high. g.Half.Number.value low + 256 ^ g.Half.Number.BYTES * g.Half.Number.value high) l.low l.high (map g.Whole.Number.value l.numbers) l.i
