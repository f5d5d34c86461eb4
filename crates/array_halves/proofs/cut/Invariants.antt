use Prim.Native.Nat.{◌/◌, ◌%◌, ◌^◌}
use mathlib.Core.List.{map}
use Rattle.parts.proofs.Fills.{Filled}
use Rattle.array_halves.proofs.cut.Given as goal

-- Half after half.
abbrev pub invariant-loop-i : goal.invariant-loop-i
invariant-loop-i g l = Filled (λ w. g.Whole.Number.value w / 2 ^ l.shift % 256 ^ g.Half.Number.BYTES) l.numbers (map g.Half.Number.value l.halves) l.i
