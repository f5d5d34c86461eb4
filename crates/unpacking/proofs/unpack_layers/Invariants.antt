use lib.ListN.{length}
use Rattle.unpacking.proofs.Turns.{Turn}
use Rattle.unpacking.proofs.unpack_layers.Given as goal

-- `unpack_layers` meets its contract: each turn of the loop unpacks a layer.
abbrev pub invariant-loop-i : goal.invariant-loop-i
invariant-loop-i l = Turn l.widths l.codes l.references l.exponents l.run l.mark (length l.initial.readings) l.readings l.from l.i
