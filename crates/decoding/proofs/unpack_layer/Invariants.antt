use Rattle.parts.proofs.Fills.{Filled}
use Rattle.decoding.specs.Floats.{decoded}
use Rattle.decoding.proofs.unpack_layer.Given as goal

-- `unpack_layer` meets its contract: the doubles before place i are written.
abbrev pub invariant-loop-i : goal.invariant-loop-i
invariant-loop-i l = Filled (decoded l.l l.mark) l.codes l.readings l.i
