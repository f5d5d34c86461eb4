-- `unpack_layer` meets its contract: the doubles before place i are written.
use native.Mathlib.Omega.{arith}
use Rattle.parts.proofs.Fills.{filled_turn, filled_end}
use Rattle.decoding.proofs.unpack_layer.Goals as goal

pub loop-i-preserved : goal.loop-i-preserved
loop-i-preserved c =
    filled_turn _ c.args.codes.now c.loop-i.readings c.loop-i.i 0 _ (omega arith) (omega arith) c.unpack_code.ensures c.loop-i.invariant

pub returns : goal.returns
returns c =
    filled_end _ c.args.codes.now c.loop-i.readings c.loop-i.i (omega arith) (omega arith) c.loop-i.invariant
