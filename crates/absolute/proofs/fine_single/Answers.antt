-- `fine_single` meets its contract, by the laws of `Fine` at binary32.
use Prim.Native.Nat.{◌<◌}
use native.Mathlib.Omega.{arith}
use lib.Ieee.{binary32}
use Rattle.meaning.specs.Readings.{infinity}
use Rattle.absolute.proofs.Fine.{offset_number, moved_number, fine_moves, fine_stays}
use Rattle.absolute.proofs.Values.{bits_number}
use Rattle.absolute.proofs.fine_single.Goals as goal

-- `fine_single` meets its contract, by the laws of `Fine` at binary32.
finite : (c : goal.Start) → c.args.m < infinity 23 8
unfolding infinity
finite c = omega arith

pub float_from_bits-offset : goal.float_from_bits-offset
float_from_bits-offset c = offset_number binary32 c.args.q _ (omega arith) (omega arith)

pub float_from_bits-sum : goal.float_from_bits-sum
float_from_bits-sum c = bits_number binary32 c.args.m (finite c)

pub float_to_bits-rounded : goal.float_to_bits-rounded
float_to_bits-rounded c = moved_number binary32 c.args.q _ (omega arith) (omega arith) c.args.m (finite c)

pub returns-then-m-start : goal.returns-then-m-start
returns-then-m-start c =
    let s = c.before in fine_moves binary32 s.args.q _ (omega arith) (omega arith) s.args.m (finite s) c.if-m-start.true

pub returns-else-m-start : goal.returns-else-m-start
returns-else-m-start c =
    let s = c.before in fine_stays binary32 s.args.q _ (omega arith) (omega arith) s.args.m (finite s) c.if-m-start.false
