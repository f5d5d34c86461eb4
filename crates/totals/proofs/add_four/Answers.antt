-- `add_four` meets its contract: the four places are there.
use borrow.Author.Tests.{lt-ltb}
use Prim.Native.Nat.{◌+◌}
use native.Mathlib.Omega.{arith}
use lib.ListN.{length}
use Rattle.totals.proofs.add_four.Goals as goal

pub returns : goal.returns
returns c =
    let s = c.args in
    rw (lt-ltb s.i (length s.codes.now) (omega arith), lt-ltb (s.i + 1) (length s.codes.now) (omega arith), lt-ltb (s.i + 2) (length s.codes.now) (omega arith), lt-ltb (s.i + 3) (length s.codes.now) (omega arith)) c.add_codes.ensures
