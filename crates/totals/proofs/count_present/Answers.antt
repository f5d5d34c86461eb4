-- `count_present` meets its contract: the two halves, one after the other, are the codes.
use Prim.Native.Nat.{◌/◌}
use native.Mathlib.Omega.{arith}
use lib.ListN.{length}
use Rattle.meaning.specs.Totals.{one_present}
use Rattle.totals.proofs.Gathering.{halves}
use Rattle.totals.proofs.count_present.Goals as goal

pub returns : goal.returns
returns c =
    let s = c.args in
    omega (arith, c.count_half-first.ensures.is, c.count_half-second.ensures.is, halves (one_present s.missing) s.codes.now (length s.codes.now / 2))
