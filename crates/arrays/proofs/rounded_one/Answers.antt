-- With no tail nothing is added.
use Rattle.std.proofs.Common.{◌∙◌, arith}
use Prim.Native.Nat.{zero-le}
use Rattle.loops.proofs.Methods.{by_none}
use Rattle.arrays.proofs.rounded_one.Goals as goal

pub with_tail-requires : goal.with_tail-requires
with_tail-requires g c = (c.requires, rw c.zero.ensures zero-le)

pub returns : goal.returns
returns g c =
    let m = g.W.Word in
    let s = c.args in
    rw c.zero.ensures at c.with_tail.ensures ∙ by_none m.FRACTION m.EXPONENT (m.value s.mark) (omega (arith, c.if-tail-gt0.false)) (m.value s.x)
