-- `unpack_code` meets its contract: the value is no NaN, so that it has a pattern, and the code says which of the two is taken.
use mathlib.Core.Path.{refl, sym, ap, subst}
use native.Mathlib.Omega.{arith}
use lib.Ieee.{binary64, to_bits}
use Rattle.absolute.proofs.NotNan.{Number}
use Rattle.decoding.specs.Floats.{decoded}
use Rattle.decoding.proofs.Numbers.{unpacked_number}
use Rattle.decoding.proofs.unpack_code.Goals as goal

pub value_of-double-requires : goal.value_of-double-requires
value_of-double-requires c = c.requires

pub float_to_bits-double : goal.float_to_bits-double
float_to_bits-double c =
    subst Number (sym c.value_of-double.ensures) (unpacked_number c.args.l c.args.code (omega arith) c.requires)

pub returns-then-code-l : goal.returns-then-code-l
unfolding decoded
returns-then-code-l c = rw c.if-code-l.true refl

pub returns-else-code-l : goal.returns-else-code-l
unfolding decoded
returns-else-code-l c = rw c.if-code-l.false (ap (to_bits binary64) c.value_of-double.ensures)
