-- `value_of` meets its contract: it is the formula itself.
use mathlib.Core.Path.{ap}
use lib.IntN.{pos}
use lib.Ieee.{Float, binary64, add, mul, of_int}
use Rattle.decoding.specs.Floats.{unpacked}
use Rattle.decoding.proofs.value_of.Goals as goal

pub widened-requires : goal.widened-requires
widened-requires c = c.requires.reference

pub returns : goal.returns
unfolding unpacked
returns c =
    let s = c.args in
    ap (λ (x : Float). add binary64 (mul binary64 (of_int binary64 (pos s.code)) s.l.step) x) c.widened.ensures
