-- Where the limit is less than half a spacing it is 0, and else a power, cut to the largest that is needed.
use mathlib.Core.Path.{sym, ap, ◌∙◌}
use Prim.Native.Nat.{ℕ, ◌^◌, zero-le}
use native.Mathlib.Omega.{arith}
use lib.Pow.{pow_mono}
use Rattle.reading_apart.proofs.Sums.{cut_narrow, cut_wide}
use Rattle.reading_apart.proofs.limit_at.Goals as goal

pub returns-then-q-exponent : goal.returns-then-q-exponent
returns-then-q-exponent c = record { value = sym (cut_narrow _ _ _ c.if-q-exponent.true); small = zero-le }

pub power-requires : goal.power-requires
power-requires c = omega (arith, c.min.ensures)

pub returns : goal.returns
returns c =
    let p = c.power.ensures in
    let d = c.min.ensures in
    record {
      value = p ∙ ap (λ (n : ℕ). 2 ^ n) d ∙ sym (cut_wide _ _ _ c.if-q-exponent.false);
      small = omega (arith, p, pow_mono {i = c.min.result} {j = 55} (omega (arith, d)));
    }
