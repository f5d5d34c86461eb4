-- `missing_of` meets its contract: the power fits its word, and the code 16 bits.
use native.Mathlib.Omega.{arith}
use native.Mathlib.Nat.{mod-eq_of_lt}
use mathlib.Core.Path.{◌≡◌}
use Prim.Native.Nat.{◌*◌, ◌%◌, ◌^◌}
use lib.Pow.{pow_mono, pow_pos}
use Rattle.meaning.specs.Layers.{missing_code}
use Rattle.layer_width.proofs.missing_of.Goals as goal

-- the power as the code shifts it
power : (c : goal.Start) → 1 * 2 ^ c.args.width % 2 ^ 32 ≡ 1 * 2 ^ c.args.width
power c = mod-eq_of_lt (omega (arith, pow_mono {i = c.args.width} {j = 16} c.requires))

pub overflow_sub-result : goal.overflow_sub-result
overflow_sub-result c = omega (arith, power c, pow_pos c.args.width)

pub overflow_cast-result : goal.overflow_cast-result
overflow_cast-result c = omega (arith, power c, pow_mono {i = c.args.width} {j = 16} c.requires, pow_pos c.args.width)

pub returns : goal.returns
unfolding missing_code
returns c = omega (arith, power c)
