-- `steps_of` meets its contract: the power fits its word.
use native.Mathlib.Omega.{arith}
use native.Mathlib.Nat.{mod-eq_of_lt}
use mathlib.Core.Path.{◌≡◌}
use Prim.Native.Nat.{◌*◌, ◌%◌, ◌^◌}
use lib.Pow.{pow_mono}
use Rattle.meaning.specs.Layers.{last_code}
use Rattle.layer_width.proofs.steps_of.Goals as goal

-- the power as the code shifts it
power : (c : goal.Start) → 1 * 2 ^ c.args.width % 2 ^ 64 ≡ 1 * 2 ^ c.args.width
power c = mod-eq_of_lt (omega (arith, pow_mono {i = c.args.width} {j = 16} c.requires.width_bound))

pub overflow_sub-result : goal.overflow_sub-result
overflow_sub-result c = omega (arith, power c, pow_mono {i = 2} {j = c.args.width} c.requires.le_width)

pub returns : goal.returns
unfolding last_code
returns c = omega (arith, power c)
