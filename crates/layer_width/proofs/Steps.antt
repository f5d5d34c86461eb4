-- The steps of a width from 2 to 16: at least one, and at most 65,534.
use Prim.Native.Nat.{ℕ, ◌≤◌}
use native.Mathlib.Omega.{arith}
use lib.Pow.{pow_mono}
use Rattle.meaning.specs.Layers.{last_code}

pub steps_some : (w : ℕ) → 2 ≤ w → 1 ≤ last_code w
unfolding last_code
steps_some w h = omega (arith, pow_mono {i = 2} {j = w} h)

pub steps_few : (w : ℕ) → w ≤ 16 → last_code w ≤ 65534
unfolding last_code
steps_few w h = omega (arith, pow_mono {i = w} {j = 16} h)
