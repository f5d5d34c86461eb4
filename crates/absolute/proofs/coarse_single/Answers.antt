-- `coarse_single` meets its contract: `coarse_step` for singles, whose result is a single's.
use mathlib.Core.Path.{refl}
use native.Mathlib.Omega.{arith}
use Rattle.meaning.specs.Readings.{infinity}
use Rattle.absolute.proofs.Whole.{stepped_finite}
use Rattle.absolute.proofs.coarse_single.Goals as goal

pub overflow_cast-result : goal.overflow_cast-result
unfolding infinity
overflow_cast-result c =
    let s = c in omega (arith, stepped_finite {F = 23} {X = 8} s.requires (rw (c.from.ensures, c.from-2.ensures) at (s.coarse_step-step.ensures 8 refl)))

pub overflow_cast-result-2 : goal.overflow_cast-result-2
unfolding infinity
overflow_cast-result-2 c =
    let s = c in omega (arith, stepped_finite {F = 23} {X = 8} s.requires (rw (c.from.ensures, c.from-2.ensures) at (s.coarse_step-step.ensures 8 refl)))

pub returns : goal.returns
unfolding infinity
returns c = let t = rw (c.from.ensures, c.from-2.ensures) at (c.coarse_step-step.ensures 8 refl) in record { magnitude = t.new; clipped = t.clip }
