-- `nearest_whole` meets its contract, by the three cases of `nearest`.
use mathlib.Core.Path.{sym}
use native.Mathlib.Nat.{mod-lt, div-le_self}
use native.Mathlib.Omega.{arith}
use Rattle.meaning.proofs.Nearest.{nearest_down, nearest_up, nearest_tie}
use Rattle.absolute.proofs.nearest_whole.Goals as goal

pub overflow_mul-twice : goal.overflow_mul-twice
overflow_mul-twice c = omega (arith, c.requires, mod-lt c.args.n c.requires.1)

pub returns-then-twice-g : goal.returns-then-twice-g
returns-then-twice-g c = sym (nearest_down _ _ c.if-twice-g.true)

pub overflow_add-result : goal.overflow_add-result
overflow_add-result c = omega (arith, div-le_self c.args.n c.args.g)

pub returns-then-g-twice : goal.returns-then-g-twice
returns-then-g-twice c = sym (nearest_up _ _ c.if-g-twice.true)

pub overflow_add-result-2 : goal.overflow_add-result-2
overflow_add-result-2 c = omega (arith, div-le_self c.args.n c.args.g)

pub returns : goal.returns
returns c = sym (nearest_tie _ _ (omega arith))
