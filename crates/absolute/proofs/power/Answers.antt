-- `power` meets its contract: a shift that loses nothing.
use native.Mathlib.Nat.{one-mul}
use native.Mathlib.Omega.{arith}
use mathlib.Core.Path.{◌∙◌}
use Prim.Native.Nat.{◌^◌}
use lib.Dec.{lit<}
use lib.Pow.{shl_exact}
use Rattle.absolute.proofs.power.Goals as goal

pub returns : goal.returns
returns c = shl_exact 1 c.args.d 64 (lit< tt) (omega arith) ∙ one-mul (2 ^ c.args.d)
