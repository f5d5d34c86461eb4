use mathlib.Core.Path.{◌≡◌, sym, subst}
use Prim.Native.Nat.{ℕ}
use lib.Bits.{bit_or}
use Rattle.std.proofs.Common.{rules}
use Rattle.std.specs.List.{fold}
use Rattle.asking_codes.specs.Codes.{BitsOf}
use Rattle.asking_codes.proofs.Bits.{bits_gathered}
use Rattle.asking_codes.proofs.bits_of.Goals as goal

pub returns : goal.returns
returns c =
    let e : c.fold.result ≡ fold bit_or 0 c.args.codes.now = search rules in
    subst (λ (n : ℕ). BitsOf n c.args.codes.now) (sym e) (bits_gathered c.args.codes.now)
