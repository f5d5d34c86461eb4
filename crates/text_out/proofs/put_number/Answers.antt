use Prim.Native.Nat.{ℕ, ◌+◌}
use native.Mathlib.Omega.{arith}
use mathlib.Core.Path.{sym, ap, ◌∙◌}
use mathlib.Core.List.{List}
use lib.ListN.{length}
use Rattle.text_out.proofs.Paste.{decimal_1, decimal_2, decimal_3, paste_set_1, paste_set_2, paste_set_3}
use Rattle.text_out.specs.Places.{paste}
use Rattle.text_out.proofs.put_number.Goals as goal

pub returns-then-n-lt10 : goal.returns-then-n-lt10
returns-then-n-lt10 c =
    let e = decimal_1 _ c.if-n-lt10.true in
    record { value = ap (λ (l : List ℕ). c.args.at + length l) (sym e); out_after = paste_set_1 c.args.out.now c.args.at (48 + c.args.n) (omega (arith, c.requires.1)) ∙ ap (paste c.args.out.now c.args.at) (sym e) }

pub returns-then-n-lt100 : goal.returns-then-n-lt100
returns-then-n-lt100 c =
    let e = decimal_2 _ c.if-n-lt10.false c.if-n-lt100.true in
    record { value = ap (λ (l : List ℕ). c.args.at + length l) (sym e); out_after = paste_set_2 c.args.out.now c.args.at _ _ (omega (arith, c.requires.1)) ∙ ap (paste c.args.out.now c.args.at) (sym e) }

pub returns : goal.returns
returns c =
    let e = decimal_3 _ c.if-n-lt100.false c.requires.0 in
    record { value = ap (λ (l : List ℕ). c.args.at + length l) (sym e); out_after = paste_set_3 c.args.out.now c.args.at _ _ _ c.requires.1 ∙ ap (paste c.args.out.now c.args.at) (sym e) }
