use Rattle.std.proofs.Common.{◌∙◌, arith}
use Rattle.codes.proofs.Leaf.{make, flag_not, cut_up, cut_down}
use Rattle.codes.proofs.cut_size.Goals as goal

pub returns-then-s-x : goal.returns-then-s-x
unfolding make
returns-then-s-x c = let s = c.args in cut_up s.a s.x s.s (omega arith)

pub returns-else-s-x : goal.returns-else-s-x
unfolding make
returns-else-s-x c =
    let s = c.args in
    cut_down s.a s.x s.s c.min-digits.result c.from.result (omega arith) (omega arith) c.min-digits.ensures (c.from.ensures ∙ flag_not _ _)
