use Rattle.std.proofs.Common.{arith}
use Rattle.text_in.proofs.RowLaws.{byte_within}
use Rattle.text_in.proofs.past_ending.Goals as goal

pub overflow_add-result : goal.overflow_add-result
overflow_add-result c = let w = byte_within c.args.s.now c.args.at _ _ _ c.if-ending_at.ensures in omega arith

pub returns-then-ending_at : goal.returns-then-ending_at
returns-then-ending_at c = let w = byte_within c.args.s.now c.args.at _ _ _ c.if-ending_at.ensures in (c.if-ending_at.ensures, omega arith)
