use mathlib.Core.List.{map}
use Rattle.rows.proofs.Rows.{Counting}
use Rattle.groom.proofs.count_turns.Given as goal

-- Column by column; the state after the last is written down behind it.
abbrev pub invariant-loop-word : goal.invariant-loop-word
invariant-loop-word g l = let value = g.W.Word.value in Counting (map value l.initial.word-items) (map value l.word-items) (value l.odd) l.word-index
