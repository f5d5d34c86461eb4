-- The bits below t.
use Rattle.std.proofs.Common.{◌≡◌, ◌%◌, ◌^◌}
use Rattle.word.proofs.Word.from_wide.Given as goal

abbrev pub invariant-loop-t : goal.invariant-loop-t
invariant-loop-t g l = g.Self.Word.value l.word ≡ l.n % 2 ^ l.t
