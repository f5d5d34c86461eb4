use Rattle.std.proofs.Common.{length, ◌≤◌}
use Rattle.trimlist.proofs.read_input.Given as goal

-- What was read has room.
abbrev pub invariant-loop : goal.invariant-loop
invariant-loop g l = l.bytes ≤ length l.text
