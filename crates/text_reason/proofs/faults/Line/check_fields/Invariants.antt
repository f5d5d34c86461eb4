use Rattle.std.proofs.Common.{length, ◌≤◌}
use Rattle.text_reason.proofs.faults.Line.check_fields.Given as goal

-- What is left is of the line, and grows shorter.
abbrev pub invariant-loop-rest : goal.invariant-loop-rest
invariant-loop-rest l = length l.rest ≤ length l.self.bytes.now

abbrev pub decreases-loop-rest : goal.decreases-loop-rest
decreases-loop-rest l = length l.rest
