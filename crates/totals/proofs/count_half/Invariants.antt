use Prim.Native.Nat.{◌≤◌}
use lib.ListN.{length}
use Rattle.meaning.specs.Totals.{one_present}
use Rattle.totals.proofs.Gathering.{Left}
use Rattle.totals.proofs.count_half.Given as goal

-- `count_half` meets its contract: what is counted before this code, beside the codes that are left.
abbrev pub invariant-loop-code : goal.invariant-loop-code
invariant-loop-code l = (l.count ≤ l.code-index) × (length l.codes ≤ 32768) × Left (one_present l.missing) l.codes l.count l.code-index
