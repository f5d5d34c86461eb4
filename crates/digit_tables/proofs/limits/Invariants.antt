use mathlib.Core.Path.{◌≡◌}
use Prim.Native.Nat.{ℕ, ◌<◌}
use lib.ListN.{get_or}
use Rattle.digit_tables.specs.Fields.{field_limit}
use Rattle.digit_tables.proofs.limits.Given as goal

-- Each entry that is passed is its field's limit.
abbrev pub invariant-loop-f : goal.invariant-loop-f
invariant-loop-f l = (k : ℕ) → k < l.f → get_or l.limit-items k 0 ≡ field_limit k
