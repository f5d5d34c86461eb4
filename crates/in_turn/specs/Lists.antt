-- Demand 3 about the arrays of a call: what an array held before a list of trims, and what it holds after it.
use Rattle.std.specs.Prelude.{◌≡◌, true, ℕ, ◌<◌, ℤ, length, get_or}
use mathlib.Core.List.{List, [], zip_with}
use Rattle.meaning.specs.Calls.{Call, accepted_calls}
use Rattle.meaning.specs.Claim.{one_kind, Kept}

abbrev pub call_of : ℕ → ℤ → Call
call_of m s = record { method = m; setting = s }

-- call i has method i and setting i; what one slice has beyond the other makes no call
abbrev pub calls_of : List ℕ → List ℤ → List Call
calls_of ms ss = zip_with call_of ms ss

-- The three clauses of ListClaim, which speaks of in_turn, about two arrays.
pub record Promised (F X : ℕ) (cs : List Call) (mark : ℕ) (before after : List ℕ) : Type 0 where
  -- "a list with no accepted call leaves the array as it was"
  pub none_accepted : accepted_calls F X cs ≡ [] → after ≡ before
  pub as_long : length after ≡ length before
  pub each_place : 0 < length (accepted_calls F X cs) → one_kind (accepted_calls F X cs) ≡ true
      → (i : ℕ) → i < length before → Kept F X mark (accepted_calls F X cs) (get_or before i 0) (get_or after i 0)
