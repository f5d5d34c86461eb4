-- Demand 3 of the arrays before and after a list of trims, for every width: meaning's claim, where the array is left as the list leaves it.
use mathlib.Core.Path.{◌≡◌, ap, ◌∙◌}
use mathlib.Core.Logic.{◌≢◌}
use mathlib.Core.Bool.{true}
use mathlib.Core.List.{List}
use Prim.Native.Nat.{ℕ, ◌+◌, ◌≤◌, ◌<◌}
use native.Mathlib.Omega.{arith}
use lib.ListN.{length, get_or}
use Rattle.meaning.specs.Readings.{magnitude, position, distance}
use Rattle.meaning.specs.Methods.{trimmable}
use Rattle.meaning.specs.Calls.{Call, in_turn, accepted_calls, largest_unit}
use Rattle.meaning.specs.Claim.{one_kind}
use Rattle.meaning.proofs.Claim.{list_claim}
use Rattle.in_turn.specs.Lists.{Promised}

module _ (F X : ℕ) where
  pub promised : {cs : List Call} {mark : ℕ} {before after : List ℕ} → after ≡ in_turn F X cs mark before → Promised F X cs mark before after
  promised {cs} {mark} {before} {after} e =
      let l = list_claim F X cs mark before in
      record { none_accepted = λ h. e ∙ l.none_accepted h; as_long = ap length e ∙ l.as_long; each_place = λ n k i h. rw e (l.each_place n k i h) }

  -- What demand 3 rules out by itself: two readings that began at least their two units apart are not left as one pattern.
  pub apart : {cs : List Call} {mark : ℕ} {before after : List ℕ} → Promised F X cs mark before after → 0 < length (accepted_calls F X cs) → one_kind (accepted_calls F X cs) ≡ true
      → (i j : ℕ) → i < length before → j < length before → trimmable F X mark (get_or before i 0) ≡ true → trimmable F X mark (get_or before j 0) ≡ true
      → largest_unit F (accepted_calls F X cs) (magnitude F X (get_or before i 0)) + largest_unit F (accepted_calls F X cs) (magnitude F X (get_or before j 0))
      ≤ distance (position F X (get_or before i 0)) (position F X (get_or before j 0))
      → get_or after i 0 ≢ get_or after j 0
  unfolding distance
  apart p n k i j h l a b far e = omega (arith, (p.each_place n k i h).near a, (p.each_place n k j l).near b, ap (position F X) e)
