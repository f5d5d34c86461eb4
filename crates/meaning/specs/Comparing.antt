-- Document 02 (c), "First reading beyond a limit": the raw array beside the trimmed one. A full comparison looks at every place; the answer is its first place beyond the
-- limit and the number of readings read. And what the comparison says after a list of trims as in demand 3.
use Rattle.std.specs.Prelude.{◌≡◌, Bool, true, false, cond, ◌&&◌, ℕ, suc, ◌^◌, ◌≤◌, ◌<◌, leb, ltb, eqb, ℤ, length, get_or}
use mathlib.Core.List.{List, [], ◌∷◌, zip_with}
use Rattle.meaning.specs.Readings.{magnitude, least_exp, position, distance}
use Rattle.meaning.specs.Methods.{Method, tail, round, absolute, digits, trimmable}
use Rattle.meaning.specs.Questions.{Outcome, accepted, ask, above, all, setting_in_range}
use Rattle.meaning.specs.Calls.{Call, answering, in_turn, accepted_calls, largest_unit}
use Rattle.meaning.specs.Claim.{one_kind}

-- "the first place .. or none"
pub data Place : Type 0 where
  none : Place
  at : ℕ → Place

-- the first place of a full comparison, given what it says of every place from `place` on
unfoldable pub first_from : ℕ → List Bool → Place
first_from place [] = none
first_from place (here ∷ rest) = let later = first_from (suc place) rest in cond here (at place) later

-- "The number read is that place plus 1, or the full length when there is none"
unfoldable pub read_up_to : Place → ℕ → ℕ
read_up_to none full = full
read_up_to (at place) full = suc place

-- "the first place, and how many readings it read"
pub record Compared : Type 0 where
  pub first : Place
  pub read : ℕ

module _ (F X : ℕ) where
  -- "where both are present and finite and lie more than 2^p apart": the limit 2^p is 2 ^ q least spacings
  unfoldable pub beyond : ℕ → ℕ → ℕ → ℕ → Bool
  beyond mark q w v = trimmable F X mark w && trimmable F X mark v && ltb (2 ^ q) (distance (position F X w) (position F X v))

  -- "The answer must equal that of a full comparison"
  unfoldable pub compared : ℕ → ℕ → List ℕ → List ℕ → Compared
  compared mark q raw trimmed =
      let first = first_from 0 (zip_with (beyond mark q) raw trimmed) in
      record { first = first; read = read_up_to first (length raw) }

  -- "Refused: 10, if the lengths differ, asked first; the existing 2, if p is outside the range for absolute settings." Accepted: p counted from the exponent of the least spacing.
  unfoldable pub compare_questions : ℤ → ℕ → ℕ → Outcome ℕ
  compare_questions p raw trimmed =
      ask (eqb raw trimmed) 10
      (ask (setting_in_range F X 5 p) 2
      (accepted (above (least_exp F X) p)))

  -- "Given both in either width, the mark and p, the call answers .."
  unfoldable pub first_beyond : ℕ → ℤ → List ℕ → List ℕ → Outcome Compared
  first_beyond mark p raw trimmed = answering (compare_questions p (length raw) (length trimmed)) (λ q. compared mark q raw trimmed)

abbrev pub first_beyond_singles : ℕ → ℤ → List ℕ → List ℕ → Outcome Compared
first_beyond_singles = first_beyond 23 8

abbrev pub first_beyond_doubles : ℕ → ℤ → List ℕ → List ℕ → Outcome Compared
first_beyond_doubles = first_beyond 52 11

-- ---- after a list of trims

-- a rounding to an absolute step of at most 2 ^ q least spacings
unfoldable pub step_up_to : ℕ → Method → Bool
step_up_to q (tail c k) = false
step_up_to q (round k) = false
step_up_to q (absolute e) = leb e q
step_up_to q (digits n) = false

-- "Before raw data is wiped, a volunteer compares the raw array with the trimmed one." For every list of calls, mark, array and p in range, nothing is beyond 2^p and all is read
pub record NothingBeyond (F X : ℕ) : Type 0 where
  -- where the list is one of demand 3 and at no present finite reading a unit of it is above 2^p,
  pub units_up_to : (cs : List Call) (mark : ℕ) (p : ℤ) (ws : List ℕ) → setting_in_range F X 5 p ≡ true → one_kind (accepted_calls F X cs) ≡ true
      → ((i : ℕ) → i < length ws → trimmable F X mark (get_or ws i 0) ≡ true → largest_unit F (accepted_calls F X cs) (magnitude F X (get_or ws i 0)) ≤ 2 ^ above (least_exp F X) p)
      → first_beyond F X mark p ws (in_turn F X cs mark ws) ≡ accepted (record { first = none; read = length ws })
  -- and so where the accepted calls are only roundings to absolute steps of at most 2^p, whatever the readings are
  pub steps_up_to : (cs : List Call) (mark : ℕ) (p : ℤ) (ws : List ℕ) → setting_in_range F X 5 p ≡ true → all (step_up_to (above (least_exp F X) p)) (accepted_calls F X cs) ≡ true
      → first_beyond F X mark p ws (in_turn F X cs mark ws) ≡ accepted (record { first = none; read = length ws })
