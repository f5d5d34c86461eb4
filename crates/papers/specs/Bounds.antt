-- 001 and 003: the distance that one call can move a reading, by the unit (003's quantum). Every pattern may be the reading and the mark.
use Rattle.std.specs.Prelude.{◌≡◌, false, ℕ, ◌+◌, ◌*◌, ◌^◌, ◌≤◌, ◌<◌}
use Rattle.meaning.specs.Readings.{magnitude}
use Rattle.meaning.specs.Methods.{Method, TailMethod, tail, shave, set, halfshave, round, absolute, clips, trimmed}
use Rattle.papers.specs.Moved.{moved, size_of, spacing_of, unit_of, unit_left, Normal}

pub record UnitBounds (F X : ℕ) : Type 0 where
  -- 003, section 3: at most a full quantum for shave, set and groom. Never the whole of it: at most a unit less one spacing.
  pub tail_moves : (c : TailMethod) (k mark turn w : ℕ) → moved F X (tail c k) mark turn w + spacing_of F X w ≤ unit_of F X (tail c k) w
  -- 003, section 3: at most half a quantum for halfshave
  pub halfshave_moves : (k mark turn w : ℕ) → 2 * moved F X (tail halfshave k) mark turn w ≤ unit_of F X (tail halfshave k) w
  -- and for round. True unless it clips, which the paper leaves out; clipped or not, at most a unit less one spacing, as for shave.
  pub round_moves : (k mark turn w : ℕ) → clips F X (round k) (magnitude F X w) ≡ false → 2 * moved F X (round k) mark turn w ≤ unit_of F X (round k) w
  pub round_always : (k mark turn w : ℕ) → moved F X (round k) mark turn w + spacing_of F X w ≤ unit_of F X (round k) w
  -- 003, section 5, and 001, section 2.3 (Decimal Rounding): within half of the least bit's value, 2 ^ p. True unless it clips; clipped or not, less than 2 ^ p.
  pub absolute_moves : (q mark turn w : ℕ) → clips F X (absolute q) (magnitude F X w) ≡ false → 2 * moved F X (absolute q) mark turn w ≤ unit_of F X (absolute q) w
  pub absolute_always : (q mark turn w : ℕ) → moved F X (absolute q) mark turn w < unit_of F X (absolute q) w
  -- 001, section 2.3, and 003, section 3: shave goes towards zero, and set away from it
  pub shave_down : (k mark turn w : ℕ) → size_of F X (trimmed F X (tail shave k) mark turn w) ≤ size_of F X w
  pub set_up : (k mark turn w : ℕ) → size_of F X w ≤ size_of F X (trimmed F X (tail set k) mark turn w)

-- The same by what is left, since the reading is wiped. A call never lowers the unit of its own method, so that the bounds hold with the unit at the figure left; whether a call
-- clips is still asked of the reading.
pub record LeftBounds (F X : ℕ) : Type 0 where
  -- of digits too, which has none: its unit is 0 everywhere
  pub unit_grows : (x : Method) (mark turn w : ℕ) → unit_of F X x w ≤ unit_left F X x mark turn w
  pub tail_left : (c : TailMethod) (k mark turn w : ℕ) → moved F X (tail c k) mark turn w < unit_left F X (tail c k) mark turn w
  pub halfshave_left : (k mark turn w : ℕ) → 2 * moved F X (tail halfshave k) mark turn w ≤ unit_left F X (tail halfshave k) mark turn w
  -- half a unit unless it clips; clipped or not, less than a unit
  pub round_left : (k mark turn w : ℕ) → clips F X (round k) (magnitude F X w) ≡ false → 2 * moved F X (round k) mark turn w ≤ unit_left F X (round k) mark turn w
  pub round_always_left : (k mark turn w : ℕ) → moved F X (round k) mark turn w < unit_left F X (round k) mark turn w
  pub absolute_left : (q mark turn w : ℕ) → clips F X (absolute q) (magnitude F X w) ≡ false
      → 2 * moved F X (absolute q) mark turn w ≤ unit_left F X (absolute q) mark turn w
  pub absolute_always_left : (q mark turn w : ℕ) → moved F X (absolute q) mark turn w < unit_left F X (absolute q) mark turn w

-- 003, Table 1: the largest error as a part of the reading, with k keep bits (one less than the table's mantissa bits): 2 ^ -k for shave, set and groom, and half of
-- that for round and halfshave. True of normal readings; halfshave alone attains it. The table's percentages are roundings of these powers.
pub record RelativeBounds (F X : ℕ) : Type 0 where
  pub tail_relative : (c : TailMethod) (k mark turn w : ℕ) → Normal F X w → moved F X (tail c k) mark turn w * 2 ^ k < size_of F X w
  pub halfshave_relative : (k mark turn w : ℕ) → Normal F X w → moved F X (tail halfshave k) mark turn w * 2 ^ (k + 1) ≤ size_of F X w
  -- also where it clips, since only readings just below a power of two clip
  pub round_relative : (k mark turn w : ℕ) → Normal F X w → moved F X (round k) mark turn w * 2 ^ (k + 1) < size_of F X w
  -- 003, section 3 and Table 1: the quantum as a part of the reading, more than 2 ^ -(k + 1) and at most 2 ^ -k of it. Section 3 prints the two bounds the other way round.
  pub unit_part : (c : TailMethod) (k w : ℕ) → k ≤ F → Normal F X w → (unit_of F X (tail c k) w * 2 ^ k ≤ size_of F X w) × (size_of F X w < unit_of F X (tail c k) w * 2 ^ (k + 1))
