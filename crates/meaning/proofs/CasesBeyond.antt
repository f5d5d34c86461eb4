-- Why demand 3 says no more than it does: closed cases, computed, in which each stronger claim fails. Positions, distances and units are in least spacings.
use mathlib.Core.Path.{◌≡◌, refl}
use mathlib.Core.Bool.{Bool, true, false}
use mathlib.Core.List.{List, [], ◌∷◌}
use Prim.Native.Nat.{ℕ, ◌+◌, ◌*◌, ◌^◌, ◌≤◌, ◌<◌}
use native.Mathlib.Omega.{arith}
use lib.Dec.{ltb, lit≤}
use lib.IntN.{pos}
use Rattle.meaning.specs.Readings.{magnitude, position, distance}
use Rattle.meaning.specs.Methods.{unit}
use Rattle.meaning.specs.Layers.{code_meaning}
use Rattle.meaning.specs.Calls.{Call, accepted_calls, largest_unit, stored_layer}
use Rattle.meaning.specs.Claim.{rounds, changes_tail, one_kind}
use Rattle.meaning.proofs.CasesRows.{shave, set, round, absolute, after_all, after, packed, packed_wide, layer}

-- how far a list of calls moves a single, and the largest unit that any of them has at it
moved : List Call → ℕ → ℕ
unfolding after distance
moved cs w = distance (position 23 8 w) (position 23 8 (after cs w))

pub largest : List Call → ℕ → ℕ
unfolding after_all largest_unit accepted_calls unit
largest cs w = largest_unit 23 (accepted_calls 23 8 cs) (magnitude 23 8 w)

-- is the list of one kind, as demand 3 asks?
alike : List Call → Bool
unfolding one_kind rounds changes_tail after_all accepted_calls
alike cs = one_kind (accepted_calls 23 8 cs)

pub record Beyond : Type 0 where
  -- The kinds mixed: set 7 and then round 7 moves 1 by exactly one unit. The list is of no one kind, and those of demand 3 are.
  mixed : moved (set 7 ∷ round 7 ∷ []) 0x3F800000 ≡ largest (set 7 ∷ round 7 ∷ []) 0x3F800000
  mixed_kinds : alike (set 7 ∷ round 7 ∷ []) ≡ false
  one_kind_lem : (alike (round 8 ∷ absolute 0 ∷ []) ≡ true) × (alike (set 7 ∷ shave 9 ∷ []) ≡ true)
  -- Half a unit is lost by two roundings (P10), where a rounding clips (P6), and by one shave.
  half_twice : ltb (largest (round 8 ∷ round 7 ∷ []) 0x3F817F80) (2 * moved (round 8 ∷ round 7 ∷ []) 0x3F817F80) ≡ true
  half_clipped : ltb (largest (round 7 ∷ []) 0x7F7FFFFF) (2 * moved (round 7 ∷ []) 0x7F7FFFFF) ≡ true
  half_shaved : ltb (largest (shave 7 ∷ []) 0x3F80FFFF) (2 * moved (shave 7 ∷ []) 0x3F80FFFF) ≡ true
  -- 2.75 by steps of 1 and then of 2 goes to 3 and then 4.
  half_absolute : ltb (largest (absolute 0 ∷ absolute 1 ∷ []) 0x40300000) (2 * moved (absolute 0 ∷ absolute 1 ∷ []) 0x40300000) ≡ true
  -- The smallest unit of the list, and not the largest: round 20 has a unit of 8 spacings at pi, and round 7 before it moves pi by 4059 spacings.
  smallest : ltb (largest (round 20 ∷ []) 0x40490FDB) (moved (round 7 ∷ round 20 ∷ []) 0x40490FDB) ≡ true
  largest_of_two : (largest (round 7 ∷ round 20 ∷ []) 0x40490FDB ≡ 2 ^ 143) × (largest (round 20 ∷ round 7 ∷ []) 0x40490FDB ≡ 2 ^ 143)
  -- Packing's half step dropped: 0.5 beside 0 and 65,534 gets the code 0 with the step 1, and lies half a step away; its own unit is far smaller.
  packs : packed (0x00000000 ∷ 0x477FFE00 ∷ 0x3F000000 ∷ []) ≡ layer 0x00000000 (pos 0) (0 ∷ 65534 ∷ 0 ∷ [])
  half_step : ltb (largest (round 23 ∷ []) 0x3F000000) (distance (position 23 8 0x3F000000) (code_meaning 23 8 (stored_layer 16 0x00000000 (pos 0)) 0)) ≡ true

pub beyond : Beyond
unfolding moved largest alike packed_wide distance position code_meaning stored_layer
beyond =
    record {
      mixed = refl;
      mixed_kinds = refl;
      one_kind_lem = (refl, refl);
      half_twice = refl;
      half_clipped = refl;
      half_shaved = refl;
      half_absolute = refl;
      smallest = refl;
      largest_of_two = (refl, refl);
      packs = refl;
      half_step = refl;
    }

-- 1.0 and 2.0 flattened to one value, whatever it is, break the distance of round 7 at one of them.
apart : (a b p u v : ℕ) → u + v ≤ distance a b → distance a p < u → ¬ (distance b p < v)
unfolding distance
apart a b p u v h k l = omega arith

far : largest (round 7 ∷ []) 0x3F800000 + largest (round 7 ∷ []) 0x40000000 ≤ distance (position 23 8 0x3F800000) (position 23 8 0x40000000)
unfolding largest distance
far = lit≤ tt

pub flattened : (v : ℕ) → distance (position 23 8 0x3F800000) v < largest (round 7 ∷ []) 0x3F800000 → ¬ (distance (position 23 8 0x40000000) v < largest (round 7 ∷ []) 0x40000000)
flattened v = apart (position 23 8 0x3F800000) (position 23 8 0x40000000) v (largest (round 7 ∷ []) 0x3F800000) (largest (round 7 ∷ []) 0x40000000) far
