-- Document 02 (g) as a table: totals of small layers, lanes, exact totals with signs, and the questions, each with its order among its neighbours. 0 stands for an accepted
-- call. Each row is proved by computing it.
use mathlib.Core.Path.{◌≡◌, refl}
use mathlib.Core.List.{List, [], ◌∷◌}
use Prim.Native.Nat.{ℕ, ◌*◌, ◌^◌}
use lib.IntN.{ℤ, pos, neg_ℤ}
use Rattle.meaning.specs.Readings.{exponent_field, fraction, size, sign, magnitude, missing}
use Rattle.meaning.specs.Layers.{missing_code}
use Rattle.meaning.specs.Questions.{Outcome, refused, accepted, ask, all, above}
use Rattle.meaning.specs.Calls.{answering, stored_layer}
use Rattle.meaning.specs.Totals.{Totals, in_order_sum, one_present, if_present, totals_of, totals_questions, totals, lane_from, lane, signed_sum, signed_size, exact_total, readings_total}

-- the number that a call answers, and 0 where it is accepted
asked : ℕ → List ℕ → ℕ
unfolding totals_questions ask all missing_code
asked w cs = number (totals_questions w cs)
  where
    number : Outcome (Unit {0}) → ℕ
    number (refused n) = n
    number (accepted t) = 0

-- what a call answers
called : ℕ → List ℕ → Outcome Totals
unfolding totals totals_questions answering ask all in_order_sum one_present if_present totals_of missing_code
called w cs = totals w cs

abbrev both : ℕ → ℕ → Outcome Totals
both count sum = accepted (record { count = count; sum = sum })

-- the exact total of a layer's codes: its width, reference and E
of_codes : ℕ → ℕ → ℤ → List ℕ → ℤ
unfolding exact_total signed_size totals_of in_order_sum one_present if_present stored_layer above exponent_field fraction size sign magnitude missing_code
of_codes w r e cs = exact_total 23 8 (stored_layer w r e) (totals_of w cs)

-- and the total of readings; the mark is 7CF00000
of_readings : List ℕ → ℤ
unfolding readings_total signed_sum signed_size missing exponent_field fraction size sign magnitude
of_readings ws = readings_total 23 8 0x7CF00000 ws

-- so many halves, in least spacings
abbrev halves : ℕ → ℤ
halves n = pos (n * 2 ^ 148)

pub record TotalsCases : Type 0 where
  -- ---- "the number of present codes and the sum of those codes": P11's layer in three widths
  two_bits : called 2 (0 ∷ 0 ∷ 3 ∷ 2 ∷ []) ≡ both 3 2
  four_bits : called 4 (0 ∷ 2 ∷ 15 ∷ 8 ∷ []) ≡ both 3 10
  sixteen_bits : called 16 (0 ∷ 8192 ∷ 65535 ∷ 32768 ∷ []) ≡ both 3 40960
  -- nothing present; one code; and the missing code of a wider layer, which is refused in this one
  none_there : called 5 (31 ∷ 31 ∷ []) ≡ both 0 0
  one_there : called 2 (0 ∷ []) ≡ both 1 0
  others_code : (called 4 (3 ∷ []) ≡ both 1 3) × (called 2 (3 ∷ []) ≡ both 0 0) × (called 2 (15 ∷ []) ≡ refused 12)
  -- ---- "in four lanes, place mod 4": of six codes
  lane_0 : lane (λ c. c) 0 (1 ∷ 2 ∷ 3 ∷ 4 ∷ 5 ∷ 6 ∷ []) ≡ 6
  lane_1 : lane (λ c. c) 1 (1 ∷ 2 ∷ 3 ∷ 4 ∷ 5 ∷ 6 ∷ []) ≡ 8
  lane_2 : lane (λ c. c) 2 (1 ∷ 2 ∷ 3 ∷ 4 ∷ 5 ∷ 6 ∷ []) ≡ 3
  lane_3 : lane (λ c. c) 3 (1 ∷ 2 ∷ 3 ∷ 4 ∷ 5 ∷ 6 ∷ []) ≡ 4
  -- ---- "count times R plus sum times 2^E", with signs: 10, 10.5, missing, 12 is 32.5; by 2 bits 32, by 16 bits 32.5
  air : of_readings (0x41200000 ∷ 0x41280000 ∷ 0x7CF00000 ∷ 0x41400000 ∷ []) ≡ halves 65
  air_two : of_codes 2 0x41200000 (pos 0) (0 ∷ 0 ∷ 3 ∷ 2 ∷ []) ≡ halves 64
  air_sixteen : of_codes 16 0x41200000 (neg_ℤ (pos 14)) (0 ∷ 8192 ∷ 65535 ∷ 32768 ∷ []) ≡ halves 65
  -- -10, -10.5, missing, -12 is -32.5; by 2 bits -32
  frost : of_readings (0xC1200000 ∷ 0xC1280000 ∷ 0x7CF00000 ∷ 0xC1400000 ∷ []) ≡ neg_ℤ (halves 65)
  frost_two : of_codes 2 0xC1400000 (pos 0) (2 ∷ 2 ∷ 3 ∷ 0 ∷ []) ≡ neg_ℤ (halves 64)
  -- -1 and 1, and -0: nothing
  balanced : of_readings (0xBF800000 ∷ 0x3F800000 ∷ 0x80000000 ∷ []) ≡ pos 0
  -- ---- "3 (the number of codes stands for L)"
  no_codes : asked 4 [] ≡ 3
  -- "11": a width outside 2 to 16
  widths_low : (asked 1 (0 ∷ []) ≡ 11) × (asked 2 (0 ∷ []) ≡ 0)
  widths_high : (asked 16 (0 ∷ []) ≡ 0) × (asked 17 (0 ∷ []) ≡ 11) × (asked 258 (0 ∷ []) ≡ 11)
  -- "12": a code above the missing one, which is none itself
  codes_two : (asked 2 (3 ∷ []) ≡ 0) × (asked 2 (4 ∷ []) ≡ 12) × (asked 2 (0 ∷ 0 ∷ 0 ∷ 0 ∷ 4 ∷ []) ≡ 12)
  codes_sixteen : asked 16 (65535 ∷ []) ≡ 0
  -- "in that order"
  order_3_11 : asked 1 [] ≡ 3
  order_11_12 : (asked 1 (4 ∷ []) ≡ 11) × (asked 17 (65535 ∷ []) ≡ 11)

pub totals_cases : TotalsCases
unfolding asked called of_codes of_readings lane_from
totals_cases =
    record {
      two_bits = refl;
      four_bits = refl;
      sixteen_bits = refl;
      none_there = refl;
      one_there = refl;
      others_code = (refl, refl, refl);
      lane_0 = refl;
      lane_1 = refl;
      lane_2 = refl;
      lane_3 = refl;
      air = refl;
      air_two = refl;
      air_sixteen = refl;
      frost = refl;
      frost_two = refl;
      balanced = refl;
      no_codes = refl;
      widths_low = (refl, refl);
      widths_high = (refl, refl, refl);
      codes_two = (refl, refl, refl);
      codes_sixteen = refl;
      order_3_11 = refl;
      order_11_12 = (refl, refl);
    }
