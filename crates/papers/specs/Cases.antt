-- Single readings that attain a bound, and counterexamples to claims as they are printed. Each is computed. The mark is 7CF00000 where none is named.
use Rattle.std.specs.Prelude.{◌≡◌, true, [], ◌∷◌, map, ℕ, ◌+◌, ◌-◌, ◌*◌, ◌^◌, ◌<◌}
use Rattle.meaning.specs.Readings.{magnitude, position, distance}
use Rattle.meaning.specs.Methods.{Method, tail, shave, set, groom, halfshave, round, absolute, digits, decade, digit_step, clips, trimmed, trim_from}
use Rattle.meaning.specs.Layers.{Layer}
use Rattle.meaning.specs.Calls.{largest_unit}
use Rattle.meaning.specs.Claim.{Coded}
use Rattle.papers.specs.Moved.{moved, size_of, spacing_of, unit_of}
use Rattle.papers.specs.Listings.{masked_half, added_masked}
use Rattle.papers.specs.LayerBounds.{layer, meaning_at}
use Rattle.papers.specs.Unpacked.{double, apart}

-- by how many least spacings a call moves a single at a turn; the size, the spacing and the unit there
abbrev by : Method → ℕ → ℕ → ℕ
by x turn w = moved 23 8 x 0x7CF00000 turn w

abbrev size_at : ℕ → ℕ
size_at w = size_of 23 8 w

abbrev spacing_at : ℕ → ℕ
spacing_at w = spacing_of 23 8 w

abbrev unit_at : Method → ℕ → ℕ
unit_at x w = unit_of 23 8 x w

-- what a call leaves of it at turn 0
abbrev left : Method → ℕ → ℕ
left x w = trimmed 23 8 x 0x7CF00000 0 w

-- The bounds are attained.
pub record Attained : Type 0 where
  -- 7 keep bits: a tail of ones shaved, and a tail of zeros set, move by a unit less one spacing; groom does both, at turns 0 and 1
  pub shave_whole : by (tail shave 7) 0 0x3F80FFFF + spacing_at 0x3F80FFFF ≡ unit_at (tail shave 7) 0x3F80FFFF
  pub set_whole : by (tail set 7) 0 0x3F800000 + spacing_at 0x3F800000 ≡ unit_at (tail set 7) 0x3F800000
  pub groom_whole :
      (by (tail groom 7) 0 0x3F80FFFF + spacing_at 0x3F80FFFF ≡ unit_at (tail groom 7) 0x3F80FFFF)
      × (by (tail groom 7) 1 0x3F800000 + spacing_at 0x3F800000 ≡ unit_at (tail groom 7) 0x3F800000)
  -- 1 halfshaved, and the tie 3F808000 rounded, move by half a unit
  pub halfshave_half : 2 * by (tail halfshave 7) 0 0x3F800000 ≡ unit_at (tail halfshave 7) 0x3F800000
  pub round_half : 2 * by (round 7) 0 0x3F808000 ≡ unit_at (round 7) 0x3F808000
  -- 0.5 rounded to whole numbers, p = 0 (P7), moves by half of them
  pub absolute_half : 2 * by (absolute 149) 0 0x3F000000 ≡ unit_at (absolute 149) 0x3F000000
  -- where they clip, half is passed: the largest single rounded to 7 keep bits (P6), and to multiples of 2 ^ 127
  pub round_clipped :
      (clips 23 8 (round 7) (magnitude 23 8 0x7F7FFFFF) ≡ true) × (by (round 7) 0 0x7F7FFFFF + spacing_at 0x7F7FFFFF ≡ unit_at (round 7) 0x7F7FFFFF)
  pub absolute_clipped :
      (clips 23 8 (absolute 276) (magnitude 23 8 0x7F7FFFFF) ≡ true) × (by (absolute 276) 0 0x7F7FFFFF + spacing_at 0x7F7FFFFF ≡ unit_at (absolute 276) 0x7F7FFFFF)
  -- 1 halfshaved moves by 2 ^ -8 of its size
  pub halfshave_relative : by (tail halfshave 7) 0 0x3F800000 * 2 ^ 8 ≡ size_at 0x3F800000
  -- 3 to one digit, where q is 1, moves by half of it (002, equation 2)
  pub digits_half : 2 * by (digits 1) 0 0x40400000 ≡ digit_step 23 8 1 0x40400000
  -- in the layer 00000000, 0000FFFF of width 16 (P12) the larger reading's code lies half a step from it; so it does in 00000000, 00000003 of width 2
  pub pack_half :
      2 * distance (position 23 8 0x0000FFFF) (meaning_at 0x7CF00000 16 (0x00000000 ∷ 0x0000FFFF ∷ []) 1) ≡ 2 ^ (layer 0x7CF00000 16 (0x00000000 ∷ 0x0000FFFF ∷ [])).exponent
  pub pack_half_narrow :
      2 * distance (position 23 8 0x00000003) (meaning_at 0x7CF00000 2 (0x00000000 ∷ 0x00000003 ∷ []) 1) ≡ 2 ^ (layer 0x7CF00000 2 (0x00000000 ∷ 0x00000003 ∷ [])).exponent

-- With the unit at the figure left, with 7 keep bits
pub record LeftCases : Type 0 where
  -- it may be larger than at the reading: 3FFFFFFF, just below 2, is rounded to 2
  pub round_grows : (left (round 7) 0x3FFFFFFF ≡ 0x40000000) × (unit_at (round 7) 0x40000000 ≡ 2 * unit_at (round 7) 0x3FFFFFFF)
  -- half of it fails for a tail of ones shaved, and for the largest single, where round clips (P6)
  pub shave_more : unit_at (tail shave 7) (left (tail shave 7) 0x3F80FFFF) < 2 * by (tail shave 7) 0 0x3F80FFFF
  pub clipped_more : unit_at (round 7) (left (round 7) 0x7F7FFFFF) < 2 * by (round 7) 0 0x7F7FFFFF

-- The papers' tables of pi, in the rows that a method and setting can give, by their bits: some printed decimals are not the value of their bits.
pub record PiTables : Type 0 where
  -- 001, Table 1: Decimal Rounding to 2 places (the scale 128), Bit Shaving and Bit Setting to 3 digits
  pub table_1_of_001 : left (absolute (149 - 7)) 0x40490FDB ∷ left (tail shave 11) 0x40490FDB ∷ left (tail set 11) 0x40490FDB ∷ [] ≡ 0x40490000 ∷ 0x40490000 ∷ 0x40490FFF ∷ []
  -- 001, Table 2: Bit Grooming to 8, 7 .. 1 digits. The row of 7 has 22 keep bits, where section 2.3's formula would keep all.
  pub table_2_of_001 :
      map (λ k. left (tail groom k) 0x40490FDB) (23 ∷ 22 ∷ 21 ∷ 18 ∷ 15 ∷ 11 ∷ 8 ∷ 5 ∷ [])
      ≡ 0x40490FDB ∷ 0x40490FDA ∷ 0x40490FD8 ∷ 0x40490FC0 ∷ 0x40490F00 ∷ 0x40490000 ∷ 0x40490000 ∷ 0x40480000 ∷ []
  -- 002, Table 1: 15 and 12 bits preserved
  pub table_1_of_002 : map (λ k. left (tail shave k) 0x40490FDB) (15 ∷ 12 ∷ []) ≡ 0x40490F00 ∷ 0x40490800 ∷ []
  -- 002, Table 2: Digit Rounding to 7 .. 1 digits
  pub table_2_of_002 :
      map (λ n. left (digits n) 0x40490FDB) (7 ∷ 6 ∷ 5 ∷ 4 ∷ 3 ∷ 2 ∷ 1 ∷ [])
      ≡ 0x40490FDA ∷ 0x40490FD0 ∷ 0x40490F80 ∷ 0x40490800 ∷ 0x40494000 ∷ 0x404A0000 ∷ 0x40600000 ∷ []

-- 003, Table 1, fails below the normal readings: with 7 keep bits shave takes the least subnormal to zero, and set takes it to
-- 65,535 times its size; halfshave, and round next to a tie, move by far more than a 256th.
pub record Subnormal : Type 0 where
  pub shave_beyond : size_at 0x00000001 < by (tail shave 7) 0 0x00000001 * 2 ^ 7
  pub set_beyond : size_at 0x00000001 < by (tail set 7) 0 0x00000001 * 2 ^ 7
  pub halfshave_beyond : size_at 0x00000001 < by (tail halfshave 7) 0 0x00000001 * 2 ^ 8
  pub round_beyond : size_at 0x00008001 < by (round 7) 0 0x00008001 * 2 ^ 8

-- 003, Table 1, prints 3.1 % where 1 moves by 3.125 % and by nearly as much: 4 keep bits halfshaved, and 5 keep bits set.
pub record Printed : Type 0 where
  pub halfshave_more : 31 * size_at 0x3F800000 < 1000 * by (tail halfshave 4) 0 0x3F800000
  pub set_more : 31 * size_at 0x3F800000 < 1000 * by (tail set 5) 0 0x3F800000

-- 001's promises of decimal digits and places, where they fail
pub record DecimalBeyond : Type 0 where
  -- one digit of the least subnormal, with the 5 keep bits of section 2.3: shaved to zero, it is off by more than half a unit of its only digit
  pub subnormal_digit : 10 ^ decade 23 8 0x00000001 * 2 ^ 149 < 2 * by (tail shave 5) 0 0x00000001 * 10 ^ (149 + 1)
  -- one digit with 4 keep bits, one less than section 2.3's: 8703.999 is shaved to 8192, and half of a thousand is 500
  pub bit_less : 500 * 2 ^ 149 < by (tail shave 4) 0 0x4607FFFF
  -- Decimal Rounding to hundreds with section 2.3's scale of 1/128, so with the unit 2 ^ 7: 64 goes to 0, and 50 is half of a hundred
  pub hundreds : 50 * 2 ^ 149 < by (absolute (149 + 7)) 0 0x42800000

-- 002 says nothing of a second call; it can change the reading again, and go on for ever.
pub record DigitsAgain : Type 0 where
  -- P9: 0.1 to one digit is 3DC00000, which to one digit is 3DC80000
  pub once_more : (left (digits 1) 0x3DCCCCCD ≡ 0x3DC00000) × (left (digits 1) 0x3DC00000 ≡ 0x3DC80000)
  -- 100 to one digit is 96, and 96 to one digit is 100
  pub two_cycle : (left (digits 1) 0x42C80000 ≡ 0x42C00000) × (left (digits 1) 0x42C00000 ≡ 0x42C80000)

-- 002's equation 4 doesn't hold with the decade of what is left: 127 to one digit is 96, 31 away, and half of ten is 5.
pub record DigitsLeft : Type 0 where
  pub left_decade : (left (digits 1) 0x42FE0000 ≡ 0x42C00000) × (10 ^ decade 23 8 0x42C00000 * 2 ^ 149 < 2 * by (digits 1) 0 0x42FE0000 * 10 ^ (149 + 1))
  -- the lowest one bit is attained: 3 to one digit is 3.5, so half a unit away
  pub bit_attained : (left (digits 1) 0x40400000 ≡ 0x40600000) × (2 * by (digits 1) 0 0x40400000 ≡ 2 ^ 149)

-- 001, section 4.1, doesn't hold of halfshave, which it doesn't name: 1 halfshaved with 7 keep bits changes again with 8.
pub record HalfshaveSharper : Type 0 where
  pub one_sharper : (left (tail halfshave 7) 0x3F800000 ≡ 0x3F808000) × (left (tail halfshave 8) 0x3F808000 ≡ 0x3F80C000)

-- 003, section 3: halfshaving what groom left is not halfshaving the original, with 7 keep bits at turn 0
pub record HalfshaveGroomed : Type 0 where
  -- where grooming made zero of 00000001, which halfshave leaves
  pub zero_made : (left (tail halfshave 7) (left (tail groom 7) 0x00000001) ≡ 0x00000000) × (left (tail halfshave 7) 0x00000001 ≡ 0x00008000)
  -- and where the mark is 40498000, which is pi halfshaved: neither is halfshaved, and grooming changed pi
  pub mark_made :
      (trimmed 23 8 (tail halfshave 7) 0x40498000 0 (trimmed 23 8 (tail groom 7) 0x40498000 0 0x40490FDB) ≡ 0x40490000)
      × (trimmed 23 8 (tail halfshave 7) 0x40498000 0 0x40490FDB ≡ 0x40490FDB)

-- 001 and 003 groom by place, which shaves both readings of a station with a gap between them, or an infinity; document 02 (b) sets the second
pub record GroomedByTurns : Type 0 where
  pub gap_between : trim_from 23 8 (tail groom 7) 0x7CF00000 0 (0x40490FDB ∷ 0x7CF00000 ∷ 0x40490FDB ∷ []) ≡ 0x40490000 ∷ 0x7CF00000 ∷ 0x4049FFFF ∷ []
  pub infinity_between : trim_from 23 8 (tail groom 7) 0x7CF00000 0 (0x40490FDB ∷ 0xFF800000 ∷ 0x40490FDB ∷ []) ≡ 0x40490000 ∷ 0xFF800000 ∷ 0x4049FFFF ∷ []

-- 003, appendix A, at what it leaves out: A2 makes a tiny reading of zero, and A4 an infinity of the largest single and -0 of a NaN
pub record ListingsBeyond : Type 0 where
  pub A2_zero : masked_half 16 0x00000000 ≡ 0x00008000
  pub A4_largest : added_masked 16 0x7F7FFFFF ≡ 0x7F800000
  pub A4_nan : added_masked 16 0x7FFFFFFF ≡ 0x80000000

-- The largest value of a layer may lie beyond it, by at most half a step: of 003's humidities, section 6, from 0 to 0.99999535, the larger is packed as 1, in
-- 16 bits and in 2.
pub record LayerTop : Type 0 where
  pub top_beyond : meaning_at 0x7CF00000 16 (0x00000000 ∷ 0x3F7FFFB2 ∷ []) 1 ≡ position 23 8 0x3F800000
  pub top_beyond_narrow : meaning_at 0x7CF00000 2 (0x00000000 ∷ 0x3F7FFFB2 ∷ []) 1 ≡ position 23 8 0x3F800000

-- `sent_near` in Unpacked.antt fails without the double's spacing. R is 00000001, E is -89 and the code 1: the double is 2 ^ -89, and R is lost. 13400001, one spacing above
-- 2 ^ -89 and half a step, is such a reading for a list with the unit of one spacing.
abbrev tiny : Layer
tiny = record { width = 16; reference = 0x00000001; exponent = 60 }

pub record DoubleBeyond : Type 0 where
  pub still_coded : Coded 0x7CF00000 (round 23 ∷ []) 0x13400001 tiny 1
  pub double_beyond : 2 * apart 0x13400001 (double tiny 1) ≡ (2 * largest_unit 23 (round 23 ∷ []) (magnitude 23 8 0x13400001) + 2 ^ tiny.exponent) * 2 ^ 925
