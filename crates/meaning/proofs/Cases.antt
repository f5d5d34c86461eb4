-- Document 01's "Marked cases", P1 to P12, as one table about the definitions, in its order. Each row is proved by computing it.
-- A single's pattern is its 8 digits after 0x. `after (shave 7 ∷ []) w` is what the list of calls leaves of the reading w; the mark is 7CF00000.
use mathlib.Core.Path.{◌≡◌, refl}
use mathlib.Core.List.{[], ◌∷◌}
use Prim.Native.Nat.{ℕ}
use lib.IntN.{pos, neg_ℤ}
use Rattle.meaning.proofs.CasesRows.{shave, set, halfshave, round, absolute, digits, after, answer, counting, packed, packed_wide, layer}

abbrev pi : ℕ
pi = 0x40490FDB

pub record Marked : Type 0 where
  -- P1 shave 7 of pi: 40490000.
  P1 : after (shave 7 ∷ []) pi ≡ 0x40490000
  -- P2 set 7: 4049FFFF.
  P2 : after (set 7 ∷ []) pi ≡ 0x4049FFFF
  -- P3 halfshave 7: 40498000.
  P3 : after (halfshave 7 ∷ []) pi ≡ 0x40498000
  -- P4 round 0: 40800000.
  P4 : after (round 0 ∷ []) pi ≡ 0x40800000
  -- P5 round 0 of 3FC00000 and of 40400000: both 40000000 (ties).
  P5 : (after (round 0 ∷ []) 0x3FC00000 ≡ 0x40000000) × (after (round 0 ∷ []) 0x40400000 ≡ 0x40000000)
  -- P6 round 7 of 7F7FFFFF: 7F7F0000, clipped.
  P6 : (after (round 7 ∷ []) 0x7F7FFFFF ≡ 0x7F7F0000) × (answer 23 8 0x7CF00000 (round 7) (0x7F7FFFFF ∷ []) ≡ counting 1 0 1 0 0 1)
  -- P7 absolute 0 of 3F000000, BF000000, 3FC00000: 00000000, 80000000, 40000000.
  P7 : (after (absolute 0 ∷ []) 0x3F000000 ≡ 0x00000000) × (after (absolute 0 ∷ []) 0xBF000000 ≡ 0x80000000) × (after (absolute 0 ∷ []) 0x3FC00000 ≡ 0x40000000)
  -- P8 digits 1 and 3 of pi: 40600000, 40494000 (document 002's table).
  P8 : (after (digits 1 ∷ []) pi ≡ 0x40600000) × (after (digits 3 ∷ []) pi ≡ 0x40494000)
  -- P9 digits 1 of 3DCCCCCD: 3DC00000, and once more: 3DC80000.
  P9 : (after (digits 1 ∷ []) 0x3DCCCCCD ≡ 0x3DC00000) × (after (digits 1 ∷ digits 1 ∷ []) 0x3DCCCCCD ≡ 0x3DC80000)
  -- P10 round 8 then round 7 of 3F817F80: 3F820000, but round 7 alone: 3F810000.
  P10 : (after (round 8 ∷ round 7 ∷ []) 0x3F817F80 ≡ 0x3F820000) × (after (round 7 ∷ []) 0x3F817F80 ≡ 0x3F810000)
  -- P11 layer 10, 10.5, missing, 12: R 10, E -14, codes 0, 8192, 65535, 32768.
  P11 : packed (0x41200000 ∷ 0x41280000 ∷ 0x7CF00000 ∷ 0x41400000 ∷ []) ≡ layer 0x41200000 (neg_ℤ (pos 14)) (0 ∷ 8192 ∷ 65535 ∷ 32768 ∷ [])
  -- P12 layer 00000000, 0000FFFE: E -149, code 65534; with 0000FFFF: E -148, code 32768.
  P12 :
      (packed (0x00000000 ∷ 0x0000FFFE ∷ []) ≡ layer 0x00000000 (neg_ℤ (pos 149)) (0 ∷ 65534 ∷ []))
      × (packed (0x00000000 ∷ 0x0000FFFF ∷ []) ≡ layer 0x00000000 (neg_ℤ (pos 148)) (0 ∷ 32768 ∷ []))

pub marked_cases : Marked
unfolding after answer packed_wide
marked_cases =
    record {
      P1 = refl;
      P2 = refl;
      P3 = refl;
      P4 = refl;
      P5 = (refl, refl);
      P6 = (refl, refl);
      P7 = (refl, refl, refl);
      P8 = (refl, refl);
      P9 = (refl, refl);
      P10 = (refl, refl);
      P11 = refl;
      P12 = (refl, refl);
    }
