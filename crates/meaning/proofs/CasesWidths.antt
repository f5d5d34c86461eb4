-- Document 02 (e) as a table: layers of narrow widths, and the questions on widths and codes, each with its order among its neighbours. 0 stands for an accepted call, and the
-- mark is 7CF00000. Each row is proved by computing it.
use mathlib.Core.Path.{◌≡◌, refl}
use mathlib.Core.List.{List, [], ◌∷◌}
use Prim.Native.Nat.{ℕ}
use lib.IntN.{ℤ, pos, neg_ℤ}
use Rattle.meaning.specs.Questions.{refused, accepted}
use Rattle.meaning.specs.Calls.{AfterPack, AfterUnpack, pack, unpack}
use Rattle.meaning.proofs.CasesRows.{after_all, packing_wide, unpacking_wide, packed_wide, layer, unpacked_wide, doubles}

abbrev minus : ℕ → ℤ
minus n = neg_ℤ (pos n)

abbrev nan : ℕ
nan = 0x7FF80000_00000000

-- 10, 10.5, missing, 12
abbrev air : List ℕ
air = 0x41200000 ∷ 0x41280000 ∷ 0x7CF00000 ∷ 0x41400000 ∷ []

-- minus the largest single and the largest
abbrev widest : List ℕ
widest = 0xFF7FFFFF ∷ 0x7F7FFFFF ∷ []

-- two layers of two readings in one call
two_layers : List ℕ → List ℕ → AfterPack
unfolding after_all
two_layers widths ws = pack 0x7CF00000 2 widths ws (7 ∷ 7 ∷ 7 ∷ 7 ∷ []) (8 ∷ 8 ∷ []) (pos 9 ∷ pos 9 ∷ [])

two_unpacked : List ℕ → List ℕ → AfterUnpack
unfolding after_all
two_unpacked widths cs = unpack 0x7FF00000_0000ABCD 2 widths cs (0x41200000 ∷ 0 ∷ []) (pos 0 ∷ minus 1 ∷ []) (7 ∷ 7 ∷ 7 ∷ 7 ∷ [])

pub record Widths : Type 0 where
  -- ---- P11's layer in other widths: the missing code is 2^w - 1, and the step as small as 2^w - 2 steps allow
  two_bits : packed_wide 2 air ≡ layer 0x41200000 (pos 0) (0 ∷ 0 ∷ 3 ∷ 2 ∷ [])
  four_bits : packed_wide 4 air ≡ layer 0x41200000 (minus 2) (0 ∷ 2 ∷ 15 ∷ 8 ∷ [])
  eight_bits : packed_wide 8 air ≡ layer 0x41200000 (minus 6) (0 ∷ 32 ∷ 255 ∷ 128 ∷ [])
  sixteen_bits : packed_wide 16 air ≡ layer 0x41200000 (minus 14) (0 ∷ 8192 ∷ 65535 ∷ 32768 ∷ [])
  -- ---- the widest layer: E is 130 - w, up to 128
  widest_two : packed_wide 2 widest ≡ layer 0xFF7FFFFF (pos 128) (0 ∷ 2 ∷ [])
  widest_three : packed_wide 3 widest ≡ layer 0xFF7FFFFF (pos 127) (0 ∷ 4 ∷ [])
  widest_fifteen : packed_wide 15 widest ≡ layer 0xFF7FFFFF (pos 115) (0 ∷ 16384 ∷ [])
  widest_sixteen : packed_wide 16 widest ≡ layer 0xFF7FFFFF (pos 114) (0 ∷ 32768 ∷ [])
  -- ---- P12's layer
  least_eight : packed_wide 8 (0x00000000 ∷ 0x0000FFFE ∷ []) ≡ layer 0 (minus 140) (0 ∷ 128 ∷ [])
  least_fifteen : packed_wide 15 (0x00000000 ∷ 0x0000FFFE ∷ []) ≡ layer 0 (minus 147) (0 ∷ 16384 ∷ [])
  -- ---- a span of just 2^w - 2 steps, and one least spacing more; of 2 bits these are 2 steps
  two_steps : packed_wide 2 (0 ∷ 0x00000002 ∷ []) ≡ layer 0 (minus 149) (0 ∷ 2 ∷ [])
  two_steps_more : packed_wide 2 (0 ∷ 0x00000003 ∷ []) ≡ layer 0 (minus 148) (0 ∷ 2 ∷ [])
  fourteen_steps : packed_wide 4 (0 ∷ 0x41600000 ∷ []) ≡ layer 0 (pos 0) (0 ∷ 14 ∷ [])
  fourteen_steps_more : packed_wide 4 (0x80000001 ∷ 0x41600000 ∷ []) ≡ layer 0x80000001 (pos 1) (0 ∷ 7 ∷ [])
  -- ---- one value, and none: the least exponent in every width
  flat : packed_wide 2 (0x40490FDB ∷ 0x7CF00000 ∷ 0x40490FDB ∷ []) ≡ layer 0x40490FDB (minus 149) (0 ∷ 3 ∷ 0 ∷ [])
  nothing : packed_wide 5 (0x7CF00000 ∷ 0x7CF00000 ∷ []) ≡ layer 0 (minus 149) (31 ∷ 31 ∷ [])
  -- ---- each layer has its own width
  each_own : two_layers (2 ∷ 4 ∷ []) (0x41200000 ∷ 0x41400000 ∷ 0x41200000 ∷ 0x7CF00000 ∷ [])
      ≡ record { answer = accepted tt; codes = 0 ∷ 2 ∷ 0 ∷ 15 ∷ []; references = 0x41200000 ∷ 0x41200000 ∷ []; exponents = pos 0 ∷ minus 149 ∷ [] }
  each_missing : two_unpacked (2 ∷ 4 ∷ []) (3 ∷ 2 ∷ 3 ∷ 15 ∷ []) ≡ doubles (0x7FF00000_0000ABCD ∷ 0x40280000_00000000 ∷ 0x3FF80000_00000000 ∷ 0x7FF00000_0000ABCD ∷ [])
  -- ---- 11 and 12 leave the arrays as they were
  pack_refused : two_layers (2 ∷ 17 ∷ []) (0 ∷ 0 ∷ 0 ∷ 0 ∷ []) ≡ record { answer = refused 11; codes = 7 ∷ 7 ∷ 7 ∷ 7 ∷ []; references = 8 ∷ 8 ∷ []; exponents = pos 9 ∷ pos 9 ∷ [] }
  unpack_refused : two_unpacked (2 ∷ 4 ∷ []) (0 ∷ 0 ∷ 0 ∷ 16 ∷ []) ≡ record { answer = refused 12; readings = 7 ∷ 7 ∷ 7 ∷ 7 ∷ [] }
  -- ---- w = 16 with the exponents that are new: 65,534 times 2^128, a double far above every single
  unpack_high : unpacked_wide 16 0 (pos 128) (65534 ∷ []) ≡ doubles (0x48EFFFC0_00000000 ∷ [])
  -- "Refused: 11, if a width is outside 2 to 16"
  widths_low : (packing_wide (1 ∷ []) 1 (0 ∷ []) 1 1 1 ≡ 11) × (packing_wide (2 ∷ []) 1 (0 ∷ []) 1 1 1 ≡ 0)
  widths_high : (packing_wide (16 ∷ []) 1 (0 ∷ []) 1 1 1 ≡ 0) × (packing_wide (17 ∷ []) 1 (0 ∷ []) 1 1 1 ≡ 11)
  widths_far : (packing_wide (0 ∷ []) 1 (0 ∷ []) 1 1 1 ≡ 11) × (packing_wide (258 ∷ []) 1 (0 ∷ []) 1 1 1 ≡ 11) × (packing_wide (4294967295 ∷ []) 1 (0 ∷ []) 1 1 1 ≡ 11)
  widths_last : packing_wide (2 ∷ 16 ∷ 1 ∷ []) 1 (0 ∷ 0 ∷ 0 ∷ []) 3 3 3 ≡ 11
  -- "given .. in an array whose length is asked for under 5", "11 .. asked after 5", and before 6
  widths_length : (packing_wide [] 1 (0 ∷ []) 1 1 1 ≡ 5) × (packing_wide (2 ∷ 2 ∷ []) 1 (0 ∷ []) 1 1 1 ≡ 5)
  pack_5_11 : packing_wide (1 ∷ []) 1 (0 ∷ []) 0 1 1 ≡ 5
  pack_11_6 : packing_wide (1 ∷ []) 1 (0x7F800000 ∷ []) 1 1 1 ≡ 11
  unpack_widths : (unpacking_wide [] nan 1 (0 ∷ []) (0 ∷ []) (pos 0 ∷ []) 1 ≡ 5) × (unpacking_wide (17 ∷ []) nan 1 (0 ∷ []) (0 ∷ []) (pos 0 ∷ []) 1 ≡ 11)
  unpack_5_11 : unpacking_wide (1 ∷ []) nan 1 (0 ∷ []) (0 ∷ []) (pos 0 ∷ []) 0 ≡ 5
  unpack_11_7 : unpacking_wide (1 ∷ []) nan 1 (0 ∷ []) (0x7F800000 ∷ []) (pos 0 ∷ []) 1 ≡ 11
  -- "12, if a code to be unpacked is above its layer's missing code, asked after 8"
  codes_two : (unpacking_wide (2 ∷ []) nan 1 (3 ∷ []) (0 ∷ []) (pos 0 ∷ []) 1 ≡ 0) × (unpacking_wide (2 ∷ []) nan 1 (4 ∷ []) (0 ∷ []) (pos 0 ∷ []) 1 ≡ 12)
  codes_sixteen : unpacking_wide (16 ∷ []) nan 1 (65535 ∷ []) (0 ∷ []) (pos 0 ∷ []) 1 ≡ 0
  codes_last : unpacking_wide (16 ∷ 15 ∷ []) nan 1 (65535 ∷ 32768 ∷ []) (0 ∷ 0 ∷ []) (pos 0 ∷ pos 0 ∷ []) 2 ≡ 12
  unpack_8_12 : unpacking_wide (2 ∷ []) 0 1 (4 ∷ []) (0 ∷ []) (pos 0 ∷ []) 1 ≡ 8
  unpack_7_12 : unpacking_wide (2 ∷ []) nan 1 (4 ∷ []) (0 ∷ []) (pos 129 ∷ []) 1 ≡ 7
  unpack_11_12 : unpacking_wide (17 ∷ []) nan 1 (4 ∷ []) (0 ∷ []) (pos 0 ∷ []) 1 ≡ 11

pub widths : Widths
unfolding packing_wide unpacking_wide packed_wide unpacked_wide two_layers two_unpacked
widths =
    record {
      two_bits = refl;
      four_bits = refl;
      eight_bits = refl;
      sixteen_bits = refl;
      widest_two = refl;
      widest_three = refl;
      widest_fifteen = refl;
      widest_sixteen = refl;
      least_eight = refl;
      least_fifteen = refl;
      two_steps = refl;
      two_steps_more = refl;
      fourteen_steps = refl;
      fourteen_steps_more = refl;
      flat = refl;
      nothing = refl;
      each_own = refl;
      each_missing = refl;
      pack_refused = refl;
      unpack_refused = refl;
      unpack_high = refl;
      widths_low = (refl, refl);
      widths_high = (refl, refl);
      widths_far = (refl, refl, refl);
      widths_last = refl;
      widths_length = (refl, refl);
      pack_5_11 = refl;
      pack_11_6 = refl;
      unpack_widths = (refl, refl);
      unpack_5_11 = refl;
      unpack_11_7 = refl;
      codes_two = (refl, refl);
      codes_sixteen = refl;
      codes_last = refl;
      unpack_8_12 = refl;
      unpack_7_12 = refl;
      unpack_11_12 = refl;
    }
