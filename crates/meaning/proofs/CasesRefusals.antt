-- The questions of document 01 as a table: each number by a smallest input, the order of each two neighbours by an input that both would refuse, and each
-- range at both ends and one beyond. 0 stands for an accepted call. Layers have the width 16; other widths, and the questions on them, are in CasesWidths.antt. Each
-- row is proved by computing it.
use mathlib.Core.Path.{◌≡◌, refl}
use mathlib.Core.List.{[], ◌∷◌}
use Prim.Native.Nat.{ℕ}
use lib.IntN.{ℤ, pos, neg_ℤ}
use Rattle.meaning.proofs.CasesRows.{settings, packing, packing_wide, unpacking, unpacking_wide}

abbrev minus : ℕ → ℤ
minus n = neg_ℤ (pos n)

-- +infinity as a single; a NaN and +infinity as doubles
abbrev infinite : ℕ
infinite = 0x7F800000

abbrev nan : ℕ
nan = 0x7FF80000_00000000

abbrev infinite_double : ℕ
infinite_double = 0x7FF00000_00000000

pub record Refusals : Type 0 where
  -- Trim: is the method 0 to 6? No: 1. An unknown method with setting 9999 is 1.
  known : settings 23 8 6 (pos 1 ∷ []) ≡ 0 ∷ []
  unknown : settings 23 8 7 (pos 0 ∷ pos 9999 ∷ []) ≡ 1 ∷ 1 ∷ []
  -- Trim: is the setting in range? No: 2. The keep bits k
  shave : settings 23 8 0 (minus 1 ∷ pos 0 ∷ pos 23 ∷ pos 24 ∷ []) ≡ 2 ∷ 0 ∷ 0 ∷ 2 ∷ []
  set : settings 23 8 1 (minus 1 ∷ pos 0 ∷ pos 23 ∷ pos 24 ∷ []) ≡ 2 ∷ 0 ∷ 0 ∷ 2 ∷ []
  groom : settings 23 8 2 (minus 1 ∷ pos 0 ∷ pos 23 ∷ pos 24 ∷ []) ≡ 2 ∷ 0 ∷ 0 ∷ 2 ∷ []
  halfshave : settings 23 8 3 (minus 1 ∷ pos 0 ∷ pos 23 ∷ pos 24 ∷ []) ≡ 2 ∷ 0 ∷ 0 ∷ 2 ∷ []
  round : settings 23 8 4 (minus 1 ∷ pos 0 ∷ pos 23 ∷ pos 24 ∷ []) ≡ 2 ∷ 0 ∷ 0 ∷ 2 ∷ []
  round_double : settings 52 11 4 (minus 1 ∷ pos 0 ∷ pos 52 ∷ pos 53 ∷ []) ≡ 2 ∷ 0 ∷ 0 ∷ 2 ∷ []
  -- p
  absolute : settings 23 8 5 (minus 150 ∷ minus 149 ∷ pos 127 ∷ pos 128 ∷ []) ≡ 2 ∷ 0 ∷ 0 ∷ 2 ∷ []
  absolute_double : settings 52 11 5 (minus 1075 ∷ minus 1074 ∷ pos 1023 ∷ pos 1024 ∷ []) ≡ 2 ∷ 0 ∷ 0 ∷ 2 ∷ []
  -- n
  digits : settings 23 8 6 (minus 1 ∷ pos 0 ∷ pos 1 ∷ pos 7 ∷ pos 8 ∷ []) ≡ 2 ∷ 2 ∷ 0 ∷ 0 ∷ 2 ∷ []
  digits_double : settings 52 11 6 (minus 1 ∷ pos 0 ∷ pos 1 ∷ pos 15 ∷ pos 16 ∷ []) ≡ 2 ∷ 2 ∷ 0 ∷ 0 ∷ 2 ∷ []
  -- Pack: is L 1 to 65,536? No: 3. None at all is a multiple.
  pack_short : (packing 0 [] 0 0 0 ≡ 3) × (packing 1 [] 0 0 0 ≡ 0)
  pack_long : (packing 65536 [] 0 0 0 ≡ 0) × (packing 65537 [] 0 0 0 ≡ 3)
  -- Pack: is the number of readings a whole multiple of L? No: 4.
  pack_multiple : (packing 2 (0 ∷ []) 1 0 0 ≡ 4) × (packing 2 (0 ∷ 0 ∷ []) 2 1 1 ≡ 0)
  -- Pack: has each other array the length that follows? No: 5. One too few, and one too many
  pack_codes : (packing 1 (0 ∷ []) 0 1 1 ≡ 5) × (packing 1 (0 ∷ []) 2 1 1 ≡ 5)
  pack_references : (packing 1 (0 ∷ []) 1 0 1 ≡ 5) × (packing 1 (0 ∷ []) 1 2 1 ≡ 5)
  pack_exponents : (packing 1 (0 ∷ []) 1 1 0 ≡ 5) × (packing 1 (0 ∷ []) 1 1 2 ≡ 5)
  pack_none : packing 1 [] 1 0 0 ≡ 5
  -- Pack: is each reading finite or the mark? No: 6.
  pack_infinite : packing 1 (infinite ∷ []) 1 1 1 ≡ 6
  pack_nan : packing 1 (0xFFC00000 ∷ []) 1 1 1 ≡ 6
  pack_mark : packing 1 (0x7CF00000 ∷ []) 1 1 1 ≡ 0
  -- 3 before 4 before 5 before 6
  pack_3_4 : (packing 65537 (0 ∷ []) 1 0 0 ≡ 3) × (packing 0 (0 ∷ []) 1 0 0 ≡ 3)
  pack_4_5 : packing 2 (0 ∷ []) 0 0 0 ≡ 4
  pack_5_6 : packing 1 (infinite ∷ []) 0 1 1 ≡ 5
  -- Unpack: 3, 4 and 5, asked of the codes
  unpack_short : (unpacking nan 0 [] [] [] 0 ≡ 3) × (unpacking nan 1 [] [] [] 0 ≡ 0)
  unpack_long : (unpacking nan 65536 [] [] [] 0 ≡ 0) × (unpacking nan 65537 [] [] [] 0 ≡ 3)
  unpack_multiple : unpacking nan 2 (0 ∷ []) [] [] 1 ≡ 4
  unpack_readings : (unpacking nan 1 (0 ∷ []) (0 ∷ []) (pos 0 ∷ []) 0 ≡ 5) × (unpacking nan 1 (0 ∷ []) (0 ∷ []) (pos 0 ∷ []) 2 ≡ 5)
  unpack_references : (unpacking nan 1 (0 ∷ []) [] (pos 0 ∷ []) 1 ≡ 5) × (unpacking nan 1 (0 ∷ []) (0 ∷ 0 ∷ []) (pos 0 ∷ []) 1 ≡ 5)
  unpack_exponents : (unpacking nan 1 (0 ∷ []) (0 ∷ []) [] 1 ≡ 5) × (unpacking nan 1 (0 ∷ []) (0 ∷ []) (pos 0 ∷ pos 0 ∷ []) 1 ≡ 5)
  -- Unpack: is each R finite and each E in -149 to 128? No: 7.
  unpack_infinite : unpacking nan 1 (0 ∷ []) (infinite ∷ []) (pos 0 ∷ []) 1 ≡ 7
  unpack_low : (unpacking nan 1 (0 ∷ []) (0 ∷ []) (minus 150 ∷ []) 1 ≡ 7) × (unpacking nan 1 (0 ∷ []) (0 ∷ []) (minus 149 ∷ []) 1 ≡ 0)
  unpack_high : (unpacking nan 1 (0 ∷ []) (0 ∷ []) (pos 128 ∷ []) 1 ≡ 0) × (unpacking nan 1 (0 ∷ []) (0 ∷ []) (pos 129 ∷ []) 1 ≡ 7)
  -- Unpack: is the double mark a NaN? No: 8. It is asked also where no code is missing, and where there are no codes.
  unpack_mark : (unpacking 0 1 (0 ∷ []) (0 ∷ []) (pos 0 ∷ []) 1 ≡ 8) × (unpacking infinite_double 1 [] [] [] 0 ≡ 8)
  unpack_nans : (unpacking 0x7FF00000_00000001 1 [] [] [] 0 ≡ 0) × (unpacking 0xFFFFFFFF_FFFFFFFF 1 [] [] [] 0 ≡ 0)
  -- 3, 4, 5, 7, 8
  unpack_3_4 : (unpacking nan 65537 (0 ∷ []) [] [] 1 ≡ 3) × (unpacking nan 0 (0 ∷ []) [] [] 1 ≡ 3)
  unpack_4_5 : unpacking nan 2 (0 ∷ []) [] [] 0 ≡ 4
  unpack_5_7 : unpacking nan 1 (0 ∷ []) (infinite ∷ []) (pos 0 ∷ []) 0 ≡ 5
  unpack_7_8 : unpacking 0 1 (0 ∷ []) (infinite ∷ []) (pos 0 ∷ []) 1 ≡ 7

pub refusals : Refusals
unfolding settings packing_wide unpacking_wide
refusals =
    record {
      known = refl;
      unknown = refl;
      shave = refl;
      set = refl;
      groom = refl;
      halfshave = refl;
      round = refl;
      round_double = refl;
      absolute = refl;
      absolute_double = refl;
      digits = refl;
      digits_double = refl;
      pack_short = (refl, refl);
      pack_long = (refl, refl);
      pack_multiple = (refl, refl);
      pack_codes = (refl, refl);
      pack_references = (refl, refl);
      pack_exponents = (refl, refl);
      pack_none = refl;
      pack_infinite = refl;
      pack_nan = refl;
      pack_mark = refl;
      pack_3_4 = (refl, refl);
      pack_4_5 = refl;
      pack_5_6 = refl;
      unpack_short = (refl, refl);
      unpack_long = (refl, refl);
      unpack_multiple = refl;
      unpack_readings = (refl, refl);
      unpack_references = (refl, refl);
      unpack_exponents = (refl, refl);
      unpack_infinite = refl;
      unpack_low = (refl, refl);
      unpack_high = (refl, refl);
      unpack_mark = (refl, refl);
      unpack_nans = (refl, refl);
      unpack_3_4 = (refl, refl);
      unpack_4_5 = refl;
      unpack_5_7 = refl;
      unpack_7_8 = refl;
    }
