-- Document 02 (b), grooming takes turns among the present: who takes a turn and who doesn't. Grooming to 7 keep bits makes 40490000 of pi, which is 40490FDB, where it
-- shaves, and 4049FFFF where it sets. Each row is proved by computing it.
use mathlib.Core.Path.{◌≡◌, refl}
use mathlib.Core.List.{List, [], ◌∷◌}
use Prim.Native.Nat.{ℕ}
use Rattle.meaning.proofs.CasesRows.{shave, set, groom, halfshave, after_all, answer, counting, loads}

-- what grooming leaves of singles, by the mark
unfoldable groomed : ℕ → List ℕ → List ℕ
unfolding after_all
groomed mark ws = after_all 23 8 mark (groom 7 ∷ []) ws

pub record Turns : Type 0 where
  -- ---- "Stations that report every second slot": the mark 7CF00000 is finite, and takes no turn; the counts are changed, spared, clipped, missing, risen and fallen
  even_slots : groomed 0x7CF00000 (0x40490FDB ∷ 0x7CF00000 ∷ 0x40490FDB ∷ 0x7CF00000 ∷ 0x40490FDB ∷ []) ≡ 0x40490000 ∷ 0x7CF00000 ∷ 0x4049FFFF ∷ 0x7CF00000 ∷ 0x40490000 ∷ []
  odd_slots : groomed 0x7CF00000 (0x7CF00000 ∷ 0x40490FDB ∷ 0x7CF00000 ∷ 0x40490FDB ∷ []) ≡ 0x7CF00000 ∷ 0x40490000 ∷ 0x7CF00000 ∷ 0x4049FFFF ∷ []
  slot_counts : answer 23 8 0x7CF00000 (groom 7) (0x40490FDB ∷ 0x7CF00000 ∷ 0x40490FDB ∷ 0x7CF00000 ∷ 0x40490FDB ∷ []) ≡ counting 3 0 0 2 1 2
  -- ---- "the first is shaved, the next set"; with nothing missing, so it goes place by place
  none_missing : groomed 0x7CF00000 (0x40490FDB ∷ 0x40490FDB ∷ 0xC0490FDB ∷ 0xC0490FDB ∷ []) ≡ 0x40490000 ∷ 0x4049FFFF ∷ 0xC0490000 ∷ 0xC049FFFF ∷ []
  -- ---- "zeros take a turn", of either sign
  zero_takes : groomed 0x7CF00000 (0 ∷ 0x40490FDB ∷ 0x40490FDB ∷ []) ≡ 0 ∷ 0x4049FFFF ∷ 0x40490000 ∷ []
  minus_zero_takes : groomed 0x7CF00000 (0x80000000 ∷ 0x40490FDB ∷ 0x40490FDB ∷ []) ≡ 0x80000000 ∷ 0x4049FFFF ∷ 0x40490000 ∷ []
  -- ---- so does a reading that stays as it is; and one that is spared, here beside the mark 40490000
  grid_takes : groomed 0x7CF00000 (0x3F800000 ∷ 0x40490FDB ∷ []) ≡ 0x3F800000 ∷ 0x4049FFFF ∷ []
  spared_takes : groomed 0x40490000 (0x40490FDB ∷ 0x40490FDB ∷ 0x40490000 ∷ 0x40490FDB ∷ 0x40490FDB ∷ []) ≡ 0x40490FDB ∷ 0x4049FFFF ∷ 0x40490000 ∷ 0x40490FDB ∷ 0x4049FFFF ∷ []
  -- ---- "missing readings and infinities and NaNs do not"; the mark may be a NaN or a zero
  infinity_idle : groomed 0x7CF00000 (0x7F800000 ∷ 0x40490FDB ∷ 0xFF800000 ∷ 0x40490FDB ∷ []) ≡ 0x7F800000 ∷ 0x40490000 ∷ 0xFF800000 ∷ 0x4049FFFF ∷ []
  nan_idle : groomed 0x7CF00000 (0x7FC12345 ∷ 0x40490FDB ∷ 0xFF800001 ∷ 0x40490FDB ∷ []) ≡ 0x7FC12345 ∷ 0x40490000 ∷ 0xFF800001 ∷ 0x4049FFFF ∷ []
  nan_mark_idle : groomed 0x7FC00000 (0x7FC00000 ∷ 0x40490FDB ∷ 0x7FC00000 ∷ 0x40490FDB ∷ []) ≡ 0x7FC00000 ∷ 0x40490000 ∷ 0x7FC00000 ∷ 0x4049FFFF ∷ []
  zero_mark_idle : groomed 0 (0 ∷ 0x40490FDB ∷ 0x80000000 ∷ 0x40490FDB ∷ []) ≡ 0 ∷ 0x40490000 ∷ 0x80000000 ∷ 0x40490000 ∷ []
  -- ---- each call begins with a shave; halfshaving what was groomed is one call more
  begins_anew : after_all 23 8 0x7CF00000 (groom 11 ∷ groom 7 ∷ []) (0x7CF00000 ∷ 0x40490FDB ∷ 0x40490FDB ∷ []) ≡ 0x7CF00000 ∷ 0x40490000 ∷ 0x4049FFFF ∷ []
  mixed : after_all 23 8 0x7CF00000 (set 11 ∷ groom 7 ∷ shave 9 ∷ halfshave 7 ∷ []) (0x7F800000 ∷ 0x40490FDB ∷ 0x40490FDB ∷ []) ≡ 0x7F800000 ∷ 0x40498000 ∷ 0x40498000 ∷ []
  -- ---- doubles
  doubles_take :
      after_all 52 11 0x7FF80000_00000000 (groom 20 ∷ []) (0x400921FB_54442D18 ∷ 0x7FF80000_00000000 ∷ 0 ∷ 0x400921FB_54442D18 ∷ 0xFFF00000_00000000 ∷ 0x400921FB_54442D18 ∷ [])
      ≡ 0x400921FB_00000000 ∷ 0x7FF80000_00000000 ∷ 0 ∷ 0x400921FB_00000000 ∷ 0xFFF00000_00000000 ∷ 0x400921FB_FFFFFFFF ∷ []
  -- ---- the loader is told the turn, of which the parity matters, also beyond 2^32; before the pattern stands 4 for a fall, 2 for a rise
  loader_first : (loads (groom 7) 0 0x40490FDB ≡ 0x4_40490000) × (loads (groom 7) 0x1_00000000 0x40490FDB ≡ 0x4_40490000)
  loader_next : (loads (groom 7) 1 0x40490FDB ≡ 0x2_4049FFFF) × (loads (groom 7) 0x1_00000001 0x40490FDB ≡ 0x2_4049FFFF)
  loader_last : (loads (groom 7) 0xFFFFFFFF_FFFFFFFE 0x40490FDB ≡ 0x4_40490000) × (loads (groom 7) 0xFFFFFFFF_FFFFFFFF 0x40490FDB ≡ 0x2_4049FFFF)
  loader_zero : loads (groom 7) 1 0x80000000 ≡ 0x80000000

pub turns_cases : Turns
unfolding groomed after_all answer loads
turns_cases =
    record {
      even_slots = refl;
      odd_slots = refl;
      slot_counts = refl;
      none_missing = refl;
      zero_takes = refl;
      minus_zero_takes = refl;
      grid_takes = refl;
      spared_takes = refl;
      infinity_idle = refl;
      nan_idle = refl;
      nan_mark_idle = refl;
      zero_mark_idle = refl;
      begins_anew = refl;
      mixed = refl;
      doubles_take = refl;
      loader_first = (refl, refl);
      loader_next = (refl, refl);
      loader_last = (refl, refl);
      loader_zero = refl;
    }
