-- Document 02 (a), up and down: each method on a reading of both signs, and the readings that stay. The loader's numbers are in hexadecimal: 2 before the pattern is a
-- rise, 4 a fall. Each row is proved by computing it.
use mathlib.Core.Path.{◌≡◌, refl}
use mathlib.Core.List.{List, [], ◌∷◌}
use Prim.Native.Nat.{ℕ}
use Rattle.meaning.proofs.CasesRows.{shave, set, groom, halfshave, round, absolute, digits, answer, counting, loads}

abbrev pis : List ℕ
pis = 0x400921FB_54442D18 ∷ 0x400921FB_54442D18 ∷ 0xC00921FB_54442D18 ∷ []

pub record Moves : Type 0 where
  -- ---- pi and -pi, as singles
  shave_single : (loads (shave 7) 0 0x40490FDB ≡ 0x4_40490000) × (loads (shave 7) 0 0xC0490FDB ≡ 0x2_C0490000)
  set_single : (loads (set 7) 0 0x40490FDB ≡ 0x2_4049FFFF) × (loads (set 7) 0 0xC0490FDB ≡ 0x4_C049FFFF)
  groom_even : (loads (groom 7) 0 0x40490FDB ≡ 0x4_40490000) × (loads (groom 7) 0 0xC0490FDB ≡ 0x2_C0490000)
  groom_odd : (loads (groom 7) 1 0x40490FDB ≡ 0x2_4049FFFF) × (loads (groom 7) 1 0xC0490FDB ≡ 0x4_C049FFFF)
  halfshave_single : (loads (halfshave 7) 0 0x40490FDB ≡ 0x2_40498000) × (loads (halfshave 7) 0 0xC0490FDB ≡ 0x4_C0498000)
  round_single : (loads (round 0) 0 0x40490FDB ≡ 0x2_40800000) × (loads (round 0) 0 0xC0490FDB ≡ 0x4_C0800000)
  absolute_single : (loads (absolute 0) 0 0x40490FDB ≡ 0x4_40400000) × (loads (absolute 0) 0 0xC0490FDB ≡ 0x2_C0400000)
  digits_single : (loads (digits 1) 0 0x40490FDB ≡ 0x2_40600000) × (loads (digits 1) 0 0xC0490FDB ≡ 0x4_C0600000)
  -- ---- 0.5 falls to 0, and -0.5 rises to -0
  to_zero : (loads (absolute 0) 0 0x3F000000 ≡ 0x4_00000000) × (loads (absolute 0) 0 0xBF000000 ≡ 0x2_80000000)
  -- ---- a clipped reading goes towards zero
  clipped : (loads (round 7) 0 0x7F7FFFFF ≡ 0x4_7F7F0000) × (loads (round 7) 0 0xFF7FFFFF ≡ 0x2_FF7F0000)
  -- ---- a spared reading stays, and so do a missing one, an infinity, a NaN, and one that is on the grid
  spared : loads (round 7) 0 0x7CF00001 ≡ 0x7CF00001
  missing : loads (round 7) 0 0x7CF00000 ≡ 0x7CF00000
  infinite : (loads (set 7) 0 0x7F800000 ≡ 0x7F800000) × (loads (set 7) 0 0xFF800000 ≡ 0xFF800000)
  nan : loads (shave 0) 0 0x7FC12345 ≡ 0x7FC12345
  on_grid : (loads (shave 7) 0 0xC0490000 ≡ 0xC0490000) × (loads (set 7) 0 0x80000000 ≡ 0x80000000)
  -- ---- pi twice and -pi, as doubles in one array: changed, spared, clipped, missing, risen, fallen
  shave_doubles : answer 52 11 0 (shave 7) pis ≡ counting 3 0 0 0 1 2
  set_doubles : answer 52 11 0 (set 7) pis ≡ counting 3 0 0 0 2 1
  groom_doubles : answer 52 11 0 (groom 7) pis ≡ counting 3 0 0 0 2 1
  halfshave_doubles : answer 52 11 0 (halfshave 7) pis ≡ counting 3 0 0 0 2 1
  round_doubles : answer 52 11 0 (round 7) pis ≡ counting 3 0 0 0 1 2
  absolute_doubles : answer 52 11 0 (absolute 0) pis ≡ counting 3 0 0 0 1 2
  digits_doubles : answer 52 11 0 (digits 3) pis ≡ counting 3 0 0 0 2 1

pub moves_cases : Moves
unfolding loads answer
moves_cases =
    record {
      shave_single = (refl, refl);
      set_single = (refl, refl);
      groom_even = (refl, refl);
      groom_odd = (refl, refl);
      halfshave_single = (refl, refl);
      round_single = (refl, refl);
      absolute_single = (refl, refl);
      digits_single = (refl, refl);
      to_zero = (refl, refl);
      clipped = (refl, refl);
      spared = refl;
      missing = refl;
      infinite = (refl, refl);
      nan = refl;
      on_grid = (refl, refl);
      shave_doubles = refl;
      set_doubles = refl;
      groom_doubles = refl;
      halfshave_doubles = refl;
      round_doubles = refl;
      absolute_doubles = refl;
      digits_doubles = refl;
    }
