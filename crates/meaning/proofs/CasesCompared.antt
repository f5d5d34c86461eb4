-- Document 02 (c), the first reading beyond a limit: cases to lay beside it. 3F800000 is 1, 40000000 is 2 and 40400000 is 3; where none is named, the mark is 7CF00000, and
-- 7FF80000_00000000 of doubles. Each row is proved by computing it.
use mathlib.Core.Path.{◌≡◌, refl}
use mathlib.Core.List.{List, [], ◌∷◌}
use Prim.Native.Nat.{ℕ}
use lib.IntN.{ℤ, pos, negsuc}
use Rattle.meaning.specs.Questions.{Outcome, refused}
use Rattle.meaning.specs.Comparing.{Compared, first_beyond, first_beyond_singles, first_beyond_doubles}
use Rattle.meaning.proofs.CasesRows.{compares, found, nothing}

unfoldable singles : ℤ → List ℕ → List ℕ → Outcome Compared
unfolding compares
singles p raw trimmed = compares 23 8 0x7CF00000 p raw trimmed

unfoldable doubles : ℤ → List ℕ → List ℕ → Outcome Compared
unfolding compares
doubles p raw trimmed = compares 52 11 0x7FF80000_00000000 p raw trimmed

pub record ComparedCases : Type 0 where
  -- ---- "more than 2^p apart": 2^p itself is not, and one spacing more is, whichever is the larger
  at_limit : singles (pos 0) (0x3F800000 ∷ []) (0x40000000 ∷ []) ≡ nothing 1
  spacing_more : singles (pos 0) (0x3F800000 ∷ []) (0x40000001 ∷ []) ≡ found 0 1
  below : singles (pos 0) (0x40400000 ∷ 0x40400000 ∷ []) (0x40000000 ∷ 0x3FFFFFFF ∷ []) ≡ found 1 2
  -- ---- "the first place, and how many readings it read": that place plus 1, or the full length
  first_of_two : singles (pos 0) (0x3F800000 ∷ 0x3F800000 ∷ 0x3F800000 ∷ []) (0x3F800000 ∷ 0x40400000 ∷ 0x40400000 ∷ []) ≡ found 1 2
  all_read : singles (negsuc 5) (0x40490FDB ∷ 0x40490FDB ∷ []) (0x40490000 ∷ 0x4049FFFF ∷ []) ≡ nothing 2
  no_readings : singles (pos 0) [] [] ≡ nothing 0
  -- ---- "where both are present and finite": on either side; the mark is compared by its bits
  raw_missing : singles (pos 0) (0x7CF00000 ∷ 0x40400000 ∷ []) (0x3F800000 ∷ 0x3F800000 ∷ []) ≡ found 1 2
  trimmed_missing : singles (pos 0) (0x40400000 ∷ 0x40400000 ∷ []) (0x7CF00000 ∷ 0x3F800000 ∷ []) ≡ found 1 2
  not_finite : singles (pos 0) (0x7F800000 ∷ 0x3F800000 ∷ 0x7FC00000 ∷ []) (0 ∷ 0xFF800000 ∷ 0 ∷ []) ≡ nothing 3
  other_mark : compares 23 8 0x7FC00000 (pos 0) (0x7CF00000 ∷ []) (0x3F800000 ∷ []) ≡ found 0 1
  zero_mark : compares 23 8 0 (negsuc 148) (0 ∷ 0x80000000 ∷ []) (2 ∷ 2 ∷ []) ≡ found 1 2
  -- ---- "lie .. apart" by exact signed sizes: opposite signs, with a sum that no single holds, and with one that a float would round to 2^p
  signs : singles (pos 0) (0xBF800000 ∷ []) (0x3F800000 ∷ []) ≡ found 0 1
  largest : singles (pos 127) (0x7F7FFFFF ∷ []) (0xFF7FFFFF ∷ []) ≡ found 0 1
  hidden : singles (pos 0) (0x3F800000 ∷ []) (0x80000001 ∷ []) ≡ found 0 1
  binades : singles (negsuc 22) (0x40000000 ∷ 0x40000000 ∷ []) (0x3FFFFFFF ∷ 0x3FFFFFFE ∷ []) ≡ found 1 2
  least : singles (negsuc 148) (1 ∷ 1 ∷ []) (2 ∷ 3 ∷ []) ≡ found 1 2
  -- ---- doubles
  double_limit : doubles (pos 0) (0x3FF00000_00000000 ∷ 0x3FF00000_00000000 ∷ []) (0x40000000_00000000 ∷ 0x40000000_00000001 ∷ []) ≡ found 1 2
  double_missing : doubles (pos 0) (0x7FF80000_00000000 ∷ []) (0 ∷ []) ≡ nothing 1
  double_least : doubles (negsuc 1073) (1 ∷ []) (0x80000000_00000001 ∷ []) ≡ found 0 1
  double_largest : doubles (pos 1023) (0x7FEFFFFF_FFFFFFFF ∷ []) (0xFFEFFFFF_FFFFFFFF ∷ []) ≡ found 0 1
  -- ---- "10, if the lengths differ, asked first; the existing 2, if p is outside the range for absolute settings"
  lengths : singles (pos 0) (0x3F800000 ∷ 0x3F800000 ∷ []) (0x3F800000 ∷ []) ≡ refused 10
  lengths_first : singles (pos 128) [] (0x3F800000 ∷ []) ≡ refused 10
  p_above : singles (pos 128) (0x3F800000 ∷ []) (0x3F800000 ∷ []) ≡ refused 2
  p_below : singles (negsuc 149) [] [] ≡ refused 2
  double_p : (doubles (pos 1024) [] [] ≡ refused 2) × (doubles (negsuc 1074) [] [] ≡ refused 2)
  -- ---- "Given both in either width": the calls' names
  widths : (first_beyond_singles ≡ first_beyond 23 8) × (first_beyond_doubles ≡ first_beyond 52 11)

pub compared_cases : ComparedCases
unfolding singles doubles compares
compared_cases =
    record {
      at_limit = refl;
      spacing_more = refl;
      below = refl;
      first_of_two = refl;
      all_read = refl;
      no_readings = refl;
      raw_missing = refl;
      trimmed_missing = refl;
      not_finite = refl;
      other_mark = refl;
      zero_mark = refl;
      signs = refl;
      largest = refl;
      hidden = refl;
      binades = refl;
      least = refl;
      double_limit = refl;
      double_missing = refl;
      double_least = refl;
      double_largest = refl;
      lengths = refl;
      lengths_first = refl;
      p_above = refl;
      p_below = refl;
      double_p = (refl, refl);
      widths = (refl, refl);
    }
