-- A table of cases beside document 01's own: doubles, and the edges that are easy to get wrong. Each row is proved by computing it. Single pi is 40490FDB, double
-- pi 400921FB54442D18; where none is named the mark is 7CF00000.
use mathlib.Core.Path.{◌≡◌, refl}
use mathlib.Core.List.{List, [], ◌∷◌}
use Prim.Native.Nat.{ℕ, ◌+◌, ◌^◌}
use lib.IntN.{ℤ, pos, neg_ℤ}
use lib.ListN.{length, take, replicate}
use Rattle.meaning.specs.Methods
use Rattle.meaning.specs.Methods.{unit}
use Rattle.meaning.specs.Layers.{Nothing, Flat, Spread}
use Rattle.meaning.specs.Questions.{refused, accepted}
use Rattle.meaning.specs.Calls.{Call, AfterPack, AfterUnpack, pack, unpack}
use Rattle.meaning.proofs.CasesRows.{call, shave, set, groom, halfshave, round, absolute, digits, after_all, after, answer, counting, loads, packed, packed_wide, layer, summed, unpacked, unpacked_wide, doubles}

-- what a list of calls leaves of a double; the mark is a NaN
after_double : List Call → ℕ → List ℕ
unfolding after_all
after_double cs w = after_all 52 11 0x7FF80000_00000000 cs (w ∷ [])

-- what calls leave of singles, and what one of them answers, with any mark
singles : ℕ → List Call → List ℕ → List ℕ
unfolding after_all
singles mark cs ws = after_all 23 8 mark cs ws

-- singles packed into two layers of L, from four codes, two references and two exponents before; and codes unpacked
packs : ℕ → List ℕ → AfterPack
unfolding after_all
packs L ws = pack 0x7CF00000 L (16 ∷ 16 ∷ []) ws (take (length ws) (7 ∷ 7 ∷ 7 ∷ 7 ∷ [])) (8 ∷ 8 ∷ []) (pos 9 ∷ pos 9 ∷ [])

abbrev leaves : List ℕ → List ℕ → List ℤ → AfterPack
leaves cs rs es = record { answer = accepted tt; codes = cs; references = rs; exponents = es }

unpacks : ℕ → ℕ → List ℕ → List ℕ → List ℤ → List ℕ → AfterUnpack
unfolding after_all
unpacks mark L cs rs es ws = unpack mark L (replicate (length rs) 16) cs rs es ws

abbrev pi : ℕ
pi = 0x400921FB_54442D18

pub record Edges : Type 0 where
  -- ---- doubles
  shave_double : after_double (shave 7 ∷ []) pi ≡ 0x40092000_00000000 ∷ []
  set_double : after_double (set 7 ∷ []) pi ≡ 0x40093FFF_FFFFFFFF ∷ []
  halfshave_double : after_double (halfshave 7 ∷ []) pi ≡ 0x40093000_00000000 ∷ []
  round_double : after_double (round 7 ∷ []) pi ≡ 0x40092000_00000000 ∷ []
  kept_double : after_double (round 52 ∷ []) pi ≡ pi ∷ []
  clip_double : (after_double (round 7 ∷ []) 0xFFEFFFFF_FFFFFFFF ≡ 0xFFEFE000_00000000 ∷ []) × (answer 52 11 0 (round 7) (0xFFEFFFFF_FFFFFFFF ∷ []) ≡ counting 1 0 1 0 1 0)
  absolute_double : (after_double (absolute 0 ∷ []) pi ≡ 0x40080000_00000000 ∷ []) × (after_double (absolute 0 ∷ []) 0xBFE00000_00000000 ≡ 0x80000000_00000000 ∷ [])
  least_double : after_double (call 5 (neg_ℤ (pos 1074)) ∷ []) 0x00000000_00000001 ≡ 0x00000000_00000001 ∷ []
  largest_double : after_double (absolute 1000 ∷ []) 0x7FEFFFFF_FFFFFFFF ≡ 0x7FEFFFFF_E0000000 ∷ []
  digits_double : after_double (digits 3 ∷ []) pi ≡ 0x40092800_00000000 ∷ []
  -- ---- a tie whose even side lies beyond the largest finite value clips, and is counted
  tie_clips : (after (round 7 ∷ []) 0x7F7F8000 ≡ 0x7F7F0000) × (answer 23 8 0x7CF00000 (round 7) (0x7F7F8000 ∷ []) ≡ counting 1 0 1 0 0 1)
  absolute_clips : (after (absolute 127 ∷ []) 0x7F400000 ≡ 0x7F000000) × (answer 23 8 0x7CF00000 (absolute 127) (0x7F400000 ∷ []) ≡ counting 1 0 1 0 0 1)
  -- ---- but round 0 of 7F400000 goes to the even 7F000000 below it, and doesn't clip
  tie_stays : (after (round 0 ∷ []) 0x7F400000 ≡ 0x7F000000) × (answer 23 8 0x7CF00000 (round 0) (0x7F400000 ∷ []) ≡ counting 1 0 0 0 0 1)
  -- ---- and the largest finite value, which is a multiple of the least spacing, stays and doesn't clip
  largest_stays : answer 23 8 0x7CF00000 (call 5 (neg_ℤ (pos 149))) (0x7F7FFFFF ∷ []) ≡ counting 0 0 0 0 0 0
  -- ---- clip comes before spare: the old pattern, counted as spared alone
  clip_spare : (singles 0x7F7F0000 (round 7 ∷ []) (0x7F7FFFFF ∷ []) ≡ 0x7F7FFFFF ∷ []) × (answer 23 8 0x7F7F0000 (round 7) (0x7F7FFFFF ∷ []) ≡ counting 0 1 0 0 0 0)
  -- ---- spare and missing go by bits: with the mark 00000000, 0.25 is spared, -0.25 becomes -0, and -0 is present
  by_bits :
      (singles 0 (absolute 0 ∷ []) (0x3E800000 ∷ 0xBE800000 ∷ 0x80000000 ∷ 0 ∷ []) ≡ 0x3E800000 ∷ 0x80000000 ∷ 0x80000000 ∷ 0 ∷ [])
      × (answer 23 8 0 (absolute 0) (0x3E800000 ∷ 0xBE800000 ∷ 0x80000000 ∷ 0 ∷ []) ≡ counting 1 1 0 1 1 0)
  -- ---- document 01's listing: both series of round 7
  rain : (singles 0x7CF00000 (round 7 ∷ []) (0x40490FDB ∷ 0x7CF00001 ∷ []) ≡ 0x40490000 ∷ 0x7CF00001 ∷ []) × (answer 23 8 0x7CF00000 (round 7) (0x40490FDB ∷ 0x7CF00001 ∷ []) ≡ counting 1 1 0 0 0 1)
  ozone : answer 23 8 0x7CF00000 (round 7) (0x7CF00000 ∷ 0x3F800000 ∷ []) ≡ counting 0 0 0 1 0 0
  -- ---- the unit: with 7 keep bits 2^16 spacings, at pi 1/64, which is 2^-6 or 2^(149-6) least spacings; with the absolute step 2^0 it is 1 anywhere
  unit_of_pi : unit 23 (Methods.round 7) 0x40490FDB ≡ 2 ^ 143
  unit_absolute : unit 23 (Methods.absolute 149) 0x40490FDB ≡ 2 ^ 149
  unit_subnormal : unit 23 (Methods.tail Methods.set 7) 0x00000001 ≡ 2 ^ 16
  -- ---- a NaN that isn't the mark, and an infinity, are untouched and counted nowhere
  untouched : (after (shave 0 ∷ []) 0x7FC12345 ≡ 0x7FC12345) × (answer 23 8 0x7CF00000 (shave 0) (0x7FC12345 ∷ 0xFF800000 ∷ []) ≡ counting 0 0 0 0 0 0)
  -- ---- a NaN that is the mark counts as missing; one whose bits a method would turn into the mark is untouched and not spared
  nan_missing : answer 23 8 0x7FC00000 (round 7) (0x7FC00000 ∷ []) ≡ counting 0 0 0 1 0 0
  nan_unspared : answer 23 8 0x7F800000 (shave 0) (0x7FC12345 ∷ []) ≡ counting 0 0 0 0 0 0
  -- ---- a reading with the mark's magnitude and the other sign is present: -1.5 beside the mark 1.5
  mark_sign : singles 0x3FC00000 (absolute 0 ∷ []) (0xBFC00000 ∷ 0x3FC00000 ∷ []) ≡ 0xC0000000 ∷ 0x3FC00000 ∷ []
  -- ---- zeros of both signs stay
  zeros_set : singles 0x7CF00000 (set 7 ∷ []) (0 ∷ 0x80000000 ∷ []) ≡ 0 ∷ 0x80000000 ∷ []
  zeros_halfshave : singles 0x7CF00000 (halfshave 7 ∷ []) (0 ∷ 0x80000000 ∷ []) ≡ 0 ∷ 0x80000000 ∷ []
  zeros_other : singles 0x7CF00000 (shave 7 ∷ groom 7 ∷ round 7 ∷ absolute 0 ∷ digits 1 ∷ []) (0 ∷ 0x80000000 ∷ []) ≡ 0 ∷ 0x80000000 ∷ []
  -- ---- digits can go round for ever: 100, 96, 100 ..
  cycle : (after (digits 1 ∷ []) 0x42C80000 ≡ 0x42C00000) × (after (digits 1 ∷ []) 0x42C00000 ≡ 0x42C80000)
  -- ---- a refused call changes nothing and answers its number alone; the loader adds 2^32
  refused_call : (singles 0x7CF00000 (call 7 (pos 0) ∷ call 4 (neg_ℤ (pos 1)) ∷ []) (0x40490FDB ∷ []) ≡ 0x40490FDB ∷ []) × (answer 23 8 0x7CF00000 (round 24) (0x40490FDB ∷ []) ≡ refused 2)
  loader_refused : (loads (call 7 (pos 9999)) 0 0x40490FDB ≡ 2 ^ 32 + 1) × (loads (digits 0) 0 0x40490FDB ≡ 2 ^ 32 + 2)
  -- ---- a zero in a summary is +0
  summary_zeros : (summed (0x80000000 ∷ 0 ∷ []) ≡ Flat 0) × (summed (0x80000000 ∷ []) ≡ Flat 0)
  summary_negative : summed (0xBF800000 ∷ 0x7CF00000 ∷ 0x80000000 ∷ []) ≡ Spread 0xBF800000 0
  summary_nothing : summed (0x7CF00000 ∷ []) ≡ Nothing
  pack_nothing : packed (0x7CF00000 ∷ 0x7CF00000 ∷ []) ≡ layer 0 (neg_ℤ (pos 149)) (65535 ∷ 65535 ∷ [])
  -- ---- the widest layer: the least exponent is 114; a tie goes to the even code, and the smallest single breaks it
  pack_widest : packed (0xFF7FFFFF ∷ 0x7F7FFFFF ∷ 0 ∷ []) ≡ layer 0xFF7FFFFF (pos 114) (0 ∷ 32768 ∷ 16384 ∷ [])
  pack_tie : packed (0 ∷ 0x477FFE00 ∷ 0x3F000000 ∷ 0x3FC00000 ∷ []) ≡ layer 0 (pos 0) (0 ∷ 65534 ∷ 0 ∷ 2 ∷ [])
  pack_broken_tie : packed (0x80000001 ∷ 0x477FFD00 ∷ 0x3F000000 ∷ []) ≡ layer 0x80000001 (pos 0) (0 ∷ 65533 ∷ 1 ∷ [])
  -- ---- unpacking: exactly zero is +0, also from -0; a missing code is the mark; one rounding, ties to even
  unpack_zero : unpacked 0x80000000 (pos 0) (0 ∷ 65535 ∷ 1 ∷ []) ≡ doubles (0 ∷ 0x7FF00000_0000ABCD ∷ 0x3FF00000_00000000 ∷ [])
  unpack_cancels : unpacked 0xBF800000 (pos 0) (0 ∷ 1 ∷ 3 ∷ []) ≡ doubles (0xBFF00000_00000000 ∷ 0 ∷ 0x40000000_00000000 ∷ [])
  unpack_least : unpacked 0x00000001 (neg_ℤ (pos 149)) (0 ∷ 1 ∷ []) ≡ doubles (0x36A00000_00000000 ∷ 0x36B00000_00000000 ∷ [])
  unpack_tie : unpacked 0x25000000 (pos 0) (1 ∷ []) ≡ doubles (0x3FF00000_00000000 ∷ [])
  unpack_up : unpacked 0x25800000 (pos 0) (1 ∷ []) ≡ doubles (0x3FF00000_00000001 ∷ [])
  -- 2^-53 and a little more, and three times it, beside 1: up to the next double, and to the even one
  unpack_above : unpacked 0x25000001 (pos 0) (1 ∷ []) ≡ doubles (0x3FF00000_00000001 ∷ [])
  unpack_even : unpacked 0x25C00000 (pos 0) (1 ∷ []) ≡ doubles (0x3FF00000_00000002 ∷ [])
  -- ---- two layers in one call, each with its own reference and step
  pack_layers : packs 2 (0x3F800000 ∷ 0x40000000 ∷ 0x7CF00000 ∷ 0x40400000 ∷ []) ≡ leaves (0 ∷ 32768 ∷ 65535 ∷ 0 ∷ []) (0x3F800000 ∷ 0x40400000 ∷ []) (neg_ℤ (pos 15) ∷ neg_ℤ (pos 149) ∷ [])
  unpack_layers : unpacks 0x7FF00000_0000ABCD 1 (1 ∷ 1 ∷ []) (0 ∷ 0x3F800000 ∷ []) (pos 0 ∷ pos 1 ∷ []) (1 ∷ 1 ∷ []) ≡ doubles (0x3FF00000_00000000 ∷ 0x40080000_00000000 ∷ [])
  -- ---- refused packing and unpacking leave the arrays as they were
  pack_refused : packs 1 (0x7F800000 ∷ 0x3F800000 ∷ []) ≡ record { answer = refused 6; codes = 7 ∷ 7 ∷ []; references = 8 ∷ 8 ∷ []; exponents = pos 9 ∷ pos 9 ∷ [] }
  unpack_refused : unpacks 0 1 (0 ∷ []) (0 ∷ []) (pos 0 ∷ []) (7 ∷ []) ≡ record { answer = refused 8; readings = 7 ∷ [] }
  -- ---- halfshaving groomed data differs where grooming gave zero, and where the mark is a halfshaved pattern
  groomed_zero : (after (groom 7 ∷ halfshave 7 ∷ []) 0x00000001 ≡ 0x00000000) × (after (halfshave 7 ∷ []) 0x00000001 ≡ 0x00008000)
  groomed_mark : (singles 0x40498000 (groom 7 ∷ halfshave 7 ∷ []) (0x40490FDB ∷ []) ≡ 0x40490000 ∷ []) × (singles 0x40498000 (halfshave 7 ∷ []) (0x40490FDB ∷ []) ≡ 0x40490FDB ∷ [])
  -- ---- digits stays where its step is below two spacings, and changes 4 where it is just that
  digits_stays : (after (digits 7 ∷ []) 0x411FFFFF ≡ 0x411FFFFF) × (after (digits 7 ∷ []) 0x40800000 ≡ 0x40800001)

pub edges : Edges
unfolding after_double singles after answer packs unpacks unit loads packed_wide summed unpacked_wide
edges =
    record {
      shave_double = refl;
      set_double = refl;
      halfshave_double = refl;
      round_double = refl;
      kept_double = refl;
      clip_double = (refl, refl);
      absolute_double = (refl, refl);
      least_double = refl;
      largest_double = refl;
      digits_double = refl;
      tie_clips = (refl, refl);
      absolute_clips = (refl, refl);
      tie_stays = (refl, refl);
      largest_stays = refl;
      clip_spare = (refl, refl);
      by_bits = (refl, refl);
      rain = (refl, refl);
      ozone = refl;
      unit_of_pi = refl;
      unit_absolute = refl;
      unit_subnormal = refl;
      untouched = (refl, refl);
      nan_missing = refl;
      nan_unspared = refl;
      mark_sign = refl;
      zeros_set = refl;
      zeros_halfshave = refl;
      zeros_other = refl;
      cycle = (refl, refl);
      refused_call = (refl, refl);
      loader_refused = (refl, refl);
      summary_zeros = (refl, refl);
      summary_negative = refl;
      summary_nothing = refl;
      pack_nothing = refl;
      pack_widest = refl;
      pack_tie = refl;
      pack_broken_tie = refl;
      unpack_zero = refl;
      unpack_cancels = refl;
      unpack_least = refl;
      unpack_tie = refl;
      unpack_up = refl;
      unpack_above = refl;
      unpack_even = refl;
      pack_layers = refl;
      unpack_layers = refl;
      pack_refused = refl;
      unpack_refused = refl;
      groomed_zero = (refl, refl);
      groomed_mark = (refl, refl);
      digits_stays = (refl, refl);
    }
