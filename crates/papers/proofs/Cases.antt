-- The cases, by computing them.
use mathlib.Core.Path.{refl}
use native.Mathlib.Omega.{arith}
use lib.Dec.{lit≤, lit<}
use Rattle.meaning.proofs.CasesRows.{after_all}
use Rattle.papers.specs.Moved.{moved}
use Rattle.papers.specs.Listings.{masked, masked_half, added_masked}
use Rattle.papers.specs.Cases.{Attained, LeftCases, PiTables, Subnormal, Printed, DecimalBeyond, DigitsAgain, DigitsLeft, HalfshaveSharper, HalfshaveGroomed, GroomedByTurns, ListingsBeyond, LayerTop, DoubleBeyond}

pub attained : Attained
unfolding after_all moved
attained =
    record {
      shave_whole = refl;
      set_whole = refl;
      groom_whole = (refl, refl);
      halfshave_half = refl;
      round_half = refl;
      absolute_half = refl;
      round_clipped = (refl, refl);
      absolute_clipped = (refl, refl);
      halfshave_relative = refl;
      digits_half = refl;
      pack_half = refl;
      pack_half_narrow = refl;
    }

pub left_cases : LeftCases
unfolding after_all moved
left_cases = record { round_grows = (refl, refl); shave_more = lit< tt; clipped_more = lit< tt }

pub pi_tables : PiTables
unfolding after_all
pi_tables = record { table_1_of_001 = refl; table_2_of_001 = refl; table_1_of_002 = refl; table_2_of_002 = refl }

pub subnormal : Subnormal
unfolding after_all moved
subnormal = record { shave_beyond = lit< tt; set_beyond = lit< tt; halfshave_beyond = lit< tt; round_beyond = lit< tt }

pub printed : Printed
unfolding after_all moved
printed = record { halfshave_more = lit< tt; set_more = lit< tt }

pub decimal_beyond : DecimalBeyond
unfolding after_all moved
decimal_beyond = record { subnormal_digit = lit< tt; bit_less = lit< tt; hundreds = lit< tt }

pub digits_again : DigitsAgain
unfolding after_all moved
digits_again = record { once_more = (refl, refl); two_cycle = (refl, refl) }

pub digits_left : DigitsLeft
unfolding after_all moved
digits_left = record { left_decade = (refl, lit< tt); bit_attained = (refl, refl) }

pub halfshave_sharper : HalfshaveSharper
unfolding after_all
halfshave_sharper = record { one_sharper = (refl, refl) }

pub halfshave_groomed : HalfshaveGroomed
unfolding after_all
halfshave_groomed = record { zero_made = (refl, refl); mark_made = (refl, refl) }

pub groomed_by_turns : GroomedByTurns
unfolding after_all
groomed_by_turns = record { gap_between = refl; infinity_between = refl }

pub listings_beyond : ListingsBeyond
unfolding masked masked_half added_masked
listings_beyond = record { A2_zero = refl; A4_largest = refl; A4_nan = refl }

pub layer_top : LayerTop
unfolding after_all
layer_top = record { top_beyond = refl; top_beyond_narrow = refl }

pub double_beyond : DoubleBeyond
unfolding after_all
double_beyond =
    record {
      still_coded =
          record {
            is_missing_code = (λ e. absurd (omega (arith, e)), λ e. absurd (omega (arith, e)));
            in_width = lit≤ tt;
            near = λ p. lit< tt;
            near_left = λ p. lit< tt;
          };
      double_beyond = refl;
    }
