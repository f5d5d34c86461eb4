-- The whole.
use Rattle.papers.specs.Papers.{Papers}
use Rattle.papers.proofs.Bounds.{unit_bounds, left_bounds}
use Rattle.papers.proofs.Relative.{relative_bounds}
use Rattle.papers.proofs.Decimal.{keep_bits, decimal_bounds}
use Rattle.papers.proofs.DigitRounding.{digit_bounds}
use Rattle.papers.proofs.Grooming.{grooming}
use Rattle.papers.proofs.Repetition.{repetition, rounders}
use Rattle.papers.proofs.Halfshaving.{halfshaving}
use Rattle.papers.proofs.Listings.{listings}
use Rattle.papers.proofs.LayerBounds.{layer_bounds}
use Rattle.papers.proofs.Unpacked.{unpacked}
use Rattle.papers.proofs.Sent.{sent_unpacked}
use Rattle.papers.proofs.Unbiased.{unbiased}
use Rattle.papers.proofs.Cases.{attained, left_cases, pi_tables, subnormal, printed, decimal_beyond, digits_again, digits_left, halfshave_sharper, halfshave_groomed, groomed_by_turns, listings_beyond, layer_top, double_beyond}
use Rattle.papers.proofs.CasesFar.{far_cases}

pub papers : Papers
papers =
    record {
      every_width = λ F X.
          record {
            unit_bounds = unit_bounds F X;
            left_bounds = left_bounds F X;
            relative_bounds = relative_bounds F X;
            decimal_bounds = decimal_bounds F X;
            digit_bounds = digit_bounds F X;
            grooming = grooming F X;
            repetition = repetition F X;
            rounder = rounders F X;
            halfshaving = halfshaving F X;
            listings = listings F X;
          };
      unbiased = unbiased;
      keep_bits = keep_bits;
      layers = layer_bounds;
      unpacked = unpacked;
      sent_unpacked = sent_unpacked;
      pi_tables = pi_tables;
      attained = attained;
      left_cases = left_cases;
      subnormal = subnormal;
      printed = printed;
      decimal_beyond = decimal_beyond;
      digits_again = digits_again;
      digits_left = digits_left;
      halfshave_sharper = halfshave_sharper;
      halfshave_groomed = halfshave_groomed;
      groomed_by_turns = groomed_by_turns;
      listings_beyond = listings_beyond;
      layer_top = layer_top;
      double_beyond = double_beyond;
      far_cases = far_cases;
    }
