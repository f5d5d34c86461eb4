-- All claims, in the papers' order: for every width, and so for singles and doubles; then the layers of singles, of every width of codes, and the cases.
use Rattle.std.specs.Prelude.{ℕ, ◌≤◌}
use Rattle.papers.specs.Bounds.{UnitBounds, LeftBounds, RelativeBounds}
use Rattle.papers.specs.Decimal.{KeepBits, DecimalBounds}
use Rattle.papers.specs.DigitRounding.{DigitBounds}
use Rattle.papers.specs.Grooming.{Grooming}
use Rattle.papers.specs.Repetition.{Repetition, Rounder}
use Rattle.papers.specs.Halfshaving.{Halfshaving}
use Rattle.papers.specs.Listings.{Listings}
use Rattle.papers.specs.LayerBounds.{LayerBounds}
use Rattle.papers.specs.Unpacked.{Unpacked, SentUnpacked}
use Rattle.papers.specs.Unbiased.{Unbiased}
use Rattle.papers.specs.Cases.{Attained, LeftCases, PiTables, Subnormal, Printed, DecimalBeyond, DigitsAgain, DigitsLeft, HalfshaveSharper, HalfshaveGroomed, GroomedByTurns, ListingsBeyond, LayerTop, DoubleBeyond}
use Rattle.papers.specs.CasesFar.{FarCases}

pub record Claims (F X : ℕ) : Type 0 where
  pub unit_bounds : UnitBounds F X
  pub left_bounds : LeftBounds F X
  pub relative_bounds : RelativeBounds F X
  pub decimal_bounds : DecimalBounds F X
  pub digit_bounds : DigitBounds F X
  pub grooming : Grooming F X
  pub repetition : Repetition F X
  pub rounder : Rounder F X
  pub halfshaving : Halfshaving F X
  pub listings : Listings F X

pub record Papers : Type 0 where
  pub every_width : (F X : ℕ) → Claims F X
  pub unbiased : Unbiased
  pub keep_bits : KeepBits
  pub layers : (w : ℕ) → 2 ≤ w → LayerBounds w
  pub unpacked : Unpacked
  pub sent_unpacked : SentUnpacked
  pub pi_tables : PiTables
  -- bounds that are attained, and claims that fail as printed
  pub attained : Attained
  pub left_cases : LeftCases
  pub subnormal : Subnormal
  pub printed : Printed
  pub decimal_beyond : DecimalBeyond
  pub digits_again : DigitsAgain
  pub digits_left : DigitsLeft
  pub halfshave_sharper : HalfshaveSharper
  pub halfshave_groomed : HalfshaveGroomed
  pub groomed_by_turns : GroomedByTurns
  pub listings_beyond : ListingsBeyond
  pub layer_top : LayerTop
  pub double_beyond : DoubleBeyond
  -- bounds of lists at figures left, row by row
  pub far_cases : FarCases
