-- Document 01's kinds and values for each case of the code's summary.
use Rattle.std.specs.Prelude.{◌≢◌, List, ℕ, ◌<◌, length, get_or}
use Rattle.std.specs.Float.{binary32}
use Rattle.std.specs.Float.Ieee.{to_bits}
use Rattle.meaning.specs.Readings.{magnitude, infinity}
use Rattle.meaning.specs.Layers as meaning
use Rattle.summary.specs.declared.Summary.{Summary}
use Rattle.summary.specs.declared.Summary.TheVariants as variants

unfoldable pub summary_of : Summary → meaning.Summary
summary_of variants.Nothing = meaning.Nothing
summary_of (variants.Flat a) = meaning.Flat (to_bits binary32 a)
summary_of (variants.Spread a z) = meaning.Spread (to_bits binary32 a) (to_bits binary32 z)

-- every present reading is finite
abbrev pub Packable : ℕ → List ℕ → Type 0
Packable mark ws = (i : ℕ) → i < length ws → get_or ws i 0 ≢ mark → magnitude 23 8 (get_or ws i 0) < infinity 23 8
