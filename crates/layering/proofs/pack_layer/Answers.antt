use mathlib.Core.Path.{refl, sym}
use lib.Ieee.{of_bits, to_bits}
use Rattle.summary.specs.Summaries.{summary_of}
use Rattle.layering.proofs.pack_layer.Goals as goal

pub flat_layer-requires-clause-one : goal.flat_layer-requires-clause-one
unfolding summary_of of_bits to_bits
flat_layer-requires-clause-one c = rw (← c.in-Nothing.ensures) refl

pub flat_layer-requires-in-Flat-clause-one : goal.flat_layer-requires-in-Flat-clause-one
unfolding summary_of
flat_layer-requires-in-Flat-clause-one c = rw (← c.in-Flat.ensures) refl

pub spread_layer-requires-clause-readings_value : goal.spread_layer-requires-clause-readings_value
unfolding summary_of
spread_layer-requires-clause-readings_value c = sym c.in-Spread.ensures
