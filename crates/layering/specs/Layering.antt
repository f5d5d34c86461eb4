-- What the code's parts of one layer are to the definitions'.
use Rattle.std.specs.Prelude.{◌≡◌, cond, ℕ, eqb}
use Rattle.std.specs.Float.{binary32}
use Rattle.std.specs.Float.Ieee.{to_bits}
use Rattle.meaning.specs.Layers as meaning
use Rattle.meaning.specs.Calls.{stored_exponent}
use Rattle.layering.specs.declared.LayerRecord.{LayerRecord}

-- the code where a layer has one value or none
unfoldable pub flat_code : ℕ → ℕ → ℕ → ℕ
flat_code missing mark w = cond (eqb w mark) missing 0

-- r is the one value of a summary, or +0 where it has none
abbrev pub One : meaning.Summary → ℕ → Type 0
One meaning.Nothing r = r ≡ 0
One (meaning.Flat a) r = r ≡ a
One (meaning.Spread a z) r = ⊥

-- a layer as the code stores it
pub record PackedAs (l : LayerRecord) (m : meaning.Layer) : Type 0 where
  pub reference : to_bits binary32 l.reference ≡ m.reference
  pub exponent : l.exponent ≡ stored_exponent m
