-- One code unpacked by floats: the code as a double, times the step, plus the reference.
use Rattle.std.specs.Prelude.{◌≡◌, Bool, true, false, cond, ℕ, ◌*◌, ◌^◌, ℤ, pos, Float}
use Rattle.std.specs.Float.{nan, inf, fin, binary32, binary64}
use Rattle.std.specs.Float.Ieee.{of_int, mul, add, eq, to_bits}
use Rattle.std.specs.Float.Ieee.Exact.{HasValue}
use Rattle.meaning.specs.Readings.{origin}
use Rattle.meaning.specs.Layers.{code_meaning, nearest_double}
use Rattle.meaning.specs.Questions.{above}
use Rattle.meaning.specs.Calls.{stored_layer}
use Rattle.decoding.specs.declared.LayerFloats.{LayerFloats}

abbrev pub finite_float : Float → Bool
finite_float nan = false
finite_float (inf s) = false
finite_float (fin s m e) = true

-- 2^e
abbrev pub two_to : ℤ → Float
two_to e = fin false 1 e

pub record Finite (l : LayerFloats) : Type 0 where
  pub reference : finite_float l.reference ≡ true
  pub step : finite_float l.step ≡ true

-- "the code as a double, times 2^E, plus R"
unfoldable pub unpacked : LayerFloats → ℕ → Float
unpacked l code = add binary64 (mul binary64 (of_int binary64 (pos code)) l.step) l.reference

-- its pattern, or the mark for the layer's missing code
unfoldable pub decoded : LayerFloats → ℕ → ℕ → ℕ
decoded l mark code = cond (eq (of_int binary64 (pos code)) l.missing) mark (to_bits binary64 (unpacked l code))

-- "so that only the addition rounds": of a code in a layer of width w whose step is 2^e
pub record RoundedOnce (l : LayerFloats) (w : ℕ) (e : ℤ) (code : ℕ) : Type 0 where
  -- the product is exact; sizes are counted in least spacings of singles
  pub product : HasValue (mul binary64 (of_int binary64 (pos code)) l.step) false (code * 2 ^ above 149 e) (2 ^ 149)
  -- the sum is the double nearest to the exact meaning of the code, finite, and +0 where that is zero
  pub nearest : to_bits binary64 (unpacked l code) ≡ nearest_double (code_meaning 23 8 (stored_layer w (to_bits binary32 l.reference) e) code)
  pub finite : finite_float (unpacked l code) ≡ true
  pub zero : code_meaning 23 8 (stored_layer w (to_bits binary32 l.reference) e) code ≡ origin 23 8 → to_bits binary64 (unpacked l code) ≡ 0
