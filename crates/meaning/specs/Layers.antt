-- Document 01, "Layers", with document 02 (e), "A code width for each layer". Exponents are counted from -149, so that E in -149 to 128
-- is 0 to 277 here and the step is 2 ^ exponent least spacings.
use Rattle.std.specs.Prelude.{Bool, cond, ℕ, zero, suc, ◌+◌, ◌-◌, ◌*◌, ◌/◌, ◌^◌, leb, eqb, length, take, drop}
use mathlib.Core.List.{List, [], ◌∷◌, map, zip_with, flatten}
use Rattle.meaning.specs.Readings.{spacing, magnitude, pattern, magnitude_of, least_exp, origin, position, missing}
use Rattle.meaning.specs.Methods.{nearest}

-- "A layer's summary has three kinds: nothing present, one value throughout, or a smallest and a largest value, each held as a single."
pub data Summary : Type 0 where
  Nothing : Summary
  Flat : ℕ → Summary
  Spread : ℕ → ℕ → Summary

-- "Reference R: the smallest present value; +0 if nothing is present."
unfoldable pub smallest : Summary → ℕ
smallest Nothing = 0
smallest (Flat a) = a
smallest (Spread a z) = a

-- "Each layer's record now holds a width w": how wide its codes are, and what they are counted from and in, the reference R, a pattern, and the step exponent E.
pub record Layer : Type 0 where
  pub width : ℕ
  pub reference : ℕ
  pub exponent : ℕ

-- "Codes run to 2^w - 2, the missing code is 2^w - 1"
unfoldable pub missing_code : ℕ → ℕ
missing_code w = 2 ^ w - 1

unfoldable pub last_code : ℕ → ℕ
last_code w = 2 ^ w - 2

-- "whose 2^w - 2 steps hold the span": the span is at most 2^w - 2 times 2 to that exponent
unfoldable pub holds : ℕ → ℕ → ℕ → Bool
holds w span e = leb span (last_code w * 2 ^ e)

-- the least exponent from e on that holds the span, of at most `more` after it; the last of them where none holds it, which packing never meets
unfoldable pub least_from : ℕ → ℕ → ℕ → ℕ → ℕ
least_from w span zero e = e
least_from w span (suc more) e = let later = least_from w span more (suc e) in cond (holds w span e) e later

-- "A layer is a run of L singles": n runs of L
unfoldable pub runs : ℕ → ℕ → List ℕ → List (List ℕ)
runs L zero ws = []
runs L (suc n) ws = take L ws ∷ runs L n (drop L ws)

unfoldable pub layers : ℕ → List ℕ → List (List ℕ)
layers L ws = runs L (length ws / L) ws

module _ (F X : ℕ) where
  -- "A zero in it is +0"
  unfoldable pub plus_zero : ℕ → ℕ
  plus_zero w = cond (eqb (magnitude F X w) 0) 0 w

  -- the smaller and the larger of two values
  unfoldable pub smaller : ℕ → ℕ → ℕ
  smaller v w = cond (leb (position F X v) (position F X w)) v w

  unfoldable pub larger : ℕ → ℕ → ℕ
  larger v w = cond (leb (position F X v) (position F X w)) w v

  -- a summary with one more value
  unfoldable pub widened : ℕ → Summary → Summary
  widened v Nothing = Flat v
  widened v (Flat a) = cond (eqb v a) (Flat a) (Spread (smaller v a) (larger v a))
  widened v (Spread a z) = Spread (smaller v a) (larger v z)

  -- "missing readings play no part in it"
  unfoldable pub summary : ℕ → List ℕ → Summary
  summary mark [] = Nothing
  summary mark (w ∷ ws) = let rest = summary mark ws in cond (missing mark w) rest (widened (plus_zero w) rest)

  -- "Span: largest minus smallest, and 0 if nothing is present."
  unfoldable pub span : Summary → ℕ
  span Nothing = 0
  span (Flat a) = 0
  span (Spread a z) = position F X z - position F X a

  -- "the step exponent is the least from -149 to 128 whose 2^w - 2 steps hold the span", here from 0 to `last`; of a layer of width w
  unfoldable pub layer_of : ℕ → ℕ → ℕ → List ℕ → Layer
  layer_of last mark w ws =
      let s = summary mark ws in
      record { width = w; reference = smallest s; exponent = least_from w (span s) last 0 }

  -- "Code: (reading - R) / 2^E to the nearest whole number, ties to even", and the missing code of the layer's width
  unfoldable pub code : ℕ → Layer → ℕ → ℕ
  code mark l r = cond (missing mark r) (missing_code l.width) (nearest (position F X r - position F X l.reference) (2 ^ l.exponent))

  -- "The exact meaning of a code that isn't the missing one is R plus code times the step, with nothing rounded": its position
  unfoldable pub code_meaning : Layer → ℕ → ℕ
  code_meaning l c = position F X l.reference + c * 2 ^ l.exponent

  -- "Each layer is packed into its own part of the codes, and the reference and exponent arrays have one entry per layer", as the array of widths has.
  unfoldable pub packed_layers : ℕ → ℕ → ℕ → List ℕ → List ℕ → List Layer
  packed_layers last mark L widths ws = zip_with (layer_of last mark) widths (layers L ws)

  unfoldable pub packed_codes : ℕ → ℕ → ℕ → List ℕ → List ℕ → List ℕ
  packed_codes last mark L widths ws = flatten (zip_with (λ w part. map (code mark (layer_of last mark w part)) part) widths (layers L ws))

-- ---- unpacking

-- The double magnitude nearest to a size, ties to even: the nearest multiple of the spacing there.
unfoldable pub nearest_magnitude : ℕ → ℕ
nearest_magnitude n = let g = spacing 52 (magnitude_of 52 11 n) in magnitude_of 52 11 (nearest n g * g)

-- The double nearest to a position of singles. A least spacing of singles is 2 ^ (1074 - 149) of doubles. An exact zero is +0,
-- as in IEEE 754 the sum of a product that is +0 and a zero of either sign is, and that of x and -x.
unfoldable pub nearest_double : ℕ → ℕ
nearest_double p =
    let scale = 2 ^ (least_exp 52 11 - least_exp 23 8) in
    cond (leb (origin 23 8) p)
    (pattern 52 11 0 (nearest_magnitude ((p - origin 23 8) * scale)))
    (pattern 52 11 1 (nearest_magnitude ((origin 23 8 - p) * scale)))

-- "the code as a double, times 2^E, plus R, so that only the addition rounds; a missing code becomes the caller's double mark"
unfoldable pub unpacked_code : ℕ → Layer → ℕ → ℕ
unpacked_code mark l c = cond (eqb c (missing_code l.width)) mark (nearest_double (code_meaning 23 8 l c))

unfoldable pub unpacked_codes : ℕ → ℕ → List Layer → List ℕ → List ℕ
unpacked_codes mark L ls cs = flatten (zip_with (λ l part. map (unpacked_code mark l) part) ls (layers L cs))
