-- 000, sections 2.1.2 and 2.1.3, gives packing and layer packing with no bound. Document 01's layers of singles have these, for every width that document 02 (e) gives them.
use Rattle.std.specs.Prelude.{◌≡◌, true, ◌≢◌, List, ℕ, ◌*◌, ◌^◌, ◌≤◌, ◌<◌, length, get_or}
use Rattle.meaning.specs.Readings.{finite, position, distance}
use Rattle.meaning.specs.Layers.{Layer, last_code, summary, span, layer_of, code, code_meaning}

-- the layer of width w: its reference, and its step exponent counted from -149; the span, the same for every width; and the exact meaning of the code at a place
abbrev pub layer : ℕ → ℕ → List ℕ → Layer
layer mark w ws = layer_of 23 8 277 mark w ws

abbrev pub span_of : ℕ → List ℕ → ℕ
span_of mark ws = span 23 8 (summary 23 8 mark ws)

abbrev pub meaning_at : ℕ → ℕ → List ℕ → ℕ → ℕ
meaning_at mark w ws i = code_meaning 23 8 (layer mark w ws) (code 23 8 mark (layer mark w ws) (get_or ws i 0))

-- every present reading of the layer is finite
abbrev pub AllFinite : ℕ → List ℕ → Type 0
AllFinite mark ws = (i : ℕ) → i < length ws → get_or ws i 0 ≢ mark → finite 23 8 (get_or ws i 0) ≡ true

-- of layers of a width w of at least 2
pub record LayerBounds (w : ℕ) : Type 0 where
  -- a code stands for a value within half a step of the reading
  pub half_step : (mark : ℕ) (ws : List ℕ) → AllFinite mark ws → (i : ℕ) → i < length ws → get_or ws i 0 ≢ mark
      → 2 * distance (position 23 8 (get_or ws i 0)) (meaning_at mark w ws i) ≤ 2 ^ (layer mark w ws).exponent
  -- half a step is less than the span / (2^w - 2), unless the exponent is -149
  pub step_small : (mark : ℕ) (ws : List ℕ) → AllFinite mark ws → (layer mark w ws).exponent ≢ 0 → last_code w * 2 ^ (layer mark w ws).exponent < 2 * span_of mark ws
  -- and there packing loses nothing
  pub exact_least : (mark : ℕ) (ws : List ℕ) → AllFinite mark ws → (layer mark w ws).exponent ≡ 0 → (i : ℕ) → i < length ws → get_or ws i 0 ≢ mark
      → meaning_at mark w ws i ≡ position 23 8 (get_or ws i 0)
  -- so every value is within the span / (2^w - 2)
  pub within_span : (mark : ℕ) (ws : List ℕ) → AllFinite mark ws → (i : ℕ) → i < length ws → get_or ws i 0 ≢ mark
      → last_code w * distance (position 23 8 (get_or ws i 0)) (meaning_at mark w ws i) ≤ span_of mark ws
  -- 003, section 6, saw a smallest value of zero unpacked to one below it: here the smallest is exact, and nothing lies below it
  pub smallest_exact : (mark : ℕ) (ws : List ℕ) (i : ℕ) → get_or ws i 0 ≢ mark → position 23 8 (get_or ws i 0) ≡ position 23 8 (layer mark w ws).reference
      → meaning_at mark w ws i ≡ position 23 8 (get_or ws i 0)
  pub none_below : (mark : ℕ) (ws : List ℕ) (i : ℕ) → position 23 8 (layer mark w ws).reference ≤ meaning_at mark w ws i
