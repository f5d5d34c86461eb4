-- Document 02 (e), "The old form is w = 16": packing and unpacking as document 01 has them, in its own numbers, and the claim that the calls give just that where every
-- layer has the width 16.
use Rattle.std.specs.Prelude.{◌≡◌, cond, ◌&&◌, ℕ, zero, suc, ◌-◌, ◌*◌, ◌/◌, ◌^◌, ◌<◌, leb, eqb, ℤ, length, get_or, replicate}
use mathlib.Core.List.{List, map, flat_map, zip_with, flatten}
use Rattle.meaning.specs.Readings.{finite, position, missing}
use Rattle.meaning.specs.Methods.{nearest}
use Rattle.meaning.specs.Layers.{Layer, smallest, summary, span, layers, nearest_double, code_meaning}
use Rattle.meaning.specs.Questions.{accepted, ask, all, is_nan, length_in_range, whole, packable, exponent_in_range, pack_questions, unpack_questions}
use Rattle.meaning.specs.Calls.{stored_exponent, stored_layers, pack, unpack}

-- "Step exponent E: the least in -149 to 114 with largest minus smallest ≤ 65,534 times 2^E", counted from -149: the least from e on, of at most `more` after it
unfoldable pub old_exponent : ℕ → ℕ → ℕ → ℕ
old_exponent span zero e = e
old_exponent span (suc more) e = let later = old_exponent span more (suc e) in cond (leb span (65534 * 2 ^ e)) e later

module _ (mark : ℕ) where
  unfoldable pub old_layer : List ℕ → Layer
  old_layer ws =
      let s = summary 23 8 mark ws in
      record { width = 16; reference = smallest s; exponent = old_exponent (span 23 8 s) 263 0 }

  -- "Code: (reading - R) / 2^E to the nearest whole number, ties to even; 65,535 means missing."
  unfoldable pub old_code : Layer → ℕ → ℕ
  old_code l w = cond (missing mark w) 65535 (nearest (position 23 8 w - position 23 8 l.reference) (2 ^ l.exponent))

  unfoldable pub old_codes : ℕ → List ℕ → List ℕ
  old_codes L ws = flat_map (λ part. map (old_code (old_layer part)) part) (layers L ws)

  unfoldable pub old_layers : ℕ → List ℕ → List Layer
  old_layers L ws = map old_layer (layers L ws)

-- "a missing code becomes the caller's double mark"
unfoldable pub old_double : ℕ → Layer → ℕ → ℕ
old_double mark l c = cond (eqb c 65535) mark (nearest_double (code_meaning 23 8 l c))

unfoldable pub old_doubles : ℕ → ℕ → List Layer → List ℕ → List ℕ
old_doubles mark L ls cs = flatten (zip_with (λ l part. map (old_double mark l) part) ls (layers L cs))

-- the width 16 for each layer of L, of n readings (or codes)
abbrev pub sixteens : ℕ → ℕ → List ℕ
sixteens n L = replicate (n / L) 16

pub record OldForm : Type 0 where
  -- packing asks what it asked
  pub pack_asks : (mark L : ℕ) (ws : List ℕ) (codes references exponents : ℕ)
      → pack_questions mark L (sixteens (length ws) L) ws codes references exponents
      ≡ ask (length_in_range L) 3
      (ask (whole (length ws) L) 4
      (ask (eqb codes (length ws) && eqb references (length ws / L) && eqb exponents (length ws / L)) 5
      (ask (all (packable mark) ws) 6
      (accepted tt))))
  -- and leaves the codes, references and exponents that it left
  pub packing : (mark L : ℕ) (ws codes references : List ℕ) (exponents : List ℤ)
      → let p = pack mark L (sixteens (length ws) L) ws codes references exponents in
      p.answer ≡ accepted tt
      → (p.codes ≡ old_codes mark L ws) × (p.references ≡ map (λ l. l.reference) (old_layers mark L ws)) × (p.exponents ≡ map stored_exponent (old_layers mark L ws))
  -- unpacking asks what it asked of codes of 16 bits, but for the exponents, which it now takes to 128
  pub unpack_asks : (mark L : ℕ) (cs rs : List ℕ) (es : List ℤ) (readings : ℕ) → ((i : ℕ) → i < length cs → get_or cs i 0 < 65536)
      → unpack_questions mark L (sixteens (length cs) L) cs rs es readings
      ≡ ask (length_in_range L) 3
      (ask (whole (length cs) L) 4
      (ask (eqb readings (length cs) && eqb (length rs) (length cs / L) && eqb (length es) (length cs / L)) 5
      (ask (all (finite 23 8) rs && all exponent_in_range es) 7
      (ask (is_nan 52 11 mark) 8
      (accepted tt)))))
  -- and where it is accepted, it leaves the doubles that it left
  pub unpacking : (mark L : ℕ) (cs rs : List ℕ) (es : List ℤ) (readings : List ℕ)
      → let u = unpack mark L (sixteens (length cs) L) cs rs es readings in
      u.answer ≡ accepted tt → u.readings ≡ old_doubles mark L (stored_layers (sixteens (length cs) L) rs es) cs
