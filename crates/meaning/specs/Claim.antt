-- Demand 3 as one statement about a whole list of calls, readable without its proof (proofs/Claim.antt, proofs/Packed.antt).
use Rattle.std.specs.Prelude.{◌≡◌, ◌↔◌, ◌≢◌, Bool, true, false, ◌||◌, List, [], ℕ, ◌+◌, ◌*◌, ◌/◌, ◌^◌, ◌≤◌, ◌<◌, ℤ, pos, length, get_or, take, drop}
use Rattle.std.specs.Int.Signed.{lt_z}
use Rattle.meaning.specs.Readings.{sign, magnitude, finite, magnitude_of, origin, position, distance}
use Rattle.meaning.specs.Methods.{Method, tail, round, absolute, digits, trimmable}
use Rattle.meaning.specs.Layers.{Layer, missing_code, holds, summary, span, code_meaning}
use Rattle.meaning.specs.Questions.{accepted, above, all, exponent_in_range}
use Rattle.meaning.specs.Calls.{Call, AfterPack, in_turn, accepted_calls, largest_unit, pack, stored_layer}

-- "only roundings, to keep bits and absolute steps in any mixture"
unfoldable pub rounds : Method → Bool
rounds (tail c k) = false
rounds (round k) = true
rounds (absolute q) = true
rounds (digits n) = false

-- "or only shaves, sets, grooms and halfshaves"
unfoldable pub changes_tail : Method → Bool
changes_tail (tail c k) = true
changes_tail (round k) = false
changes_tail (absolute q) = false
changes_tail (digits n) = false

unfoldable pub one_kind : List Method → Bool
one_kind xs = all rounds xs || all changes_tail xs

-- What is promised of one place: w is the reading at the start, v at the end, and xs are the accepted calls.
pub record Kept (F X mark : ℕ) (xs : List Method) (w v : ℕ) : Type 0 where
  -- "a reading is missing exactly when it began missing"
  pub mark_stays : (v ≡ mark) ↔ (w ≡ mark)
  -- missing readings, infinities and NaNs are as they were
  pub others_stay : trimmable F X mark w ≡ false → v ≡ w
  -- a present finite reading is finite at the end, and keeps its sign
  pub finite_stays : trimmable F X mark w ≡ true → finite F X v ≡ true
  pub sign_stays : sign F X v ≡ sign F X w
  -- "stands less than one unit from where it began. The unit is the largest that any of them has at the original reading."
  pub near : trimmable F X mark w ≡ true → distance (position F X w) (position F X v) < largest_unit F xs (magnitude F X w)
  -- Beyond the demand, since the original is wiped: the same of the unit at the reading that is left.
  pub near_left : trimmable F X mark w ≡ true → distance (position F X w) (position F X v) < largest_unit F xs (magnitude F X v)

-- "For every list of calls that trim one array with one mark, in either width, whatever the array first holds, refused calls included"
pub record ListClaim (F X : ℕ) (cs : List Call) (mark : ℕ) (ws : List ℕ) : Type 0 where
  -- "a list with no accepted call leaves the array as it was"
  pub none_accepted : accepted_calls F X cs ≡ [] → in_turn F X cs mark ws ≡ ws
  pub as_long : length (in_turn F X cs mark ws) ≡ length ws
  pub each_place : 0 < length (accepted_calls F X cs) → one_kind (accepted_calls F X cs) ≡ true
      → (i : ℕ) → i < length ws → Kept F X mark (accepted_calls F X cs) (get_or ws i 0) (get_or (in_turn F X cs mark ws) i 0)

-- "If singles are then packed with that mark": w is the reading at the start, c its code, and l its layer's width, reference and step.
pub record Coded (mark : ℕ) (xs : List Method) (w : ℕ) (l : Layer) (c : ℕ) : Type 0 where
  -- "a code is the missing one exactly where the reading began missing", the missing code of the layer's width
  pub is_missing_code : (c ≡ missing_code l.width) ↔ (w ≡ mark)
  -- Beyond the demand, since "the store drops its idle top bits": no code has a bit above its layer's width.
  pub in_width : c ≤ missing_code l.width
  -- "every other code's exact meaning lies less than that unit plus half its layer's step from the original"
  pub near : w ≢ mark → 2 * distance (position 23 8 w) (code_meaning 23 8 l c) < 2 * largest_unit 23 xs (magnitude 23 8 w) + 2 ^ l.exponent
  -- Beyond the demand: the same of the unit at the largest reading that this code and step can stand for, so that nothing of the original is needed.
  pub near_left : w ≢ mark
      → 2 * distance (position 23 8 w) (code_meaning 23 8 l c)
      < 2 * largest_unit 23 xs (magnitude_of 23 8 (distance (code_meaning 23 8 l c) (origin 23 8) + 2 ^ l.exponent / 2)) + 2 ^ l.exponent

-- "Each layer's step exponent holds the span of what was packed in that layer, and every other exponent .. that holds it is larger": document 02 (e), "the exponents of
-- this range whose 2^w - 2 steps hold the span". Of a layer of width w and span n, with the exponent e.
pub record LeastHolding (w n : ℕ) (e : ℤ) : Type 0 where
  pub in_range : exponent_in_range e ≡ true
  pub itself : holds w n (above 149 e) ≡ true
  pub others_larger : (d : ℤ) → exponent_in_range d ≡ true → holds w n (above 149 d) ≡ true → d ≢ e → lt_z e d ≡ true

-- layer j by its width, and its reference and exponent as they are stored
abbrev pub layer_at : List ℕ → List ℕ → List ℤ → ℕ → Layer
layer_at widths references exponents j = stored_layer (get_or widths j 0) (get_or references j 0) (get_or exponents j (pos 0))

-- "The packing that may follow gets the array as the list left it, with any L, and is judged by the codes, references and exponents that it leaves."
pub record PackClaim (cs : List Call) (mark : ℕ) (ws : List ℕ) (L : ℕ) (widths : List ℕ) (p : AfterPack) : Type 0 where
  pub widths_long : length widths ≡ length ws / L
  pub codes_long : length p.codes ≡ length ws
  pub references_long : length p.references ≡ length ws / L
  pub exponents_long : length p.exponents ≡ length ws / L
  -- place i is in layer i / L
  pub each_code : (i : ℕ) → i < length ws
      → Coded mark (accepted_calls 23 8 cs) (get_or ws i 0) (layer_at widths p.references p.exponents (i / L)) (get_or p.codes i 0)
  pub each_layer : (j : ℕ) → j < length ws / L
      → LeastHolding (get_or widths j 0) (span 23 8 (summary 23 8 mark (take L (drop (j * L) (in_turn 23 8 cs mark ws))))) (get_or p.exponents j (pos 0))

-- Demand 3; of packing, for every list of widths that it accepts.
pub record Demand3 : Type 0 where
  pub singles : (cs : List Call) (mark : ℕ) (ws : List ℕ) → ListClaim 23 8 cs mark ws
  pub doubles : (cs : List Call) (mark : ℕ) (ws : List ℕ) → ListClaim 52 11 cs mark ws
  pub packing : (cs : List Call) (mark : ℕ) (ws : List ℕ) → 0 < length (accepted_calls 23 8 cs) → one_kind (accepted_calls 23 8 cs) ≡ true
      → (L : ℕ) (widths codes references : List ℕ) (exponents : List ℤ)
      → let p = pack mark L widths (in_turn 23 8 cs mark ws) codes references exponents in
      p.answer ≡ accepted tt → PackClaim cs mark ws L widths p
