-- Unpacking rounds once, R plus code times the step to the nearest double: how far that double lies from the exact meaning of the code, where it is the exact meaning, and
-- how far it lies from the reading that was sent.
use Rattle.std.specs.Prelude.{◌≡◌, ◌⊎◌, ◌↔◌, ◌≢◌, true, cond, List, ℕ, ◌+◌, ◌*◌, ◌/◌, ◌^◌, ◌≤◌, ◌<◌, leb, ℤ, length, get_or}
use Rattle.meaning.specs.Readings.{size, spacing, spacing_exp, sign, magnitude, finite, magnitude_of, origin, position, distance}
use Rattle.meaning.specs.Methods.{Method, trimmable}
use Rattle.meaning.specs.Layers.{Layer, missing_code, code, code_meaning, nearest_double, unpacked_code}
use Rattle.meaning.specs.Questions.{accepted, is_nan}
use Rattle.meaning.specs.Calls.{Call, AfterPack, AfterUnpack, in_turn, accepted_calls, largest_unit, pack, unpack}
use Rattle.meaning.specs.Claim.{one_kind, Kept, Coded, layer_at}
use Rattle.papers.specs.LayerBounds.{layer, AllFinite}

-- a code of a layer, but not the missing one; widths are at most 16
abbrev pub CodeOf : Layer → ℕ → Type 0
CodeOf l c = (l.width ≤ 16) × (c < missing_code l.width)

-- what a code of a layer unpacks to, and the size of its exact meaning, in least spacings of doubles: one of singles is 2 ^ 925 of them
abbrev pub double : Layer → ℕ → ℕ
double l c = nearest_double (code_meaning 23 8 l c)

abbrev pub meaning_size : Layer → ℕ → ℕ
meaning_size l c = distance (code_meaning 23 8 l c) (origin 23 8) * 2 ^ 925

-- how far a single w and a double v lie apart, in least spacings of doubles: their exact signed sizes, counted from one point below both
abbrev pub apart : ℕ → ℕ → ℕ
apart w v = distance (position 23 8 w * 2 ^ 925 + origin 52 11) (position 52 11 v + origin 23 8 * 2 ^ 925)

-- The reference is zero, or the step is at most 2 ^ (53 - w) of its spacings, in a layer of width w, and a spacing is at most 2 ^ 29 steps: then 53 bits hold R and every code
-- times the step, and their sum.
abbrev pub HeldIn53 : Layer → Type 0
HeldIn53 l =
    (magnitude 23 8 l.reference ≡ 0)
    ⊎ ((l.exponent + l.width ≤ spacing_exp 23 (magnitude 23 8 l.reference) + 53) × (spacing_exp 23 (magnitude 23 8 l.reference) ≤ l.exponent + 29))

pub record Unpacked : Type 0 where
  -- `double` is what unpacking makes of a code, whatever the double mark
  pub is_unpacked : (mark : ℕ) (l : Layer) (c : ℕ) → c < missing_code l.width → unpacked_code mark l c ≡ double l c
  -- the double has the sign of the meaning, and +0 is its zero
  pub same_sign : (l : Layer) (c : ℕ) → finite 23 8 l.reference ≡ true → l.exponent ≤ 277 → CodeOf l c
      → sign 52 11 (double l c) ≡ cond (leb (origin 23 8) (code_meaning 23 8 l c)) 0 1
  -- it lies within half of its own spacing
  pub half_spacing : (l : Layer) (c : ℕ) → finite 23 8 l.reference ≡ true → l.exponent ≤ 277 → CodeOf l c
      → 2 * distance (size 52 (magnitude 52 11 (double l c))) (meaning_size l c) ≤ spacing 52 (magnitude 52 11 (double l c))
  -- code 0 is the reference, whatever the step
  pub reference_exact : (l : Layer) → finite 23 8 l.reference ≡ true → l.exponent ≤ 277 → size 52 (magnitude 52 11 (double l 0)) ≡ meaning_size l 0
  -- and every code is exact where 53 bits hold all
  pub exact : (l : Layer) (c : ℕ) → finite 23 8 l.reference ≡ true → l.exponent ≤ 277 → CodeOf l c → HeldIn53 l
      → size 52 (magnitude 52 11 (double l c)) ≡ meaning_size l c
  -- A code within half a step of a single above R has the second half of `HeldIn53` without being asked. Every code but 0 that packing makes is such a code.
  pub packed_held : (l : Layer) (c w : ℕ) → finite 23 8 l.reference ≡ true → finite 23 8 w ≡ true → c < missing_code l.width → position 23 8 l.reference < position 23 8 w
      → 2 * distance (position 23 8 w) (code_meaning 23 8 l c) ≤ 2 ^ l.exponent → spacing_exp 23 (magnitude 23 8 l.reference) ≤ l.exponent + l.width
  -- So what packing made of a reading unpacks exactly unless R is not zero and has a spacing below 2 ^ -(53 - width) steps, that is, unless R is tiny beside the step.
  pub packed_exact : (mark width : ℕ) (ws : List ℕ) → 2 ≤ width → width ≤ 16 → AllFinite mark ws
      → let l = layer mark width ws in
      (magnitude 23 8 l.reference ≡ 0) ⊎ (l.exponent + width ≤ spacing_exp 23 (magnitude 23 8 l.reference) + 53) → (i : ℕ) → i < length ws → get_or ws i 0 ≢ mark
      → let c = code 23 8 mark l (get_or ws i 0) in size 52 (magnitude 52 11 (double l c)) ≡ meaning_size l c
  -- The double lies within half a step of every single v that the meaning lies so near: rounding takes it no further. Where the meaning is rounded, 53 bits hold v less
  -- half a step and v more half a step, and the double doesn't pass them.
  pub half_kept : (l : Layer) (c v : ℕ) → finite 23 8 l.reference ≡ true → l.exponent ≤ 277 → CodeOf l c → finite 23 8 v ≡ true
      → 2 * distance (position 23 8 v) (code_meaning 23 8 l c) ≤ 2 ^ l.exponent → 2 * apart v (double l c) ≤ 2 ^ l.exponent * 2 ^ 925
  -- So what packing made of a reading lies within half a step of it after unpacking too.
  pub packed_half : (mark width : ℕ) (ws : List ℕ) → 2 ≤ width → width ≤ 16 → AllFinite mark ws → (i : ℕ) → i < length ws → get_or ws i 0 ≢ mark
      → let l = layer mark width ws in let c = code 23 8 mark l (get_or ws i 0) in 2 * apart (get_or ws i 0) (double l c) ≤ 2 ^ l.exponent * 2 ^ 925
  -- And demand 3's bound holds of the doubles as it stands: w is the single that was sent, xs are the accepted calls, and v is what they left (`Kept`) and was packed, with a
  -- code within half a step of it (`half_step` in LayerBounds.antt). `SentUnpacked`, below, has this of whole arrays.
  pub sent_kept : (mark : ℕ) (xs : List Method) (w v : ℕ) (l : Layer) (c : ℕ) → finite 23 8 l.reference ≡ true → l.exponent ≤ 277 → CodeOf l c
      → trimmable 23 8 mark w ≡ true → Kept 23 8 mark xs w v
      → 2 * distance (position 23 8 v) (code_meaning 23 8 l c) ≤ 2 ^ l.exponent → 2 * apart w (double l c) < (2 * largest_unit 23 xs (magnitude 23 8 w) + 2 ^ l.exponent) * 2 ^ 925
  -- the same of the unit that needs nothing of w, at the largest size that the code and the step can stand for
  pub sent_kept_left : (mark : ℕ) (xs : List Method) (w v : ℕ) (l : Layer) (c : ℕ) → finite 23 8 l.reference ≡ true → l.exponent ≤ 277 → CodeOf l c
      → trimmable 23 8 mark w ≡ true → Kept 23 8 mark xs w v → 2 * distance (position 23 8 v) (code_meaning 23 8 l c) ≤ 2 ^ l.exponent
      → 2 * apart w (double l c)
      < (2 * largest_unit 23 xs (magnitude_of 23 8 (distance (code_meaning 23 8 l c) (origin 23 8) + 2 ^ l.exponent / 2)) + 2 ^ l.exponent) * 2 ^ 925
  -- From a code's promise alone (`Coded`), without the reading that was packed: to the unit and half a step comes half a spacing of the double, which can't be left out here
  -- (`double_beyond` in Cases.antt).
  pub sent_near : (mark : ℕ) (xs : List Method) (w : ℕ) (l : Layer) (c : ℕ) → finite 23 8 l.reference ≡ true → l.exponent ≤ 277 → CodeOf l c → Coded mark xs w l c
      → 2 * apart w (double l c) < (2 * largest_unit 23 xs (magnitude 23 8 w) + 2 ^ l.exponent) * 2 ^ 925 + spacing 52 (magnitude 52 11 (double l c))
  pub sent_near_left : (mark : ℕ) (xs : List Method) (w : ℕ) (l : Layer) (c : ℕ) → finite 23 8 l.reference ≡ true → l.exponent ≤ 277 → CodeOf l c → Coded mark xs w l c
      → 2 * apart w (double l c)
      < (2 * largest_unit 23 xs (magnitude_of 23 8 (distance (code_meaning 23 8 l c) (origin 23 8) + 2 ^ l.exponent / 2)) + 2 ^ l.exponent) * 2 ^ 925
      + spacing 52 (magnitude 52 11 (double l c))

-- ---- from what was sent to the doubles, by way of every call

-- What is promised of one place: w is the single that was sent, xs are the accepted trims, l and c are the layer and the code that packing left, and v is the double.
pub record SentDouble (mark doubleMark : ℕ) (xs : List Method) (w : ℕ) (l : Layer) (c v : ℕ) : Type 0 where
  -- the double is the double mark exactly where the reading began missing
  pub missing_double : (v ≡ doubleMark) ↔ (w ≡ mark)
  -- elsewhere the single and the double are finite
  pub both_finite : w ≢ mark → (finite 23 8 w ≡ true) × (finite 52 11 v ≡ true)
  -- and lie less than the unit plus half the layer's step apart: the bound that demand 3 has of the code's exact meaning (`near` in `Coded`)
  pub near : w ≢ mark → 2 * apart w v < (2 * largest_unit 23 xs (magnitude 23 8 w) + 2 ^ l.exponent) * 2 ^ 925
  -- the same with the unit that needs nothing of w (`near_left` in `Coded`)
  pub near_left : w ≢ mark
      → 2 * apart w v < (2 * largest_unit 23 xs (magnitude_of 23 8 (distance (code_meaning 23 8 l c) (origin 23 8) + 2 ^ l.exponent / 2)) + 2 ^ l.exponent) * 2 ^ 925
  -- and with the unit at the size of the double plus half a step, so that the doubles and the step are enough
  pub near_double : w ≢ mark
      → 2 * apart w v < (2 * largest_unit 23 xs (magnitude_of 23 8 ((size 52 (magnitude 52 11 v) + 2 ^ l.exponent * 2 ^ 924) / 2 ^ 925)) + 2 ^ l.exponent) * 2 ^ 925

-- of the whole array: p is what the packing with these widths left, and u what the unpacking of that with them answers and leaves
pub record UnpackClaim (cs : List Call) (mark : ℕ) (ws : List ℕ) (L : ℕ) (widths : List ℕ) (p : AfterPack) (doubleMark : ℕ) (u : AfterUnpack) : Type 0 where
  pub is_accepted : u.answer ≡ accepted tt
  pub doubles_long : length u.readings ≡ length ws
  -- place i is in layer i / L
  pub each_double : (i : ℕ) → i < length ws
      → SentDouble mark doubleMark (accepted_calls 23 8 cs) (get_or ws i 0) (layer_at widths p.references p.exponents (i / L)) (get_or p.codes i 0) (get_or u.readings i 0)

-- Singles are trimmed by a list of calls as in demand 3, packed with any widths that packing accepts, and unpacked with the same L and widths, any NaN as double mark and a lent
-- array of the right length.
pub record SentUnpacked : Type 0 where
  pub sent_unpacked : (cs : List Call) (mark : ℕ) (ws : List ℕ) → 0 < length (accepted_calls 23 8 cs) → one_kind (accepted_calls 23 8 cs) ≡ true
      → (L : ℕ) (widths codes references : List ℕ) (exponents : List ℤ)
      → let p = pack mark L widths (in_turn 23 8 cs mark ws) codes references exponents in
      p.answer ≡ accepted tt → (doubleMark : ℕ) (doubles : List ℕ) → is_nan 52 11 doubleMark ≡ true → length doubles ≡ length ws
      → UnpackClaim cs mark ws L widths p doubleMark (unpack doubleMark L widths p.codes p.references p.exponents doubles)
