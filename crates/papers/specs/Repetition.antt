-- 001, section 4.1, holds it safe to trim data again. A second call with the same method, setting and mark changes nothing, for every reading and every mark, clipped and
-- spared readings included; digits alone is no such method (`DigitsAgain` in Cases.antt).
use Rattle.std.specs.Prelude.{◌≡◌, ◌≢◌, List, ℕ, ◌≤◌, ◌<◌}
use Rattle.meaning.specs.Readings.{infinity}
use Rattle.meaning.specs.Methods.{Method, TailMethod, tail, halfshave, round, absolute, digits, new_magnitude, trimmed, trim_from}

-- every method but digits
abbrev pub NoDigits : Method → Type 0
NoDigits x = (n : ℕ) → x ≢ digits n

pub record Repetition (F X : ℕ) : Type 0 where
  -- one reading
  pub reading_stays : (x : Method) → NoDigits x → (mark turn w : ℕ) → trimmed F X x mark turn (trimmed F X x mark turn w) ≡ trimmed F X x mark turn w
  -- an array, groom's turns included: a reading takes the same turn again
  pub array_stays : (x : Method) → NoDigits x → (mark turn : ℕ) (ws : List ℕ)
      → trim_from F X x mark turn (trim_from F X x mark turn ws) ≡ trim_from F X x mark turn ws

-- 001, section 4.1: trimmed data can be made rounder, not sharper. Of magnitudes, so of readings for which neither result is the mark.
pub record Rounder (F X : ℕ) : Type 0 where
  -- Fewer keep bits after more give what fewer alone give: methods 0 to 3. Round doesn't (P10).
  pub tail_rounder : (c : TailMethod) (k j turn m : ℕ) → k ≤ j → new_magnitude F X (tail c k) turn (new_magnitude F X (tail c j) turn m) ≡ new_magnitude F X (tail c k) turn m
  -- More keep bits after fewer change nothing: shave, set, groom and round, and absolute with a unit that is no larger. Halfshave does (`HalfshaveSharper` in Cases.antt).
  pub tail_no_sharper : (c : TailMethod) → c ≢ halfshave → (k j turn m : ℕ) → k ≤ j
      → new_magnitude F X (tail c j) turn (new_magnitude F X (tail c k) turn m) ≡ new_magnitude F X (tail c k) turn m
  pub round_no_sharper : (k j turn m : ℕ) → k ≤ j → m < infinity F X
      → new_magnitude F X (round j) turn (new_magnitude F X (round k) turn m) ≡ new_magnitude F X (round k) turn m
  pub absolute_no_sharper : (p q turn m : ℕ) → q ≤ p → m < infinity F X
      → new_magnitude F X (absolute q) turn (new_magnitude F X (absolute p) turn m) ≡ new_magnitude F X (absolute p) turn m
