-- Document 02 (f), "Byte planes on the new store": the bytes of an array's readings in planes, conversion to them and from them, and trimming in planes. For every number B of
-- bytes per reading.
use Rattle.std.specs.Prelude.{◌≡◌, Bool, true, ℕ, zero, suc, ◌+◌, ◌*◌, ◌/◌, ◌%◌, ◌^◌, leb, ltb, eqb, ℤ, length, take, drop, replicate}
use mathlib.Core.List.{List, [], ◌∷◌, ◌++◌, map, zip_with}
use Rattle.meaning.specs.Methods.{Method, Counts, trim_from, counts}
use Rattle.meaning.specs.Questions.{Outcome, accepted, ask, all, setting_in_range, method_of}
use Rattle.meaning.specs.Calls.{Call, answering, leaving, trim, in_turn}

-- "the first bytes of all readings stand together, then all second bytes", "lowest byte first": the plane of the lowest bytes, then the planes of what stands above them
unfoldable pub planes : ℕ → List ℕ → List ℕ
planes zero ws = []
planes (suc B) ws = map (λ w. w % 256) ws ++ planes B (map (λ w. w / 256) ws)

-- and back: n readings, each of them its lowest byte and 256 times what the planes above that give
unfoldable pub readings : ℕ → ℕ → List ℕ → List ℕ
readings zero n ps = replicate n 0
readings (suc B) n ps = zip_with (λ low above. low + 256 * above) (take n ps) (readings B n (drop n ps))

-- "13, if the plane buffer isn't exactly that number times bytes per reading long": n readings, and the buffer's length
abbrev pub planes_fit : ℕ → ℕ → ℕ → Bool
planes_fit B n buffer = eqb buffer (n * B)

-- ---- conversion: the answer, and the lent array that is written, afterwards

pub record AfterConversion : Type 0 where
  pub answer : Outcome (Unit {0})
  pub content : List ℕ

-- "a conversion takes it from the array": the number of readings
unfoldable pub planes_question : ℕ → ℕ → ℕ → Outcome (Unit {0})
planes_question B n buffer = ask (planes_fit B n buffer) 13 (accepted tt)

-- "conversion to it": the last is the buffer as it was before
unfoldable pub to_planes : ℕ → List ℕ → List ℕ → AfterConversion
to_planes B ws buffer =
    let asked = planes_question B (length ws) (length buffer) in
    record { answer = asked; content = leaving asked (λ _. planes B ws) buffer }

-- "and from it": the last is the array as it was before
unfoldable pub from_planes : ℕ → List ℕ → List ℕ → AfterConversion
from_planes B ps ws =
    let asked = planes_question B (length ws) (length ps) in
    record { answer = asked; content = leaving asked (λ _. readings B (length ws) ps) ws }

-- ---- trimming in planes: the answer, and the lent planes afterwards

pub record AfterTrimPlanes : Type 0 where
  pub answer : Outcome Counts
  pub content : List ℕ

module _ (B F X : ℕ) where
  -- "asked after 2 where a setting is given"
  unfoldable pub trim_planes_questions : ℕ → ℤ → ℕ → ℕ → Outcome Method
  trim_planes_questions method setting n buffer =
      ask (leb method 6) 1
      (ask (setting_in_range F X method setting) 2
      (ask (planes_fit B n buffer) 13
      (accepted (method_of F X method setting))))

  -- "Trimming in planes is told the number of readings"
  unfoldable pub trim_planes : ℕ → ℤ → ℕ → ℕ → List ℕ → AfterTrimPlanes
  trim_planes method setting mark n ps =
      let asked = trim_planes_questions method setting n (length ps) in
      let ws = readings B n ps in
      record { answer = answering asked (λ x. counts F X x mark ws); content = leaving asked (λ x. planes B (trim_from F X x mark 0 ws)) ps }

  -- a list of trims in planes: each call gets the planes as the last one left them
  unfoldable pub in_turn_planes : List Call → ℕ → ℕ → List ℕ → List ℕ
  in_turn_planes [] mark n ps = ps
  in_turn_planes (c ∷ cs) mark n ps = in_turn_planes cs mark n (trim_planes c.method c.setting mark n ps).content

abbrev pub trim_planes_singles : ℕ → ℤ → ℕ → ℕ → List ℕ → AfterTrimPlanes
trim_planes_singles = trim_planes 4 23 8

abbrev pub trim_planes_doubles : ℕ → ℤ → ℕ → ℕ → List ℕ → AfterTrimPlanes
trim_planes_doubles = trim_planes 8 52 11

-- ---- what is promised

-- every number fits in B bytes
abbrev pub InBytes : ℕ → List ℕ → Type 0
InBytes B ws = all (λ w. ltb w (256 ^ B)) ws ≡ true

-- the conversions undo each other, and lose nothing
pub record Inverse (B : ℕ) : Type 0 where
  pub there_and_back : (ws : List ℕ) → InBytes B ws → readings B (length ws) (planes B ws) ≡ ws
  pub back_and_there : (n : ℕ) (ps : List ℕ) → length ps ≡ n * B → InBytes 1 ps → planes B (readings B n ps) ≡ ps
  -- and so an array goes through a buffer of the right length, whatever this and the array that comes back held before
  pub converted : (ws buffer before : List ℕ) → InBytes B ws → length buffer ≡ length ws * B → length before ≡ length ws → (from_planes B (to_planes B ws buffer).content before).content ≡ ws

-- "Trimming in planes must give the planes of the trimmed array, for every method, and the same counts"; calls that are refused by 1 or 2 included
pub record InPlanes (B F X : ℕ) : Type 0 where
  pub same_answer : (method : ℕ) (setting : ℤ) (mark : ℕ) (ws : List ℕ) → InBytes B ws → (trim_planes B F X method setting mark (length ws) (planes B ws)).answer ≡ (trim F X method setting mark ws).answer
  pub same_planes : (method : ℕ) (setting : ℤ) (mark : ℕ) (ws : List ℕ) → InBytes B ws
      → (trim_planes B F X method setting mark (length ws) (planes B ws)).content ≡ planes B (trim F X method setting mark ws).readings
  -- and so after every list of calls, those refused by 1 or 2 included: what demand 3 says of an array is said of its planes. A call refused by 13 leaves the planes as they were
  pub same_in_turn : 2 ^ suc (F + X) ≡ 256 ^ B → (cs : List Call) (mark : ℕ) (ws : List ℕ) → InBytes B ws → in_turn_planes B F X cs mark (length ws) (planes B ws) ≡ planes B (in_turn F X cs mark ws)
