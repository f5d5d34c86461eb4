-- What each call answers and leaves, accepted or refused (demand 1, and "An accepted trim works on the lent array itself"); and lists of calls (demand 3).
use Rattle.std.specs.Prelude.{Bool, cond, ℕ, max, ◌+◌, ◌^◌, ℤ, length}
use mathlib.Core.List.{List, [], ◌∷◌, map, zip_with}
use Rattle.std.proofs.Math.IntN.{sub_ℕ}
use Rattle.meaning.specs.Methods.{Method, Counts, unit, trimmed, risen, fallen, trim_from, counts}
use Rattle.meaning.specs.Layers.{Layer, packed_layers, packed_codes, unpacked_codes}
use Rattle.meaning.specs.Questions.{Outcome, refused, accepted, above, trim_questions, pack_questions, unpack_questions}

-- "A refused call answers the number alone."
unfoldable pub answering : {A B : Type 0} → Outcome A → (A → B) → Outcome B
answering (refused n) f = refused n
answering (accepted a) f = accepted (f a)

-- "a refusal, which .. changes no array": what was there before stays
unfoldable pub leaving : {A B : Type 0} → Outcome A → (A → B) → B → B
leaving (refused n) f before = before
leaving (accepted a) f before = f a

-- ---- trimming

-- the answer, and the lent array afterwards
pub record AfterTrim : Type 0 where
  pub answer : Outcome Counts
  pub readings : List ℕ

module _ (F X : ℕ) where
  unfoldable pub trim : ℕ → ℤ → ℕ → List ℕ → AfterTrim
  trim method setting mark ws =
      let asked = trim_questions F X method setting in
      record { answer = answering asked (λ x. counts F X x mark ws); readings = leaving asked (λ x. trim_from F X x mark 0 ws) ws }

abbrev pub trim_singles : ℕ → ℤ → ℕ → List ℕ → AfterTrim
trim_singles = trim 23 8

abbrev pub trim_doubles : ℕ → ℤ → ℕ → List ℕ → AfterTrim
trim_doubles = trim 52 11

-- "the pattern that the array call would leave at that place, or 2^32 plus the refusal number"
unfoldable pub loader_number : Outcome ℕ → ℕ
loader_number (refused n) = 2 ^ 32 + n
loader_number (accepted number) = number

-- document 02 (a): "the C loader's number gains 2^33 for a rise, 2^34 for a fall"
unfoldable pub gain : Bool → Bool → ℕ
gain rose fell = cond rose (2 ^ 33) 0 + cond fell (2 ^ 34) 0

-- what trimming one single says: its pattern, and with the gain whether its exact value rose, fell or stayed
unfoldable pub told : Method → ℕ → ℕ → ℕ → ℕ
told x mark turn w = trimmed 23 8 x mark turn w + gain (risen 23 8 x mark turn w) (fallen 23 8 x mark turn w)

-- document 02 (b): "The C loader passes the turn (how many present finite readings came before) instead of the place."
unfoldable pub loader : ℕ → ℤ → ℕ → ℕ → ℕ → ℕ
loader method setting mark turn w = loader_number (answering (trim_questions 23 8 method setting) (λ x. told x mark turn w))

-- ---- packing and unpacking: the answer, and the lent arrays afterwards

pub record AfterPack : Type 0 where
  pub answer : Outcome (Unit {0})
  pub codes : List ℕ
  pub references : List ℕ
  pub exponents : List ℤ

-- E of an exponent counted from -149; and the layer of a stored width, reference and E
unfoldable pub stored_exponent : Layer → ℤ
stored_exponent l = sub_ℕ l.exponent 149

unfoldable pub stored_layer : ℕ → ℕ → ℤ → Layer
stored_layer w r e = record { width = w; reference = r; exponent = above 149 e }

-- the last three are the arrays that the results go to, as they were before; the widths are only read
unfoldable pub pack : ℕ → ℕ → List ℕ → List ℕ → List ℕ → List ℕ → List ℤ → AfterPack
pack mark L widths ws codes references exponents =
    let asked = pack_questions mark L widths ws (length codes) (length references) (length exponents) in
    let ls = packed_layers 23 8 277 mark L widths ws in
    record {
      answer = asked;
      codes = leaving asked (λ _. packed_codes 23 8 277 mark L widths ws) codes;
      references = leaving asked (λ _. map (λ l. l.reference) ls) references;
      exponents = leaving asked (λ _. map stored_exponent ls) exponents;
    }

pub record AfterUnpack : Type 0 where
  pub answer : Outcome (Unit {0})
  pub readings : List ℕ

-- the layers of stored widths, references and exponents
unfoldable pub stored_layers : List ℕ → List ℕ → List ℤ → List Layer
stored_layers widths rs es = zip_with (λ stored e. stored e) (zip_with stored_layer widths rs) es

-- the last is the array that the doubles go to, as it was before
unfoldable pub unpack : ℕ → ℕ → List ℕ → List ℕ → List ℕ → List ℤ → List ℕ → AfterUnpack
unpack mark L widths cs rs es readings =
    let asked = unpack_questions mark L widths cs rs es (length readings) in
    record { answer = asked; readings = leaving asked (λ _. unpacked_codes mark L (stored_layers widths rs es) cs) readings }

-- ---- lists of calls

-- a call that trims an array, as it is asked; the mark is the list's
pub record Call : Type 0 where
  pub method : ℕ
  pub setting : ℤ

module _ (F X : ℕ) where
  -- "Each call gets the array as the last one left it"; a refused one changes nothing
  unfoldable pub in_turn : List Call → ℕ → List ℕ → List ℕ
  in_turn [] mark ws = ws
  in_turn (c ∷ cs) mark ws = in_turn cs mark (trim F X c.method c.setting mark ws).readings

  -- the accepted calls of a list
  unfoldable pub accepted_calls : List Call → List Method
  accepted_calls [] = []
  accepted_calls (c ∷ cs) = leaving (trim_questions F X c.method c.setting) (λ x. x ∷ accepted_calls cs) (accepted_calls cs)

module _ (F : ℕ) where
  -- "The unit is the largest that any of them has at the original reading": at its magnitude m
  unfoldable pub largest_unit : List Method → ℕ → ℕ
  largest_unit [] m = 0
  largest_unit (x ∷ xs) m = max (unit F x m) (largest_unit xs m)
