-- Document 01, "The program": a job, the text that it is written as, and which jobs are good. A text has the form where it is `written j` for a job j that is
-- `Valid`. A text is a list of bytes, and bytes are numbers: 44 is a comma, 10 a newline, 45 a minus, 48 to 57 are 0 to 9, 65 to 70 A to F, 97 to 122 a to z.
use Rattle.std.specs.Prelude.{◌≡◌, Bool, true, false, cond, ◌&&◌, List, [], ◌∷◌, ◌++◌, map, ℕ, zero, suc, ◌+◌, ◌/◌, ◌%◌, ◌^◌, ◌≤◌, ◌<◌, T, leb, ltb, length}
use Prim.Native.Char.{code}
use Prim.Native.String.{String, [] as []ˢ, ◌∷◌ as ◌∷ˢ◌}

-- the bytes of a text in quotes
unfoldable pub bytes : String → List ℕ
bytes []ˢ = []
bytes (c ∷ˢ s) = code c ∷ bytes s

-- ---- a job

-- "a method word .., a decimal setting (an optional minus, 1 to 4 digits, leading zeros allowed) and the mark": the setting's digits are kept as they stand
pub record JobValues : Type 0 where
  pub word : List ℕ
  pub minus : Bool
  pub digits : List ℕ
  pub mark : ℕ

-- "a line of those three job values, a line of .. series names .., then .. lines of values"
pub record Job : Type 0 where
  pub values : JobValues
  pub names : List (List ℕ)
  pub rows : List (List ℕ)

-- ---- the text of a job

-- "Fields are parted by one comma, each line ends in one newline": the byte after a field that these fields follow
abbrev pub after : List (List ℕ) → ℕ
after [] = 10
after (f ∷ fs) = 44

abbrev pub line : List (List ℕ) → List ℕ
line [] = []
line (f ∷ fs) = f ++ after fs ∷ line fs

-- "digits with A to F in capitals"
unfoldable pub hex_char : ℕ → ℕ
hex_char d = cond (ltb d 10) (48 + d) (55 + d)

-- the last k hexadecimal digits of v
unfoldable pub hex_text : ℕ → ℕ → List ℕ
hex_text zero v = []
hex_text (suc k) v = hex_char (v / 16 ^ k % 16) ∷ hex_text k v

-- "Patterns are singles, 8 digits"
abbrev pub pattern : ℕ → List ℕ
pattern v = hex_text 8 v

-- "an optional minus"
abbrev pub sign : Bool → List ℕ
sign true = 45 ∷ []
sign false = []

unfoldable pub header : List ℕ
header = bytes "method,setting,mark\n"

unfoldable pub job_line : JobValues → List ℕ
job_line v = line (v.word ∷ (sign v.minus ++ v.digits) ∷ pattern v.mark ∷ [])

abbrev pub value_lines : List (List ℕ) → List ℕ
value_lines [] = []
value_lines (r ∷ rs) = line (map pattern r) ++ value_lines rs

-- "the line `method,setting,mark`, a line of those three job values, a line of .. series names .., then .. lines of values .. and nothing follows"
unfoldable pub written : Job → List ℕ
written j = header ++ (job_line j.values ++ (line j.names ++ value_lines j.rows))

-- ---- which jobs are good

-- "letters a to z"
abbrev pub is_letter : ℕ → Bool
is_letter b = leb 97 b && leb b 122

-- a decimal digit
abbrev pub is_digit : ℕ → Bool
is_digit b = leb 48 b && leb b 57

abbrev pub All : {A : Type 0} → (A → Type 0) → List A → Type 0
All P [] = Unit {0}
All P (x ∷ xs) = P x × All P xs

-- "1 to n" bytes of a class
pub record Run (class : ℕ → Bool) (n : ℕ) (w : List ℕ) : Type 0 where
  pub each : All (λ b. T (class b)) w
  pub some : 0 < length w
  pub few : length w ≤ n

-- "a method word (1 to 16 letters a to z ..), a decimal setting (.. 1 to 4 digits ..) and the mark"; a single is below 2^32
pub record ValidValues (v : JobValues) : Type 0 where
  pub word : Run is_letter 16 v.word
  pub digits : Run is_digit 4 v.digits
  pub mark : v.mark < 2 ^ 32

-- "1 to 8 series names (1 to 16 letters a to z each), then 0 to 512 lines of values in that order. Names may repeat."
pub record Valid (j : Job) : Type 0 where
  pub values : ValidValues j.values
  pub names : All (Run is_letter 16) j.names
  pub some : 0 < length j.names
  pub few : length j.names ≤ 8
  pub rows : All (λ r. (length r ≡ length j.names) × All (λ v. v < 2 ^ 32) r) j.rows
  pub short : length j.rows ≤ 512
