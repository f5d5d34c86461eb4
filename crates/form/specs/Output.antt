-- What trimlist prints for a text: the questions in document 01's order, 9 first, and then the output or the refusal.
use Rattle.std.specs.Prelude.{Bool, true, false, cond, ◌&&◌, List, [], ◌∷◌, ◌++◌, map, ℕ, zero, suc, ◌+◌, ◌-◌, ◌*◌, ◌/◌, ◌%◌, ltb, eqb, ℤ, pos, neg_ℤ, length, get_or}
use Rattle.meaning.specs.Methods.{Counts}
use Rattle.meaning.specs.Questions.{Outcome, refused, accepted, trim_questions}
use Rattle.meaning.specs.Calls.{AfterTrim, answering, leaving, trim_singles}
use Rattle.form.specs.Form.{bytes, Job, line, value_lines}
use Rattle.form.specs.Parse.{Got, got, bad, parse}

-- ---- a job's method and setting

-- "the known words are the seven methods' names", in the order of their numbers
unfoldable pub method_words : List (List ℕ)
method_words = map bytes ("shave" ∷ "set" ∷ "groom" ∷ "halfshave" ∷ "round" ∷ "absolute" ∷ "digits" ∷ [])

-- the same bytes
unfoldable pub same_word : List ℕ → List ℕ → Bool
same_word [] [] = true
same_word [] (b ∷ w) = false
same_word (a ∷ v) [] = false
same_word (a ∷ v) (b ∷ w) = eqb a b && same_word v w

-- the place of a word in a list, and the list's length where it isn't there
unfoldable pub place_of : List ℕ → List (List ℕ) → ℕ
place_of w [] = 0
place_of w (v ∷ vs) = cond (same_word w v) 0 (suc (place_of w vs))

-- a method's number by its word; 7, the number of no method, for an unknown word
unfoldable pub method_number : List ℕ → ℕ
method_number w = place_of w method_words

-- the number that decimal digits make, after those that make v
unfoldable pub number_of : ℕ → List ℕ → ℕ
number_of v [] = v
number_of v (b ∷ s) = number_of (v * 10 + (b - 48)) s

-- "a decimal setting (an optional minus, 1 to 4 digits, leading zeros allowed)"
unfoldable pub setting_of : Bool → List ℕ → ℤ
setting_of minus s = cond minus (neg_ℤ (pos (number_of 0 s))) (pos (number_of 0 s))

module _ (j : Job) where
  abbrev pub job_method : ℕ
  job_method = method_number j.values.word

  abbrev pub job_setting : ℤ
  job_setting = setting_of j.values.minus j.values.digits

-- ---- the output

-- a number in decimal, of at most f digits; a count is at most 512
unfoldable pub decimal_text : ℕ → ℕ → List ℕ
decimal_text zero n = []
decimal_text (suc f) n = cond (ltb n 10) ((48 + n) ∷ []) (decimal_text f (n / 10) ++ ((48 + n % 10) ∷ []))

abbrev pub decimal : ℕ → List ℕ
decimal n = decimal_text 3 n

-- i, i + 1 .., n numbers
abbrev pub up_to : ℕ → ℕ → List ℕ
up_to i zero = []
up_to i (suc n) = i ∷ up_to (suc i) n

-- the j-th element of each list
abbrev pub column : List (List ℕ) → ℕ → List ℕ
column rows j = map (λ r. get_or r j 0) rows

-- n columns: series of lines, and lines of series
unfoldable pub columns : ℕ → List (List ℕ) → List (List ℕ)
columns n rows = map (column rows) (up_to 0 n)

-- document 02 (a): "prints the two new columns, named risen and fallen, after missing"
abbrev pub counts_heading : List ℕ
counts_heading = bytes "changed,spared,clipped,missing,risen,fallen\n"

-- the counts in the order of their columns
abbrev pub counts_in_order : Counts → List ℕ
counts_in_order c = c.changed_places ∷ c.spared_places ∷ c.clipped_places ∷ c.missing_places ∷ c.risen_places ∷ c.fallen_places ∷ []

abbrev pub counts_line : Counts → List ℕ
counts_line c = line (map decimal (counts_in_order c))

-- "then the counts, one line per series"; a refused call answers none, and nothing is printed then
unfoldable pub counts_lines : List AfterTrim → List ℕ
counts_lines [] = []
counts_lines (a ∷ rest) = leaving a.answer counts_line [] ++ counts_lines rest

-- "Each series is one array", trimmed by the job's method
unfoldable pub trimmed_series : Job → List AfterTrim
trimmed_series j = map (trim_singles (job_method j) (job_setting j) j.values.mark) (columns (length j.names) j.rows)

-- "Output: the names, the trimmed lines, then the counts, one line per series"
unfoldable pub output : Job → List ℕ
output j =
    line j.names
    ++ (value_lines (columns (length j.rows) (map (λ a. a.readings) (trimmed_series j)))
    ++ (counts_heading
    ++ counts_lines (trimmed_series j)))

-- "A refusal prints only `refused,` with its number and a newline."
unfoldable pub printed : Outcome (List ℕ) → List ℕ
printed (refused n) = bytes "refused," ++ (decimal n ++ bytes "\n")
printed (accepted t) = t

-- ---- the questions

-- "is the method 0 to 6, or its word known? No: 1", "is the setting in range? No: 2"
unfoldable pub job_outcome : Job → Outcome (List ℕ)
job_outcome j = answering (trim_questions 23 8 (job_method j) (job_setting j)) (λ _. output j)

-- "does the text have the form above, leaving aside which method word stands there? No: 9 (put first)"
unfoldable pub read_outcome : Got Job → Outcome (List ℕ)
read_outcome (got j s) = job_outcome j
read_outcome bad = refused 9

-- what trimlist prints for a text
unfoldable pub listed : List ℕ → List ℕ
listed t = printed (read_outcome (parse t))
