-- The reading of a text: `parse` finds the job that a text is written for, where it has the form (proofs/Reading: `sound` and `complete`, so this file need not be
-- believed). Each reader takes the bytes from its place on and hands back those that follow what it read.
use Rattle.std.specs.Prelude.{Bool, true, false, cond, List, [], ◌∷◌, ℕ, zero, suc, ◌+◌, ◌-◌, ◌*◌, leb, eqb, length, drop}
use Rattle.form.specs.Form.{JobValues, Job, header, is_letter, is_digit}

-- what a reader finds at the start of some bytes: a value and the bytes that follow it, or nothing of the form
pub data Got (A : Type 0) : Type 0 where
  got : A → List ℕ → Got A
  bad : Got A

abbrev pub then : {A B : Type 0} → Got A → (A → List ℕ → Got B) → Got B
then (got a s) k = k a s
then bad k = bad

-- the longest start of at most n bytes that are of the class
unfoldable pub run_of : (ℕ → Bool) → ℕ → List ℕ → List ℕ
run_of class zero s = []
run_of class (suc n) [] = []
run_of class (suc n) (b ∷ s) = cond (class b) (b ∷ run_of class n s) []

-- one of them at least
unfoldable pub read_run : (ℕ → Bool) → ℕ → List ℕ → Got (List ℕ)
read_run class n s = cond (eqb (length (run_of class n s)) 0) bad (got (run_of class n s) (drop (length (run_of class n s)) s))

-- the bytes of l
unfoldable pub skip : List ℕ → List ℕ → Got (Unit {0})
skip [] s = got tt s
skip (a ∷ l) [] = bad
skip (a ∷ l) (b ∷ s) = cond (eqb b a) (skip l s) bad

-- the value of a hexadecimal digit, and 16 where the byte is none
unfoldable pub digit_of : ℕ → ℕ
digit_of b = cond (leb 48 b) (cond (leb b 57) (b - 48) (cond (leb 65 b) (cond (leb b 70) (b - 55) 16) 16)) 16

-- k digits, after those that make v
unfoldable pub read_hex : ℕ → ℕ → List ℕ → Got ℕ
read_hex zero v s = got v s
read_hex (suc k) v [] = bad
read_hex (suc k) v (b ∷ s) = cond (leb (digit_of b) 15) (read_hex k (v * 16 + digit_of b) s) bad

abbrev pub read_pattern : List ℕ → Got ℕ
read_pattern s = read_hex 8 0 s

-- a minus or none
unfoldable pub read_sign : List ℕ → Got Bool
read_sign [] = got false []
read_sign (b ∷ s) = cond (eqb b 45) (got true s) (got false (b ∷ s))

-- a byte that follows a field, of n more on its line: comma or newline
abbrev pub ending : ℕ → ℕ
ending zero = 10
ending (suc n) = 44

-- n patterns on a line
unfoldable pub read_row : ℕ → List ℕ → Got (List ℕ)
read_row zero s = got [] s
read_row (suc n) s = then (read_pattern s) (λ v s. then (skip (ending n ∷ []) s) (λ e s. then (read_row n s) (λ vs s. got (v ∷ vs) s)))

-- what s gives if it has ended, and else what g gives
abbrev pub if_ended : {A : Type 0} → List ℕ → A → A → A
if_ended [] e g = e
if_ended (b ∷ s) e g = g

-- lines of n patterns to the end of the text, at most m of them
unfoldable pub read_rows : ℕ → ℕ → List ℕ → Got (List (List ℕ))
read_rows zero n s = if_ended s (got [] []) bad
read_rows (suc m) n s = if_ended s (got [] []) (then (read_row n s) (λ r s. then (read_rows m n s) (λ rs s. got (r ∷ rs) s)))

-- after the name w: the end of the line, or more names
abbrev pub after_name : List ℕ → (List ℕ → Got (List (List ℕ))) → List ℕ → Got (List (List ℕ))
after_name w more [] = bad
after_name w more (b ∷ s) = cond (eqb b 10) (got (w ∷ []) s) (cond (eqb b 44) (then (more s) (λ ws s. got (w ∷ ws) s)) bad)

-- at most m names to the end of the line
unfoldable pub read_names : ℕ → List ℕ → Got (List (List ℕ))
read_names zero s = bad
read_names (suc m) s = then (read_run is_letter 16 s) (λ w s. after_name w (read_names m) s)

-- a field, and the byte c after it
unfoldable pub followed : {A : Type 0} → ℕ → Got A → Got A
followed c g = then g (λ a s. then (skip (c ∷ []) s) (λ e s. got a s))

-- word, setting and mark, to the end of the line
unfoldable pub read_job_values : List ℕ → Got JobValues
read_job_values s =
    then (followed 44 (read_run is_letter 16 s)) (λ word s.
    then (read_sign s) (λ minus s.
    then (followed 44 (read_run is_digit 4 s)) (λ digits s.
    then (followed 10 (read_pattern s)) (λ mark s.
    got (record { word = word; minus = minus; digits = digits; mark = mark }) s))))

unfoldable pub parse : List ℕ → Got Job
parse s =
    then (skip header s) (λ e s.
    then (read_job_values s) (λ values s.
    then (read_names 8 s) (λ names s.
    then (read_rows 512 (length names) s) (λ rows s.
    got (record { values = values; names = names; rows = rows }) s))))
