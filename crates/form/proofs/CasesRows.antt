-- What the rows of the table of listings are made of. All of it computes.
use mathlib.Core.Path.{◌≡◌}
use mathlib.Core.List.{List, [], ◌++◌}
use Prim.Native.Nat.{ℕ, zero, suc}
use Prim.Native.String.{String}
use Rattle.meaning.proofs.CasesRows.{after_all}
use Rattle.form.specs.Form
use Rattle.form.specs.Form.{bytes, header}
use Rattle.form.specs.Parse
use Rattle.form.specs.Output
use Rattle.form.specs.Output.{counts_heading, listed}

-- what is printed for a text
unfoldable pub shown : List ℕ → List ℕ
unfolding after_all Form.bytes Form.hex_char Form.hex_text Form.header Form.job_line Form.written Parse.run_of Parse.read_run Parse.skip Parse.digit_of Parse.read_hex Parse.read_sign Parse.read_row Parse.read_rows Parse.read_names Parse.followed Parse.read_job_values Parse.parse Output.method_words Output.same_word Output.place_of Output.method_number Output.number_of Output.setting_of Output.decimal_text Output.columns Output.counts_lines Output.trimmed_series Output.output Output.job_outcome Output.read_outcome Output.printed Output.listed
shown t = listed t

-- the whole text s prints o
unfoldable pub Prints : String → String → Type 0
unfolding shown
Prints s o = shown (bytes s) ≡ bytes o

-- the same bytes n times
unfoldable pub times : ℕ → List ℕ → List ℕ
times zero w = []
times (suc n) w = w ++ times n w

-- the header, s and n lines v print the names, n lines w, the heading and the counts c
unfoldable pub Repeats : String → ℕ → String → String → String → String → Type 0
unfolding shown times
Repeats s n v names w c = shown (header ++ (bytes s ++ times n (bytes v))) ≡ bytes names ++ (times n (bytes w) ++ (counts_heading ++ bytes c))

-- the header and s print o, the heading and the counts c
unfoldable pub Lists : String → String → String → Type 0
unfolding shown
Lists s o c = shown (header ++ bytes s) ≡ bytes o ++ (counts_heading ++ bytes c)

-- the header, s and n lines v are refused with the number d, a digit
unfoldable pub Many : String → ℕ → String → String → Type 0
unfolding shown times
Many s n v d = shown (header ++ (bytes s ++ times n (bytes v))) ≡ bytes "refused," ++ (bytes d ++ bytes "\n")

-- the header and s are refused
unfoldable pub Refuses : String → String → Type 0
unfolding Many
Refuses d s = Many s 0 "" d
