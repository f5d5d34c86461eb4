-- Reading a field at a place: what a reader's answer says of the text from that place on.
use Rattle.std.specs.Prelude.{ℕ, ◌+◌, ◌<◌, Bool, true, false, List, ℤ, drop, Option, Some, None}
use Rattle.form.specs.Form.{is_digit}
use Rattle.form.specs.Parse.{Got, got, bad, then, read_run, read_sign}
use Rattle.form.specs.Output.{number_of, setting_of}
use Rattle.fields_in.specs.declared.Read.{Read}

abbrev pub pattern_got : List ℕ → ℕ → Option ℕ → Got ℕ
pattern_got t at (Some v) = got v (drop (at + 8) t)
pattern_got t at None = bad

-- the number of 1 to 4 digits
unfoldable pub read_number : List ℕ → Got ℕ
read_number s = then (read_run is_digit 4 s) (λ d s. got (number_of 0 d) s)

abbrev pub number_got : List ℕ → Option (Read ℕ) → Got ℕ
number_got t (Some r) = got r.value (drop r.next t)
number_got t None = bad

abbrev pub NumberSmall : Option (Read ℕ) → Type 0
NumberSmall (Some r) = r.value < 10000
NumberSmall None = Unit {0}

-- the setting's value
unfoldable pub read_setting : List ℕ → Got ℤ
read_setting s = then (read_sign s) (λ m s. then (read_run is_digit 4 s) (λ d s. got (setting_of m d) s))

abbrev pub setting_got : List ℕ → Option (Read ℤ) → Got ℤ
setting_got t (Some r) = got r.value (drop r.next t)
setting_got t None = bad

abbrev pub skip_got : List ℕ → ℕ → Bool → Got (Unit {0})
skip_got t at true = got tt (drop (at + 1) t)
skip_got t at false = bad
