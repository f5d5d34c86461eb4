-- Reading at a place: what a reader's answer says of the text from that place on.
use Rattle.std.specs.Prelude.{ℕ, suc, ◌+◌, ◌-◌, ◌*◌, ◌≤◌, ◌≡◌, Bool, true, false, List, [], ◌∷◌, map, ℤ, length, take, drop, set, Option, Some, None}
use Rattle.form.specs.Form.{line, JobValues}
use Rattle.form.specs.Parse.{Got, got, bad, skip, ending, read_row, read_rows, read_names, read_job_values, parse}
use Rattle.form.specs.Output.{up_to, columns, setting_of}
use Rattle.fields_in.specs.declared.Read.{Read}
use Rattle.text_in.specs.declared.Job.{Job}
use Rattle.text_in.specs.declared.Text.{Text}

-- the byte that follows a field with n more on its line, read at `at`
abbrev pub EndingRead : List ℕ → ℕ → ℕ → Option ℕ → Type 0
EndingRead t at n (Some next) = (skip (ending n ∷ []) (drop at t) ≡ got tt (drop next t)) × (next ≤ length t)
EndingRead t at n None = skip (ending n ∷ []) (drop at t) ≡ bad

-- values laid at place q, q + 512, q + 1024 ..
unfoldable pub spread : List ℕ → ℕ → List ℕ → List ℕ
spread w q [] = w
spread w q (v ∷ vs) = spread (set w q v) (q + 512) vs

pub record RowAt (t : List ℕ) (at n row : ℕ) (w w' : List ℕ) (next : ℕ) : Type 0 where
  pub values : List ℕ
  pub read : read_row n (drop at t) ≡ got values (drop next t)
  pub stored : w' ≡ spread w row values
  pub within : next ≤ length t

abbrev pub RowRead : List ℕ → ℕ → ℕ → ℕ → List ℕ → List ℕ → Option ℕ → Type 0
RowRead t at n row w w' (Some p) = RowAt t at n row w w' p
RowRead t at n row w w' None = read_row n (drop at t) ≡ bad

-- line i at i, i + 512 ..
unfoldable pub spread_all : List ℕ → ℕ → List (List ℕ) → List ℕ
spread_all w i [] = w
spread_all w i (r ∷ rs) = spread_all (spread w i r) (suc i) rs

pub record RowsAt (t : List ℕ) (at n : ℕ) (w w' : List ℕ) (m : ℕ) : Type 0 where
  pub rows : List (List ℕ)
  pub read : read_rows 512 n (drop at t) ≡ got rows []
  pub count : length rows ≡ m
  pub stored : w' ≡ spread_all w 0 rows

abbrev pub RowsRead : List ℕ → ℕ → ℕ → List ℕ → List ℕ → Option ℕ → Type 0
RowsRead t at n w w' (Some m) = RowsAt t at n w w' m
RowsRead t at n w w' None = read_rows 512 n (drop at t) ≡ bad

pub record NamesAt (t : List ℕ) (at k next : ℕ) : Type 0 where
  pub names : List (List ℕ)
  pub read : read_names 8 (drop at t) ≡ got names (drop next t)
  pub count : length names ≡ k
  pub within : next ≤ length t

abbrev pub NamesRead : List ℕ → ℕ → Option (Read ℕ) → Type 0
NamesRead t at (Some r) = NamesAt t at r.value r.next
NamesRead t at None = read_names 8 (drop at t) ≡ bad

abbrev pub header_got : List ℕ → Bool → Got (Unit {0})
header_got t true = got tt (drop 20 t)
header_got t false = bad

-- the job line: its word stands at `at`, n bytes long
pub record StartAt (t : List ℕ) (at n : ℕ) (z : ℤ) (mark next : ℕ) : Type 0 where
  pub values : JobValues
  pub read : read_job_values (drop at t) ≡ got values (drop next t)
  pub word : values.word ≡ take n (drop at t)
  pub setting : setting_of values.minus values.digits ≡ z
  pub marked : values.mark ≡ mark
  pub inside : at + n ≤ length t
  pub within : next ≤ length t

abbrev pub StartRead : List ℕ → ℕ → Option (Read Job) → Type 0
StartRead t at (Some r) = StartAt t at r.value.letters r.value.setting r.value.mark r.next
StartRead t at None = read_job_values (drop at t) ≡ bad

-- the series in the work area: n parts of 512 places, the first m of each
abbrev pub area_series : List ℕ → ℕ → ℕ → List (List ℕ)
area_series w n m = map (λ j. take m (drop (512 * j) w)) (up_to 0 n)

-- the whole text: its names' line stands from `names` to `first`, where the lines of values begin; w is the work area afterwards
pub record TextAt (t w : List ℕ) (letters : ℕ) (z : ℤ) (mark names first count lines : ℕ) : Type 0 where
  pub values : JobValues
  pub series : List (List ℕ)
  pub rows : List (List ℕ)
  pub read : parse t ≡ got (record { values = values; names = series; rows = rows }) []
  pub word : values.word ≡ take letters (drop 20 t)
  pub setting : setting_of values.minus values.digits ≡ z
  pub marked : values.mark ≡ mark
  pub inside : 20 + letters ≤ length t
  pub named : take (first - names) (drop names t) ≡ line series
  pub ordered : names ≤ first
  pub within : first ≤ length t
  pub counted : length series ≡ count
  pub lined : length rows ≡ lines
  pub stored : area_series w count lines ≡ columns count rows

abbrev pub TextRead : List ℕ → List ℕ → Option Text → Type 0
TextRead t w (Some x) = TextAt t w x.job.letters x.job.setting x.job.mark x.names x.first x.count x.lines
TextRead t w None = parse t ≡ bad
