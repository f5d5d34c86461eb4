-- The job of a text over the work area: what its questions say, every series trimmed, and what is printed of that.
use Rattle.std.specs.Prelude.{◌≡◌, ℕ, ◌<◌, List, map, ◌++◌, ℤ, take, drop, Result, Ok, Err, Some}
use Rattle.meaning.specs.Methods.{Counts}
use Rattle.meaning.specs.Questions.{Outcome, refused, accepted}
use Rattle.meaning.specs.Calls.{AfterTrim, trim_singles}
use Rattle.form.specs.Form.{All, value_lines}
use Rattle.form.specs.Output.{columns, counts_heading, counts_in_order, method_number, printed, listed}
use Rattle.method.specs.Kinds as methods
use Rattle.refusal.specs.declared.Refusal.{Refusal}
use Rattle.refusal.specs.Refusals as refusals
use Rattle.asking.specs.Asked.{refusal_of}
use Rattle.text_in.specs.Places.{TextRead, area_series}
use Rattle.listing.specs.declared.Accepted.{Accepted}

-- the job that a text holds, whose questions are all answered with "yes", or the refusal that is printed for it; w is the work area afterwards
abbrev pub JobRead : List ℕ → List ℕ → Result Accepted Refusal → Type 0
JobRead t w (Ok job) =
    TextRead t w (Some job.text)
    × (methods.number_of job.method ≡ method_number (take job.text.job.letters (drop 20 t)))
    × (refusal_of 23 8 (methods.number_of job.method) job.text.job.setting ≡ 0)
JobRead t w (Err refusal) = printed (refused (refusals.number_of refusal)) ≡ listed t

-- each of n series of m readings in the work area w, trimmed as one array
abbrev pub area_trimmed : List ℕ → ℕ → ℕ → ℕ → ℤ → ℕ → List AfterTrim
area_trimmed w n m method setting mark = map (trim_singles method setting mark) (area_series w n m)

-- each of a job's series in the work area w
abbrev pub job_trimmed : List ℕ → Accepted → List AfterTrim
job_trimmed w job = area_trimmed w job.text.count job.text.lines (methods.number_of job.method) job.text.job.setting job.text.job.mark

abbrev pub left_readings : List AfterTrim → List (List ℕ)
left_readings l = map (λ a. a.readings) l

-- six counts of at most three digits, or none
abbrev pub Small : Outcome Counts → Type 0
Small (refused n) = Unit {0}
Small (accepted c) = All (λ n. n < 1000) (counts_in_order c)

-- the names' line, the lines of values in the work area, the counts' heading, and the counts' lines
abbrev pub pieces : List ℕ → List ℕ → ℕ → ℕ → List ℕ → List ℕ
pieces names w n m counts = names ++ (value_lines (columns m (area_series w n m)) ++ (counts_heading ++ counts))
