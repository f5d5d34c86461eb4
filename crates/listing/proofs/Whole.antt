-- The whole: what is written is what is printed for the text.
use Prim.Native.Nat.{ℕ, ◌+◌, ◌-◌, ◌*◌, ◌≤◌}
use native.Mathlib.Omega.{arith}
use mathlib.Core.Logic.{◌≢◌}
use mathlib.Core.Path.{◌≡◌, refl, sym, ap, ◌∙◌}
use mathlib.Core.List.{List, [], ◌∷◌, ◌++◌, map}
use lib.IntN.{ℤ}
use lib.ListN.{length, take, drop, length-append, length-take}
use lib.Seq.{take_at}
use Rattle.meaning.specs.Questions.{Outcome, refused, trim_questions}
use Rattle.meaning.specs.Calls.{answering, trim_singles}
use Rattle.form.specs.Form.{Job, All, Run, Valid, is_letter, line, after, value_lines}
use Rattle.form.specs.Parse.{Got, bad, parse}
use Rattle.form.specs.Output.{method_number, columns, counts_heading, counts_lines, trimmed_series, output, printed, job_method, job_setting, job_outcome, read_outcome, listed}
use Rattle.form.proofs.Reading.{sound}
use Rattle.text_in.specs.Places.{TextAt, area_series}
use Rattle.text_out.specs.Places.{paste}
use Rattle.asking.specs.Asked.{refusal_of}
use Rattle.asking.proofs.Questions.{accepted_is, refused_is}
use Rattle.listing.specs.Jobs.{area_trimmed, left_readings, pieces}

-- names of at most 16 letters, each with a byte after it
names_line : (ws : List (List ℕ)) → All (Run is_letter 16) ws → length (line ws) ≤ 17 * length ws
names_line [] e = omega arith
names_line (w ∷ ws) e =
    let a = e.0.few in
    let b = names_line ws e.1 in
    let c = length-append w (after ws ∷ line ws) in
    omega arith

-- the counts' lines of at most 8 series
pub counts_few : (k n : ℕ) (l : List ℕ) → k ≤ 24 * n → n ≤ 8 → length (take k l) ≤ 192
counts_few k n l h g = simp length-take (omega arith)

-- what is listed for a text without the form
pub wrong_listed : (t : List ℕ) → parse t ≡ bad → printed (refused 9) ≡ listed t
unfolding listed read_outcome
wrong_listed t e = ap (λ (g : Got Job). printed (read_outcome g)) (sym e)

-- no method has the number 7
pub unknown_is : (z : ℤ) → 1 ≡ refusal_of 23 8 7 z
unfolding refusal_of
unknown_is z = refl

module _ (t w : List ℕ) (letters : ℕ) (z : ℤ) (mark names first count lines : ℕ) (x : TextAt t w letters z mark names first count lines) where
  abbrev job : Job
  job = record { values = x.values; names = x.series; rows = x.rows }

  valid : Valid job
  valid = (sound t job [] x.read).0

  pub few_series : count ≤ 8
  few_series = let a = valid.few in let b = x.counted in omega arith

  pub few_lines : lines ≤ 512
  few_lines = let a = valid.short in let b = x.lined in omega arith

  pub names_short : length (take (first - names) (drop names t)) ≤ 136
  names_short = let a = valid.few in let b = names_line x.series valid.names in let c = ap length x.named in omega arith

  job_listed : printed (job_outcome job) ≡ listed t
  unfolding listed read_outcome
  job_listed = ap (λ (g : Got Job). printed (read_outcome g)) (sym x.read)

  -- the code's number for the method
  module _ (method : ℕ) (m : method ≡ method_number (take letters (drop 20 t))) where
    method_same : method ≡ job_method job
    method_same = m ∙ ap method_number (sym x.word)

    setting_same : z ≡ job_setting job
    setting_same = sym x.setting

    questions_same : trim_questions 23 8 method z ≡ trim_questions 23 8 (job_method job) (job_setting job)
    questions_same = ap (λ (i : ℕ). trim_questions 23 8 i z) method_same ∙ ap (trim_questions 23 8 (job_method job)) setting_same

    pub refused_listed : (n : ℕ) → n ≡ refusal_of 23 8 method z → n ≢ 0 → printed (refused n) ≡ listed t
    unfolding job_outcome answering
    refused_listed n e h =
        ap (λ (o : Outcome (List ℕ)). printed o)
        (ap refused e ∙ ap (λ (o : Outcome _). answering o (λ _. output job)) (sym (refused_is 23 8 method z (λ i. h (e ∙ i))) ∙ questions_same))
        ∙ job_listed

    series_same : area_trimmed w count lines method z mark ≡ trimmed_series job
    unfolding trimmed_series
    series_same =
        ap (map (trim_singles method z mark)) x.stored
        ∙ ap (λ (i : ℕ). map (trim_singles i z mark) (columns count x.rows)) method_same
        ∙ ap (λ (i : ℤ). map (trim_singles (job_method job) i mark) (columns count x.rows)) setting_same
        ∙ ap (λ (i : ℕ). map (trim_singles (job_method job) (job_setting job) i) (columns count x.rows)) (sym x.marked)
        ∙ ap (λ (i : ℕ). map (trim_singles (job_method job) (job_setting job) x.values.mark) (columns i x.rows)) (sym x.counted)

    pub accepted_listed : refusal_of 23 8 method z ≡ 0 → (w' cs₀ cs : List ℕ) (k : ℕ)
        → area_series w' count lines ≡ left_readings (area_trimmed w count lines method z mark)
        → k ≡ length (counts_lines (area_trimmed w count lines method z mark))
        → cs ≡ paste cs₀ 0 (counts_lines (area_trimmed w count lines method z mark))
        → pieces (take (first - names) (drop names t)) w' count lines (take k cs) ≡ listed t
    unfolding output job_outcome answering printed
    accepted_listed e w' cs₀ cs k a b c =
        ap (λ (l : List ℕ). pieces l w' count lines (take k cs)) x.named
        ∙ ap (λ (l : List (List ℕ)). line x.series ++ (value_lines (columns lines l) ++ (counts_heading ++ take k cs))) (a ∙ ap left_readings series_same)
        ∙ ap (λ (i : ℕ). line x.series ++ (value_lines (columns i (left_readings (trimmed_series job))) ++ (counts_heading ++ take k cs))) (sym x.lined)
        ∙ ap (λ (l : List ℕ). line x.series ++ (value_lines (columns (length x.rows) (left_readings (trimmed_series job))) ++ (counts_heading ++ l))) counts_same
        ∙ ap (λ (o : Outcome _). printed (answering o (λ _. output job))) (sym (accepted_is 23 8 method z e) ∙ questions_same)
        ∙ job_listed
      where
        counts_same : take k cs ≡ counts_lines (trimmed_series job)
        counts_same =
            ap (take k) c
            ∙ take_at (counts_lines (area_trimmed w count lines method z mark)) (drop (0 + length (counts_lines (area_trimmed w count lines method z mark))) cs₀) k (sym b)
            ∙ ap counts_lines series_same
