-- The whole reading, link by link.
use Prim.Native.Nat.{ℕ, ◌-◌, ◌≤◌}
use native.Mathlib.Omega.{arith}
use mathlib.Core.Path.{◌≡◌, refl, sym, ap, ◌∙◌}
use mathlib.Core.List.{List, []}
use lib.IntN.{ℤ}
use lib.ListN.{length, take, drop, length-append, length-drop}
use lib.Seq.{take_at}
use Rattle.form.specs.Form.{bytes, JobValues, Job, line, header}
use Rattle.form.specs.Parse.{Got, got, bad, then, skip, read_job_values, read_names, read_rows, parse}
use Rattle.text_in.specs.Places.{StartAt, NamesAt, RowsAt, spread_all, area_series, TextAt}
use Rattle.form.proofs.Reading.{skip_sound, names_sound, rows_sound}
use Rattle.text_in.proofs.Series.{area_series_lem}

pub header_long : (t r : List ℕ) → skip header t ≡ got tt r → 20 ≤ length t
unfolding header bytes
header_long t r e = let a = ap length (skip_sound header t tt r e) ∙ length-append header r in omega arith

pub names_few : (t : List ℕ) (at k next : ℕ) → NamesAt t at k next → k ≤ 8
names_few t at k next x = let a = (names_sound 8 (drop at t) x.names (drop next t) x.read).few in let b = x.count in omega arith

-- the names' line
names_line : (t : List ℕ) (p k q : ℕ) (y : NamesAt t p k q) → p ≤ length t → (p ≤ q) × (take (q - p) (drop p t) ≡ line y.names)
names_line t p k q y h =
    let a = (names_sound 8 (drop p t) y.names (drop q t) y.read).text in
    let b = ap length a ∙ length-append (line y.names) (drop q t) in
    let c = length-drop p t in
    let d = length-drop q t in
    let e = y.within in
    (omega arith, ap (take (q - p)) a ∙ take_at (line y.names) (drop q t) (q - p) (omega arith))

abbrev tail_rows : JobValues → List (List ℕ) → List ℕ → Got Job
tail_rows h ns s = then (read_rows 512 (length ns) s) (λ rs s. got (record { values = h; names = ns; rows = rs }) s)

abbrev tail_names : JobValues → List ℕ → Got Job
tail_names h s = then (read_names 8 s) (λ ns s. tail_rows h ns s)

abbrev tail_head : List ℕ → Got Job
tail_head s = then (read_job_values s) (λ h s. tail_names h s)

opens : (t : List ℕ) → parse t ≡ then (skip header t) (λ e s. tail_head s)
unfolding parse
opens t = refl

pub text_headless : (t : List ℕ) → skip header t ≡ bad → parse t ≡ bad
text_headless t e = opens t ∙ ap (λ (g : Got (Unit {0})). then g (λ e s. tail_head s)) e

module _ (t : List ℕ) (e : skip header t ≡ got tt (drop 20 t)) where
  headed : parse t ≡ tail_head (drop 20 t)
  headed = opens t ∙ ap (λ (g : Got (Unit {0})). then g (λ e s. tail_head s)) e

  pub text_jobless : read_job_values (drop 20 t) ≡ bad → parse t ≡ bad
  text_jobless f = headed ∙ ap (λ (g : Got JobValues). then g (λ h s. tail_names h s)) f

  module _ (n : ℕ) (z : ℤ) (m p : ℕ) (x : StartAt t 20 n z m p) where
    started : parse t ≡ tail_names x.values (drop p t)
    started = headed ∙ ap (λ (g : Got JobValues). then g (λ h s. tail_names h s)) x.read

    pub text_nameless : read_names 8 (drop p t) ≡ bad → parse t ≡ bad
    text_nameless f = started ∙ ap (λ (g : Got (List (List ℕ))). then g (λ ns s. tail_rows x.values ns s)) f

    module _ (k q : ℕ) (y : NamesAt t p k q) where
      named : parse t ≡ tail_rows x.values y.names (drop q t)
      named = started ∙ ap (λ (g : Got (List (List ℕ))). then g (λ ns s. tail_rows x.values ns s)) y.read

      by_count : (l : List ℕ) (r : Got (List (List ℕ))) → read_rows 512 k l ≡ r → read_rows 512 (length y.names) l ≡ r
      by_count l r f = ap (λ (j : ℕ). read_rows 512 j l) y.count ∙ f

      pub text_rowless : read_rows 512 k (drop q t) ≡ bad → parse t ≡ bad
      text_rowless f = named ∙ ap (λ (g : Got (List (List ℕ))). then g (λ rs s. got (record { values = x.values; names = y.names; rows = rs }) s)) (by_count (drop q t) bad f)

      pub text_done : (w w' : List ℕ) (i : ℕ) → length w ≡ 4096 → RowsAt t q k w w' i → TextAt t w' n z m p q k i
      text_done w w' i l u = record {
        values = x.values;
        series = y.names;
        rows = u.rows;
        read = named ∙ ap (λ (g : Got (List (List ℕ))). then g (λ rs s. got (record { values = x.values; names = y.names; rows = rs }) s)) (by_count (drop q t) (got u.rows []) u.read);
        word = x.word;
        setting = x.setting;
        marked = x.marked;
        inside = x.inside;
        named = (names_line t p k q y x.within).1;
        ordered = (names_line t p k q y x.within).0;
        within = y.within;
        counted = y.count;
        lined = u.count;
        stored =
            let s = rows_sound 512 k (drop q t) u.rows [] u.read in
            ap (λ (a : List ℕ). area_series a k i) u.stored
            ∙ ap (λ (o : ℕ). area_series (spread_all w 0 u.rows) k o) (sym u.count)
            ∙ area_series_lem w k u.rows s.each (names_few t p k q y) s.few l;
      }
