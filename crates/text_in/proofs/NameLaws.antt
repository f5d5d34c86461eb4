-- The loop that reads the names, the header, and the job line, over plain lists.
use Prim.Native.Nat.{ℕ, suc, ◌+◌, ◌-◌, ◌≤◌, ◌<◌}
use native.Mathlib.Omega.{arith}
use mathlib.Core.Path.{◌≡◌, refl, sym, ap, ◌∙◌}
use mathlib.Core.Bool.{Bool, true, false, cond}
use mathlib.Core.List.{List, [], ◌∷◌, ◌++◌, append_assoc}
use lib.IntN.{ℤ}
use lib.Dec.{eqb}
use lib.ListN.{length, take, drop, length-append, length-drop}
use lib.Seq.{drop-drop}
use borrow.Author.Tests.{eq-eqb, ne_eqb}
use Rattle.form.specs.Form.{bytes, JobValues, header, is_letter, is_digit}
use Rattle.form.specs.Parse.{Got, got, bad, then, run_of, read_run, skip, after_name, read_names, followed, read_job_values, read_sign, read_pattern}
use Rattle.form.specs.Output.{setting_of}
use Rattle.fields_in.specs.Fields.{read_setting}
use Rattle.std.proofs.Common.{Some, None, ◌&&◌}
use Rattle.std.proofs.lemmas.Bool.{false≢true, eqb-true}
use Rattle.std.specs.Str.{bytes_eq}
use Rattle.text_in.specs.Places.{NamesAt, StartAt, EndingRead, header_got}
use Rattle.form.proofs.Reading.{skip_sound}
use Rattle.fields_in.proofs.Walk.{run_take, run_short}
use Rattle.text_in.proofs.RowLaws.{byte_within}

never : {A : Type 0} (a : A) (s : List ℕ) → got a s ≡ bad → ⊥
never a s e = let z : ◌≡◌ {A = ℕ} 0 1 = cc in omega arith

-- ---- a run that some number of bytes was found for
pub run_some : (class : ℕ → Bool) (m : ℕ) (t : List ℕ) (p n : ℕ) → n ≡ length (run_of class m (drop p t)) → (n ≡ 0 → ⊥) → read_run class m (drop p t) ≡ got (take n (drop p t)) (drop (p + n) t)
unfolding read_run
run_some class m t p n e h =
    let k = length (run_of class m (drop p t)) in
    ap (λ (b : Bool). cond b bad (got (run_of class m (drop p t)) (drop k (drop p t)))) (ne_eqb k 0 (λ z. h (e ∙ z)))
    ∙ ap (λ (l : List ℕ). got l (drop k (drop p t))) (run_take class m (drop p t))
    ∙ ap (λ (j : ℕ). got (take j (drop p t)) (drop j (drop p t))) (sym e)
    ∙ ap (λ (l : List ℕ). got (take n (drop p t)) l) (drop-drop n p t)

pub run_none : (class : ℕ → Bool) (m : ℕ) (t : List ℕ) (p n : ℕ) → n ≡ length (run_of class m (drop p t)) → n ≡ 0 → read_run class m (drop p t) ≡ bad
unfolding read_run
run_none class m t p n e h = ap (λ (b : Bool). cond b bad (got (run_of class m (drop p t)) (drop (length (run_of class m (drop p t))) (drop p t)))) (eq-eqb (length (run_of class m (drop p t))) 0 (sym e ∙ h))

pub run_within : (class : ℕ → Bool) (m : ℕ) (t : List ℕ) (p n : ℕ) → p ≤ length t → n ≡ length (run_of class m (drop p t)) → p + n ≤ length t
run_within class m t p n h e = let a = run_short class m (drop p t) in let b = length-drop p t in omega arith

-- ---- after a name
name_last : (w : List ℕ) (more : List ℕ → Got (List (List ℕ))) (l r : List ℕ) → skip (10 ∷ []) l ≡ got tt r → after_name w more l ≡ got (w ∷ []) r
name_last w more l r e = ap (after_name w more) (skip_sound (10 ∷ []) l tt r e)

name_more : (w : List ℕ) (more : List ℕ → Got (List (List ℕ))) (l r : List ℕ) → skip (44 ∷ []) l ≡ got tt r → after_name w more l ≡ then (more r) (λ ws s. got (w ∷ ws) s)
name_more w more l r e = ap (after_name w more) (skip_sound (44 ∷ []) l tt r e)

name_bad : (w : List ℕ) (more : List ℕ → Got (List (List ℕ))) (l : List ℕ) → skip (10 ∷ []) l ≡ bad → skip (44 ∷ []) l ≡ bad → after_name w more l ≡ bad
unfolding skip
name_bad w more [] e f = refl
name_bad w more (b ∷ l) e f = go (eqb b 10) (eqb b 44) e f
  where
    go : (x y : Bool) → ◌≡◌ {A = Got (Unit {0})} (cond x (got tt l) bad) bad → ◌≡◌ {A = Got (Unit {0})} (cond y (got tt l) bad) bad → cond x (got (w ∷ []) l) (cond y (then (more l) (λ ws s. got (w ∷ ws) s)) bad) ≡ bad
    go true y e f = absurd (never tt l e)
    go false true e f = absurd (never tt l f)
    go false false e f = refl

pub record NamesTurn (t : List ℕ) (at k p : ℕ) : Type 0 where
  pub low : k ≤ 8
  pub within : p ≤ length t
  pub names : List (List ℕ)
  pub count : length names ≡ k
  pub read : read_names 8 (drop at t) ≡ then (read_names (8 - k) (drop p t)) (λ us s. got (names ++ us) s)

same_got : (g : Got (List (List ℕ))) → g ≡ then g (λ us s. got us s)
same_got (got a s) = refl
same_got bad = refl

joined : (rs : List (List ℕ)) (r : List ℕ) (g : Got (List (List ℕ))) → then (then g (λ us s. got (r ∷ us) s)) (λ us s. got (rs ++ us) s) ≡ then g (λ us s. got ((rs ++ (r ∷ [])) ++ us) s)
joined rs r (got us s) = ap (λ (l : List (List ℕ)). got l s) (sym (append_assoc rs (r ∷ []) us))
joined rs r bad = refl

module _ (t : List ℕ) (at k p : ℕ) (x : NamesTurn t at k p) (h : k < 8) (n : ℕ) (e : n ≡ length (run_of is_letter 16 (drop p t))) where
  opened : read_names 8 (drop at t) ≡ then (then (read_run is_letter 16 (drop p t)) (λ w s. after_name w (read_names (8 - (k + 1))) s)) (λ us s. got (x.names ++ us) s)
  unfolding read_names
  opened = x.read ∙ ap (λ (m : ℕ). then (read_names m (drop p t)) (λ us s. got (x.names ++ us) s)) {x = 8 - k} {y = suc (8 - (k + 1))} (omega arith)

  pub names_none : n ≡ 0 → read_names 8 (drop at t) ≡ bad
  names_none z = opened ∙ ap (λ (g : Got (List ℕ)). then (then g (λ w s. after_name w (read_names (8 - (k + 1))) s)) (λ us s. got (x.names ++ us) s)) (run_none is_letter 16 t p n e z)

  named : (n ≡ 0 → ⊥) → read_names 8 (drop at t) ≡ then (after_name (take n (drop p t)) (read_names (8 - (k + 1))) (drop (p + n) t)) (λ us s. got (x.names ++ us) s)
  named z = opened ∙ ap (λ (g : Got (List ℕ)). then (then g (λ w s. after_name w (read_names (8 - (k + 1))) s)) (λ us s. got (x.names ++ us) s)) (run_some is_letter 16 t p n e z)

  pub names_last : (n ≡ 0 → ⊥) → (next : ℕ) → EndingRead t (p + n) 0 (Some next) → NamesAt t at (k + 1) next
  names_last z next f = record {
    names = x.names ++ (take n (drop p t) ∷ []);
    read = named z ∙ ap (λ (g : Got (List (List ℕ))). then g (λ us s. got (x.names ++ us) s)) (name_last (take n (drop p t)) (read_names (8 - (k + 1))) (drop (p + n) t) (drop next t) f.0);
    count = length-append x.names (take n (drop p t) ∷ []) ∙ ap (λ (m : ℕ). m + 1) x.count;
    within = f.1;
  }

  pub names_bad : (n ≡ 0 → ⊥) → EndingRead t (p + n) 0 None → EndingRead t (p + n) 1 None → read_names 8 (drop at t) ≡ bad
  names_bad z f g = named z ∙ ap (λ (g : Got (List (List ℕ))). then g (λ us s. got (x.names ++ us) s)) (name_bad (take n (drop p t)) (read_names (8 - (k + 1))) (drop (p + n) t) f g)

  pub names_turn : (n ≡ 0 → ⊥) → (next : ℕ) → EndingRead t (p + n) 1 (Some next) → NamesTurn t at (k + 1) next
  names_turn z next f = record {
    low = omega arith;
    within = f.1;
    names = x.names ++ (take n (drop p t) ∷ []);
    count = length-append x.names (take n (drop p t) ∷ []) ∙ ap (λ (m : ℕ). m + 1) x.count;
    read =
        named z
        ∙ ap (λ (g : Got (List (List ℕ))). then g (λ us s. got (x.names ++ us) s)) (name_more (take n (drop p t)) (read_names (8 - (k + 1))) (drop (p + n) t) (drop next t) f.0)
        ∙ joined x.names (take n (drop p t)) (read_names (8 - (k + 1)) (drop next t));
  }

pub names_many : (t : List ℕ) (at k p : ℕ) → NamesTurn t at k p → 8 ≤ k → read_names 8 (drop at t) ≡ bad
unfolding read_names
names_many t at k p x h = let l = x.low in x.read ∙ ap (λ (m : ℕ). then (read_names m (drop p t)) (λ us s. got (x.names ++ us) s)) {x = 8 - k} {y = 0} (omega arith)

-- ---- the header, by the library's comparison
skip_starts : (l s : List ℕ) (r : Bool) → r ≡ bytes_eq l (take (length l) s) → skip l s ≡ cond r (got tt (drop (length l) s)) bad
unfolding skip
skip_starts [] s r e = ap (λ (b : Bool). cond b (got tt s) bad) (sym e)
skip_starts (a ∷ l) [] r e = ap (λ (b : Bool). cond b (got tt (drop (length (a ∷ l)) [])) bad) (sym e)
skip_starts (a ∷ l) (b ∷ s) r e = go (eqb a b) refl (skip_starts l s r)
  where
    go : (x : Bool) → eqb a b ≡ x → (r ≡ bytes_eq l (take (length l) s) → skip l s ≡ cond r (got tt (drop (length l) s)) bad) → cond (eqb b a) (skip l s) bad ≡ cond r (got tt (drop (length l) s)) bad
    go true f i = ap (λ (t : Bool). cond t (skip l s) bad) (eq-eqb b a (sym (eqb-true a b f))) ∙ i (e ∙ ap (λ (t : Bool). t && bytes_eq l (take (length l) s)) f)
    go false f i =
        ap (λ (t : Bool). cond t (skip l s) bad) (ne_eqb b a (λ k. false≢true (sym f ∙ eq-eqb a b (sym k))))
        ∙ ap (λ (t : Bool). cond t (got tt (drop (length l) s)) bad) (sym (e ∙ ap (λ (t : Bool). t && bytes_eq l (take (length l) s)) f))

pub header_starts : (s : List ℕ) (r : Bool) → r ≡ bytes_eq header (take 20 s) → skip header s ≡ header_got s r
unfolding header bytes
header_starts s true e = skip_starts header s true e
header_starts s false e = skip_starts header s false e

-- ---- the job line
followed_yes : {A : Type 0} (c : ℕ) (g : Got A) (a : A) (l r : List ℕ) → g ≡ got a l → skip (c ∷ []) l ≡ got tt r → followed c g ≡ got a r
unfolding followed
followed_yes c g a l r e f = ap (λ (x : Got _). then x (λ a s. then (skip (c ∷ []) s) (λ e s. got a s))) e ∙ ap (λ (x : Got (Unit {0})). then x (λ e s. got a s)) f

followed_no : {A : Type 0} (c : ℕ) (g : Got A) (a : A) (l : List ℕ) → g ≡ got a l → skip (c ∷ []) l ≡ bad → followed c g ≡ bad
unfolding followed
followed_no c g a l e f = ap (λ (x : Got _). then x (λ a s. then (skip (c ∷ []) s) (λ e s. got a s))) e ∙ ap (λ (x : Got (Unit {0})). then x (λ e s. got a s)) f

followed_bad : {A : Type 0} (c : ℕ) (g : Got A) → g ≡ bad → followed c g ≡ bad
unfolding followed
followed_bad c g e = ap (λ (x : Got _). then x (λ a s. then (skip (c ∷ []) s) (λ e s. got a s))) e

abbrev tail_mark : List ℕ → Bool → List ℕ → List ℕ → Got JobValues
tail_mark w m d s = then (followed 10 (read_pattern s)) (λ k s. got (record { word = w; minus = m; digits = d; mark = k }) s)

abbrev tail_setting : List ℕ → List ℕ → Got JobValues
tail_setting w s = then (read_sign s) (λ m s. then (followed 44 (read_run is_digit 4 s)) (λ d s. tail_mark w m d s))

opens : (s : List ℕ) → read_job_values s ≡ then (followed 44 (read_run is_letter 16 s)) (λ w s. tail_setting w s)
unfolding read_job_values
opens s = refl

-- what read_setting read, in its two parts
record Parts (s : List ℕ) (z : ℤ) (r : List ℕ) : Type 0 where
  minus : Bool
  digits : List ℕ
  mid : List ℕ
  signed : read_sign s ≡ got minus mid
  numbered : read_run is_digit 4 mid ≡ got digits r
  value : setting_of minus digits ≡ z

never' : {A : Type 0} (a : A) (s : List ℕ) → bad ≡ got a s → ⊥
never' a s e = never a s (sym e)

parts : (s : List ℕ) (z : ℤ) (r : List ℕ) → read_setting s ≡ got z r → Parts s z r
unfolding read_setting
parts s z r e = go (read_sign s) refl e
  where
    go : (g : Got Bool) → read_sign s ≡ g → then g (λ m s. then (read_run is_digit 4 s) (λ d s. got (setting_of m d) s)) ≡ got z r → Parts s z r
    go bad f h = absurd (never' z r h)
    go (got m l) f h = at (read_run is_digit 4 l) refl h
      where
        at : (g : Got (List ℕ)) → read_run is_digit 4 l ≡ g → then g (λ d s. got (setting_of m d) s) ≡ got z r → Parts s z r
        at bad k h = absurd (never' z r h)
        at (got d q) k h =
            let a : setting_of m d ≡ z = cc in
            let b : q ≡ r = cc in
            record { minus = m; digits = d; mid = l; signed = f; numbered = k ∙ ap (got d) b; value = a }

unset : (w s : List ℕ) → read_setting s ≡ bad → tail_setting w s ≡ bad
unfolding read_setting
unset w s e = go (read_sign s) e
  where
    go : (g : Got Bool) → then g (λ m s. then (read_run is_digit 4 s) (λ d s. got (setting_of m d) s)) ≡ bad → then g (λ m s. then (followed 44 (read_run is_digit 4 s)) (λ d s. tail_mark w m d s)) ≡ bad
    go bad h = refl
    go (got m l) h = at (read_run is_digit 4 l) refl h
      where
        at : (g : Got (List ℕ)) → read_run is_digit 4 l ≡ g → then g (λ d s. got (setting_of m d) s) ≡ bad → then (followed 44 (read_run is_digit 4 l)) (λ d s. tail_mark w m d s) ≡ bad
        at bad k h = ap (λ (g : Got (List ℕ)). then g (λ d s. tail_mark w m d s)) (followed_bad 44 (read_run is_digit 4 l) k)
        at (got d q) k h = absurd (never (setting_of m d) q h)

module _ (t : List ℕ) (at n : ℕ) (e : n ≡ length (run_of is_letter 16 (drop at t))) where
  pub start_none : n ≡ 0 → read_job_values (drop at t) ≡ bad
  start_none z = opens (drop at t) ∙ ap (λ (g : Got (List ℕ)). then g (λ w s. tail_setting w s)) (followed_bad 44 (read_run is_letter 16 (drop at t)) (run_none is_letter 16 t at n e z))

  pub start_unparted : (n ≡ 0 → ⊥) → EndingRead t (at + n) 1 None → read_job_values (drop at t) ≡ bad
  start_unparted z f = opens (drop at t) ∙ ap (λ (g : Got (List ℕ)). then g (λ w s. tail_setting w s)) (followed_no 44 (read_run is_letter 16 (drop at t)) (take n (drop at t)) (drop (at + n) t) (run_some is_letter 16 t at n e z) f)

  module _ (z : n ≡ 0 → ⊥) (b : ℕ) (f : EndingRead t (at + n) 1 (Some b)) where
    worded : read_job_values (drop at t) ≡ tail_setting (take n (drop at t)) (drop b t)
    worded = opens (drop at t) ∙ ap (λ (g : Got (List ℕ)). then g (λ w s. tail_setting w s)) (followed_yes 44 (read_run is_letter 16 (drop at t)) (take n (drop at t)) (drop (at + n) t) (drop b t) (run_some is_letter 16 t at n e z) f.0)

    pub start_unset : read_setting (drop b t) ≡ bad → read_job_values (drop at t) ≡ bad
    start_unset g = worded ∙ unset (take n (drop at t)) (drop b t) g

    module _ (v : ℤ) (p : ℕ) (g : read_setting (drop b t) ≡ got v (drop p t)) where
      signs : (x : Parts (drop b t) v (drop p t)) → read_job_values (drop at t) ≡ then (followed 44 (read_run is_digit 4 x.mid)) (λ d s. tail_mark (take n (drop at t)) x.minus d s)
      signs x = worded ∙ ap (λ (g : Got Bool). then g (λ m s. then (followed 44 (read_run is_digit 4 s)) (λ d s. tail_mark (take n (drop at t)) m d s))) x.signed

      pub start_unparted_2 : EndingRead t p 1 None → read_job_values (drop at t) ≡ bad
      start_unparted_2 h =
          let x = parts (drop b t) v (drop p t) g in
          signs x ∙ ap (λ (g : Got (List ℕ)). then g (λ d s. tail_mark (take n (drop at t)) x.minus d s)) (followed_no 44 (read_run is_digit 4 x.mid) x.digits (drop p t) x.numbered h)

      module _ (q : ℕ) (h : EndingRead t p 1 (Some q)) where
        marks : (x : Parts (drop b t) v (drop p t)) → read_job_values (drop at t) ≡ tail_mark (take n (drop at t)) x.minus x.digits (drop q t)
        marks x = signs x ∙ ap (λ (g : Got (List ℕ)). then g (λ d s. tail_mark (take n (drop at t)) x.minus d s)) (followed_yes 44 (read_run is_digit 4 x.mid) x.digits (drop p t) (drop q t) x.numbered h.0)

        pub start_unmarked : read_pattern (drop q t) ≡ bad → read_job_values (drop at t) ≡ bad
        start_unmarked i =
            let x = parts (drop b t) v (drop p t) g in
            marks x ∙ ap (λ (g : Got ℕ). then g (λ k s. got (record { word = take n (drop at t); minus = x.minus; digits = x.digits; mark = k }) s)) (followed_bad 10 (read_pattern (drop q t)) i)

        module _ (m : ℕ) (i : read_pattern (drop q t) ≡ got m (drop (q + 8) t)) where
          pub start_unended : EndingRead t (q + 8) 0 None → read_job_values (drop at t) ≡ bad
          start_unended j =
              let x = parts (drop b t) v (drop p t) g in
              marks x ∙ ap (λ (g : Got ℕ). then g (λ k s. got (record { word = take n (drop at t); minus = x.minus; digits = x.digits; mark = k }) s)) (followed_no 10 (read_pattern (drop q t)) m (drop (q + 8) t) i j)

          pub start_done : (next : ℕ) → EndingRead t (q + 8) 0 (Some next) → StartAt t at n v m next
          start_done next j =
              let x = parts (drop b t) v (drop p t) g in
              record {
                values = record { word = take n (drop at t); minus = x.minus; digits = x.digits; mark = m };
                read = marks x ∙ ap (λ (g : Got ℕ). then g (λ k s. got (record { word = take n (drop at t); minus = x.minus; digits = x.digits; mark = k }) s)) (followed_yes 10 (read_pattern (drop q t)) m (drop (q + 8) t) (drop next t) i j.0);
                word = refl;
                setting = x.value;
                marked = refl;
                inside = let y = byte_within t (at + n) 44 tt (drop b t) f.0 in omega arith;
                within = j.1;
              }
