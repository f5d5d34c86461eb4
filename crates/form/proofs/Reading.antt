-- A text has the form exactly where it is written for a good job: `parse` finds the job of what is written (`complete`), and what it finds is good and
-- written so (`sound`). One pair of laws for each reader: it reads what is written, whatever follows, and what it read was written so.
use Prim.Native.Nat.{ℕ, zero, suc, ◌+◌, ◌-◌, ◌*◌, ◌/◌, ◌%◌, ◌^◌, ◌≤◌, ◌<◌}
use native.Mathlib.Omega.{arith}
use native.Mathlib.Nat.{not-suc-le-zero, pow-succ', pow-suc, div-div-eq-div-mul}
use lib.Arith.{mod-mul, digits_div, digits_mod}
use mathlib.Core.Path.{◌≡◌, refl, sym, ap, ◌∙◌, subst}
use mathlib.Core.Bool.{Bool, true, false, cond}
use mathlib.Core.List.{List, [], ◌∷◌, ◌++◌, map, append_assoc}
use lib.Dec.{T, leb, ltb, eqb}
use lib.ListN.{length, drop}
use lib.Seq.{drop-append_seam}
use borrow.Author.Tests.{ltb-true, ltb-false, eqb-true, eqb-false, leb-true, eq-eqb, ne_eqb, le-leb, lt-leb, lt-ltb, le-ltb}
use Rattle.form.specs.Form.{JobValues, Job, job_line, ValidValues, line, value_lines, after, sign, pattern, header, hex_char, hex_text, written, is_letter, is_digit, All, Run, Valid}
use Rattle.form.specs.Parse.{Got, got, bad, then, followed, read_job_values, run_of, read_run, skip, digit_of, read_hex, read_pattern, read_sign, ending, read_row, read_rows, if_ended, read_names, after_name, parse}

-- ---- what a reader that succeeded did first
never : {A : Type 0} (a : A) (s : List ℕ) → bad ≡ got a s → ⊥
never a s e = let z : ◌≡◌ {A = ℕ} 0 1 = cc in omega arith

record Split {A B : Type 0} (g : Got A) (k : A → List ℕ → Got B) (b : B) (r : List ℕ) : Type 0 where
  value : A
  rest : List ℕ
  first : g ≡ got value rest
  second : k value rest ≡ got b r

split : {A B : Type 0} (g : Got A) (k : A → List ℕ → Got B) (b : B) (r : List ℕ) → then g k ≡ got b r → Split g k b r
split (got a s) k b r e = record { value = a; rest = s; first = refl; second = e }
split bad k b r e = absurd (never b r e)

pass : {A : Type 0} (t : Bool) (g : Got A) (a : A) (r : List ℕ) → cond t g bad ≡ got a r → (t ≡ true) × (g ≡ got a r)
pass true g a r e = (refl, e)
pass false g a r e = absurd (never a r e)

same : {A : Type 0} (a b : A) (s r : List ℕ) → got a s ≡ got b r → (a ≡ b) × (s ≡ r)
same a b s r e = (cc, cc)

-- ---- the bytes of a literal
pub skip_all : (l s : List ℕ) → skip l (l ++ s) ≡ got tt s
unfolding skip
skip_all [] s = refl
skip_all (a ∷ l) s = rw (eq-eqb a a refl) (skip_all l s)

pub skip_sound : (l s : List ℕ) (e : Unit {0}) (r : List ℕ) → skip l s ≡ got e r → s ≡ l ++ r
unfolding skip
skip_sound [] s e r h = (same tt e s r h).1
skip_sound (a ∷ l) [] e r h = absurd (never e r h)
skip_sound (a ∷ l) (b ∷ s) e r h =
    let p = pass (eqb b a) (skip l s) e r h in
    let q : b ≡ a = eqb-true b a p.0 in
    let t : s ≡ l ++ r = skip_sound l s e r p.1 in
    cc

-- ---- a run of a class
is_true : (t : Bool) → T t → t ≡ true
is_true true h = refl
is_true false h = absurd h

pub run_all : (class : ℕ → Bool) (n : ℕ) (w : List ℕ) (b : ℕ) (s : List ℕ) → All (λ x. T (class x)) w → length w ≤ n → class b ≡ false → run_of class n (w ++ b ∷ s) ≡ w
unfolding run_of
run_all class zero [] b s a h e = refl
run_all class zero (x ∷ w) b s a h e = absurd (not-suc-le-zero h)
run_all class (suc n) [] b s a h e = rw e
run_all class (suc n) (x ∷ w) b s a h e = rw (is_true (class x) a.0) (ap (λ (l : List ℕ). x ∷ l) (run_all class n w b s a.1 (omega arith) e))

pub read_run_all : (class : ℕ → Bool) (n : ℕ) (w : List ℕ) (b : ℕ) (s : List ℕ) → Run class n w → class b ≡ false → read_run class n (w ++ b ∷ s) ≡ got w (b ∷ s)
unfolding read_run
read_run_all class n w b s v e =
    rw (run_all class n w b s v.each v.few e, ne_eqb (length w) 0 (λ z. subst (λ (k : ℕ). k ≤ 0 → ⊥) (sym z) (λ _. not-suc-le-zero (subst (λ (k : ℕ). 0 < k) z v.some)) (omega arith)))
    (ap (got w) (drop-append_seam w (b ∷ s)))

-- a run is a start of the bytes, of the class, and no longer than n
record Starts (class : ℕ → Bool) (n : ℕ) (s : List ℕ) : Type 0 where
  each : All (λ b. T (class b)) (run_of class n s)
  few : length (run_of class n s) ≤ n
  whole : s ≡ run_of class n s ++ drop (length (run_of class n s)) s

starts : (class : ℕ → Bool) (n : ℕ) (s : List ℕ) → Starts class n s
unfolding run_of
starts class zero s = record { each = tt; few = omega arith; whole = refl }
starts class (suc n) [] = record { each = tt; few = omega arith; whole = refl }
starts class (suc n) (b ∷ s) = go (class b) refl (starts class n s)
  where
    go : (t : Bool) → class b ≡ t → Starts class n s
        → Starts class (suc n) (b ∷ s)
    go true e i = record {
      each = rw e (subst T (sym e) tt, i.each);
      few = rw e (omega (arith, i.few));
      whole = rw e (ap (λ (l : List ℕ). b ∷ l) i.whole);
    }
    go false e i = record { each = rw e tt; few = rw e (omega arith); whole = rw e refl }

pub run_sound : (class : ℕ → Bool) (n : ℕ) (s w r : List ℕ) → read_run class n s ≡ got w r → (Run class n w) × (s ≡ w ++ r)
unfolding read_run
run_sound class n s w r h = go (eqb (length (run_of class n s)) 0) refl h
  where
    go : (t : Bool) → eqb (length (run_of class n s)) 0 ≡ t → cond t bad (got (run_of class n s) (drop (length (run_of class n s)) s)) ≡ got w r → (Run class n w) × (s ≡ w ++ r)
    go true e g = absurd (never w r g)
    go false e g =
        let st = starts class n s in
        let p = same (run_of class n s) w (drop (length (run_of class n s)) s) r g in
        let ne : length (run_of class n s) ≡ 0 → ⊥ = eqb-false (length (run_of class n s)) 0 e in (
          record {
            each = subst (All (λ b. T (class b))) p.0 st.each;
            some = subst (λ (l : List ℕ). 0 < length l) p.0 (omega arith);
            few = subst (λ (l : List ℕ). length l ≤ n) p.0 st.few;
          },
          st.whole ∙ ap (λ (l : List ℕ). l ++ drop (length (run_of class n s)) s) p.0 ∙ ap (λ (l : List ℕ). w ++ l) p.1,
        )

-- ---- hexadecimal digits
pub digit_low : (b : ℕ) → 48 ≤ b → b ≤ 57 → digit_of b ≡ b - 48
unfolding digit_of
digit_low b h k = rw (le-leb 48 b h, le-leb b 57 k)

pub digit_high : (b : ℕ) → 65 ≤ b → b ≤ 70 → digit_of b ≡ b - 55
unfolding digit_of
digit_high b h k =
    let a : 48 ≤ b = omega arith in
    let c : 57 < b = omega arith in
    rw (le-leb 48 b a, lt-leb b 57 c, le-leb 65 b h, le-leb b 70 k)

pub char_low : (d : ℕ) → d < 10 → hex_char d ≡ 48 + d
unfolding hex_char
char_low d h = ap (λ (t : Bool). cond t (48 + d) (55 + d)) (lt-ltb d 10 h)

pub char_high : (d : ℕ) → 10 ≤ d → hex_char d ≡ 55 + d
unfolding hex_char
char_high d h = ap (λ (t : Bool). cond t (48 + d) (55 + d)) (le-ltb d 10 h)

pub digit_char : (d : ℕ) → d < 16 → digit_of (hex_char d) ≡ d
digit_char d h = go (ltb d 10) refl
  where
    go : (t : Bool) → ltb d 10 ≡ t → digit_of (hex_char d) ≡ d
    go true e = let l = ltb-true d 10 e in ap digit_of (char_low d l) ∙ digit_low (48 + d) (omega arith) (omega arith) ∙ omega arith
    go false e = let l = ltb-false d 10 e in ap digit_of (char_high d l) ∙ digit_high (55 + d) (omega arith) (omega arith) ∙ omega arith

pub char_digit : (b : ℕ) → digit_of b ≤ 15 → hex_char (digit_of b) ≡ b
unfolding digit_of
char_digit b h = go (leb 48 b) refl (leb b 57) refl (leb 65 b) refl (leb b 70) refl h
  where
    go : (p : Bool) → leb 48 b ≡ p → (q : Bool) → leb b 57 ≡ q → (u : Bool) → leb 65 b ≡ u → (v : Bool) → leb b 70 ≡ v
        → cond p (cond q (b - 48) (cond u (cond v (b - 55) 16) 16)) 16 ≤ 15 → hex_char (cond p (cond q (b - 48) (cond u (cond v (b - 55) 16) 16)) 16) ≡ b
    go false e q e1 u e2 v e3 k = absurd (omega arith)
    go true e true e1 u e2 v e3 k = let l = leb-true 48 b e in let m = leb-true b 57 e1 in char_low (b - 48) (omega arith) ∙ omega arith
    go true e false e1 false e2 v e3 k = absurd (omega arith)
    go true e false e1 true e2 false e3 k = absurd (omega arith)
    go true e false e1 true e2 true e3 k = let l = leb-true 65 b e2 in char_high (b - 55) (omega arith) ∙ omega arith

pub hex_all : (k v x : ℕ) (s : List ℕ) → read_hex k v (hex_text k x ++ s) ≡ got (v * 16 ^ k + x % 16 ^ k) s
unfolding read_hex hex_text
hex_all zero v x s = ap (λ (n : ℕ). got n s) {x = v} {y = v * 1 + x % 1} (omega arith)
hex_all (suc k) v x s =
    let d = x / 16 ^ k % 16 in
    let l : d < 16 = omega arith in
    let m : x % (16 * 16 ^ k) ≡ d * 16 ^ k + x % 16 ^ k = mod-mul x {m = 16} {c = 16 ^ k} (omega arith) (pow16 k) in
    rw (digit_char d l, le-leb d 15 (omega arith))
    (hex_all k (v * 16 + d) x s ∙ ap (λ (n : ℕ). got n s) {x = (v * 16 + d) * 16 ^ k + x % 16 ^ k} {y = v * 16 ^ suc k + x % 16 ^ suc k} (rw (pow-succ' 16 k, m) (omega arith)))
  where
    pow16 : (k : ℕ) → 0 < 16 ^ k
    pow16 zero = omega arith
    pow16 (suc k) = rw (pow-succ' 16 k) (omega (arith, pow16 k))

pub pattern_all : (x : ℕ) (s : List ℕ) → x < 2 ^ 32 → read_pattern (pattern x ++ s) ≡ got x s
pattern_all x s h = hex_all 8 0 x s ∙ ap (λ (n : ℕ). got n s) {x = 0 * 16 ^ 8 + x % 16 ^ 8} {y = x} (omega arith)

pub hex_sound : (k v : ℕ) (s : List ℕ) (x : ℕ) (r : List ℕ) → read_hex k v s ≡ got x r → (s ≡ hex_text k x ++ r) × (x / 16 ^ k ≡ v)
unfolding read_hex hex_text
hex_sound zero v s x r h =
    let p = same v x s r h in
    let q = p.0 in
    (p.1, omega arith)
hex_sound (suc k) v [] x r h = absurd (never x r h)
hex_sound (suc k) v (b ∷ s) x r h =
    let d = digit_of b in
    let p = pass (leb d 15) (read_hex k (v * 16 + d) s) x r h in
    let l : d ≤ 15 = leb-true d 15 p.0 in
    let i = hex_sound k (v * 16 + d) s x r p.1 in
    let e : x / 16 ^ k % 16 ≡ d = ap (λ (n : ℕ). n % 16) i.1 ∙ digits_mod v {m = 16} {r = d} (omega arith) in
    let c : hex_char (x / 16 ^ k % 16) ≡ b = ap hex_char e ∙ char_digit b l in
    let t : s ≡ hex_text k x ++ r = i.0 in
    (cc, ap (λ (n : ℕ). x / n) (pow-suc 16 k) ∙ sym (div-div-eq-div-mul x (16 ^ k) 16) ∙ ap (λ (n : ℕ). n / 16) i.1 ∙ digits_div v {m = 16} {r = d} (omega arith))

pub pattern_sound : (s : List ℕ) (x : ℕ) (r : List ℕ) → read_pattern s ≡ got x r → (s ≡ pattern x ++ r) × (x < 2 ^ 32)
pattern_sound s x r h = let p = hex_sound 8 0 s x r h in let q = p.1 in (p.0, omega arith)

-- ---- a sign
pub sign_all : (m : Bool) (b : ℕ) (s : List ℕ) → (b ≡ 45 → ⊥) → read_sign (sign m ++ b ∷ s) ≡ got m (b ∷ s)
unfolding read_sign
sign_all true b s h = refl
sign_all false b s h = rw (ne_eqb b 45 h)

pub sign_sound : (s : List ℕ) (m : Bool) (r : List ℕ) → read_sign s ≡ got m r → s ≡ sign m ++ r
unfolding read_sign
sign_sound [] m r h = let p = same false m [] r h in let a = p.0 in let c = p.1 in c ∙ ap (λ (t : Bool). sign t ++ r) a
sign_sound (b ∷ s) m r h = go (eqb b 45) refl h
  where
    go : (t : Bool) → eqb b 45 ≡ t → cond t (got true s) (got false (b ∷ s)) ≡ got m r → b ∷ s ≡ sign m ++ r
    go true e g = let p = same true m s r g in let q = eqb-true b 45 e in let c = p.1 in ap (λ (n : ℕ). n ∷ s) q ∙ ap (λ (l : List ℕ). 45 ∷ l) c ∙ ap (λ (t : Bool). sign t ++ r) p.0
    go false e g = let p = same false m (b ∷ s) r g in p.1 ∙ ap (λ (t : Bool). sign t ++ r) p.0

-- ---- a line of patterns
after_ending : (vs : List ℕ) → after (map pattern vs) ≡ ending (length vs)
after_ending [] = refl
after_ending (v ∷ vs) = refl

pub row_all : (vs s : List ℕ) → All (λ v. v < 2 ^ 32) vs → read_row (length vs) (line (map pattern vs) ++ s) ≡ got vs s
unfolding read_row
row_all [] s a = refl
row_all (v ∷ vs) s a =
    rw (append_assoc (pattern v) (after (map pattern vs) ∷ line (map pattern vs)) s, pattern_all v (after (map pattern vs) ∷ line (map pattern vs) ++ s) a.0, after_ending vs, skip_all (ending (length vs) ∷ []) (line (map pattern vs) ++ s), row_all vs s a.1)

pub record RowOf (n : ℕ) (s vs r : List ℕ) : Type 0 where
  pub text : s ≡ line (map pattern vs) ++ r
  pub count : length vs ≡ n
  pub each : All (λ v. v < 2 ^ 32) vs

pub row_sound : (n : ℕ) (s vs r : List ℕ) → read_row n s ≡ got vs r → RowOf n s vs r
unfolding read_row
row_sound zero s vs r h = let p = same [] vs s r h in subst (λ (l : List ℕ). RowOf 0 s l r) p.0 (record { text = p.1; count = refl; each = tt })
row_sound (suc n) s vs r h =
    let a = split (read_pattern s) _ vs r h in
    let b = split (skip (ending n ∷ []) a.rest) _ vs r a.second in
    let d = split (read_row n b.rest) _ vs r b.second in
    let p = same (a.value ∷ d.value) vs d.rest r d.second in
    let x = pattern_sound s a.value a.rest a.first in
    let y = skip_sound (ending n ∷ []) a.rest b.value b.rest b.first in
    let i = row_sound n b.rest d.value d.rest d.first in
    subst (λ (l : List ℕ). RowOf (suc n) s l r) p.0 (record {
      text =
          x.0
          ∙ ap (λ (l : List ℕ). pattern a.value ++ l) (y ∙ ap (λ (l : List ℕ). ending n ∷ l) (i.text ∙ ap (λ (l : List ℕ). line (map pattern d.value) ++ l) p.1) ∙ ap (λ (k : ℕ). k ∷ line (map pattern d.value) ++ r) (sym (after_ending d.value ∙ ap ending i.count)))
          ∙ sym (append_assoc (pattern a.value) (after (map pattern d.value) ∷ line (map pattern d.value)) r);
      count = ap suc i.count;
      each = (x.1, i.each);
    })

-- ---- the lines to the end
ended_not : {A : Type 0} (v : ℕ) (s : List ℕ) (e g : A) → if_ended (pattern v ++ s) e g ≡ g
unfolding hex_text
ended_not v s e g = refl

abbrev pub RowsOf : ℕ → List (List ℕ) → Type 0
RowsOf n rows = All (λ r. (length r ≡ n) × All (λ v. v < 2 ^ 32) r) rows

pub rows_all : (m n : ℕ) (rows : List (List ℕ)) → RowsOf n rows → 0 < n → length rows ≤ m → read_rows m n (value_lines rows) ≡ got rows []
unfolding read_rows
rows_all zero n [] a h k = refl
rows_all zero n (r ∷ rs) a h k = absurd (not-suc-le-zero k)
rows_all (suc m) n [] a h k = refl
rows_all (suc m) n ([] ∷ rs) a h k = let e : 0 ≡ n = a.0.0 in absurd (omega arith)
rows_all (suc m) n ((v ∷ vs) ∷ rs) a h k =
    let f : read_row n (line (map pattern (v ∷ vs)) ++ value_lines rs) ≡ got (v ∷ vs) (value_lines rs) = ap (λ (j : ℕ). read_row j (line (map pattern (v ∷ vs)) ++ value_lines rs)) (sym a.0.0) ∙ row_all (v ∷ vs) (value_lines rs) a.0.1 in
    ap (λ (l : List ℕ). if_ended l (got [] []) (then (read_row n (line (map pattern (v ∷ vs)) ++ value_lines rs)) (λ r s. then (read_rows m n s) (λ rs s. got (r ∷ rs) s)))) (append_assoc (pattern v) (after (map pattern vs) ∷ line (map pattern vs)) (value_lines rs))
    ∙ ended_not v ((after (map pattern vs) ∷ line (map pattern vs)) ++ value_lines rs) (got [] []) (then (read_row n (line (map pattern (v ∷ vs)) ++ value_lines rs)) (λ r s. then (read_rows m n s) (λ rs s. got (r ∷ rs) s)))
    ∙ rw (f, rows_all m n rs a.1 h (omega arith))

pub record LinesOf (m n : ℕ) (s : List ℕ) (rows : List (List ℕ)) (r : List ℕ) : Type 0 where
  pub text : s ≡ value_lines rows
  pub over : r ≡ []
  pub each : RowsOf n rows
  pub few : length rows ≤ m

no_lines : (m n : ℕ) (rows : List (List ℕ)) (r : List ℕ) → got [] [] ≡ got rows r → LinesOf m n [] rows r
no_lines m n rows r h = let p = same [] rows [] r h in subst (λ (l : List (List ℕ)). LinesOf m n [] l r) p.0 (record { text = refl; over = sym p.1; each = tt; few = omega arith })

pub rows_sound : (m n : ℕ) (s : List ℕ) (rows : List (List ℕ)) (r : List ℕ) → read_rows m n s ≡ got rows r → LinesOf m n s rows r
unfolding read_rows
rows_sound zero n [] rows r h = no_lines zero n rows r h
rows_sound zero n (b ∷ s) rows r h = absurd (never rows r h)
rows_sound (suc m) n [] rows r h = no_lines (suc m) n rows r h
rows_sound (suc m) n (b ∷ s) rows r h =
    let a = split (read_row n (b ∷ s)) _ rows r h in
    let d = split (read_rows m n a.rest) _ rows r a.second in
    let p = same (a.value ∷ d.value) rows d.rest r d.second in
    let x = row_sound n (b ∷ s) a.value a.rest a.first in
    let i = rows_sound m n a.rest d.value d.rest d.first in
    subst (λ (l : List (List ℕ)). LinesOf (suc m) n (b ∷ s) l r) p.0 (record {
      text = x.text ∙ ap (λ (l : List ℕ). line (map pattern a.value) ++ l) i.text;
      over = sym p.1 ∙ i.over;
      each = ((x.count, x.each), i.each);
      few = let f = i.few in omega arith;
    })

-- ---- the names
pub names_all : (m : ℕ) (ws : List (List ℕ)) (s : List ℕ) → All (Run is_letter 16) ws → 0 < length ws → length ws ≤ m → read_names m (line ws ++ s) ≡ got ws s
unfolding read_names
names_all m [] s a h k = absurd (not-suc-le-zero h)
names_all zero (w ∷ ws) s a h k = absurd (not-suc-le-zero k)
names_all (suc m) (w ∷ []) s a h k = rw (append_assoc w (10 ∷ []) s, read_run_all is_letter 16 w 10 s a.0 refl)
names_all (suc m) (w ∷ x ∷ ws) s a h k =
    rw (append_assoc w (44 ∷ line (x ∷ ws)) s, read_run_all is_letter 16 w 44 (line (x ∷ ws) ++ s) a.0 refl, names_all m (x ∷ ws) s a.1 (omega arith) (omega arith))

pub record NamesOf (m : ℕ) (s : List ℕ) (ws : List (List ℕ)) (r : List ℕ) : Type 0 where
  pub text : s ≡ line ws ++ r
  pub each : All (Run is_letter 16) ws
  pub some : 0 < length ws
  pub few : length ws ≤ m

after_some : (ws : List (List ℕ)) → 0 < length ws → after ws ≡ 44
after_some [] h = absurd (not-suc-le-zero h)
after_some (w ∷ ws) h = refl

pub names_sound : (m : ℕ) (s : List ℕ) (ws : List (List ℕ)) (r : List ℕ) → read_names m s ≡ got ws r → NamesOf m s ws r
unfolding read_names
names_sound zero s ws r h = absurd (never ws r h)
names_sound (suc m) s ws r h =
    let a = split (read_run is_letter 16 s) _ ws r h in
    let x = run_sound is_letter 16 s a.value a.rest a.first in
    subst (λ (l : List ℕ). NamesOf (suc m) l ws r) (sym x.1) (go a.value a.rest x.0 (names_sound m) a.second)
  where
    go : (w t : List ℕ) → Run is_letter 16 w → ((s : List ℕ) (ws : List (List ℕ)) (r : List ℕ) → read_names m s ≡ got ws r → NamesOf m s ws r) → after_name w (read_names m) t ≡ got ws r → NamesOf (suc m) (w ++ t) ws r
    go w [] v i e = absurd (never ws r e)
    go w (b ∷ t) v i e = at (eqb b 10) refl (eqb b 44) refl e
      where
        at : (p : Bool) → eqb b 10 ≡ p → (q : Bool) → eqb b 44 ≡ q → cond p (got (w ∷ []) t) (cond q (then (read_names m t) (λ ws s. got (w ∷ ws) s)) bad) ≡ got ws r → NamesOf (suc m) (w ++ b ∷ t) ws r
        at true f q g z =
            let p = same (w ∷ []) ws t r z in
            let k : b ≡ 10 = eqb-true b 10 f in
            subst (λ (l : List (List ℕ)). NamesOf (suc m) (w ++ b ∷ t) l r) p.0 (record { text = ap (λ (n : ℕ). w ++ n ∷ t) k ∙ ap (λ (l : List ℕ). w ++ 10 ∷ l) p.1 ∙ sym (append_assoc w (10 ∷ []) r); each = (v, tt); some = omega arith; few = omega arith })
        at false f false g z = absurd (never ws r z)
        at false f true g z =
            let d = split (read_names m t) _ ws r z in
            let p = same (w ∷ d.value) ws d.rest r d.second in
            let k : b ≡ 44 = eqb-true b 44 g in
            let j = i t d.value d.rest d.first in
            subst (λ (l : List (List ℕ)). NamesOf (suc m) (w ++ b ∷ t) l r) p.0 (record {
              text = ap (λ (n : ℕ). w ++ n ∷ t) (k ∙ sym (after_some d.value j.some)) ∙ ap (λ (l : List ℕ). w ++ after d.value ∷ l) (j.text ∙ ap (λ (l : List ℕ). line d.value ++ l) p.1) ∙ sym (append_assoc w (after d.value ∷ line d.value) r);
              each = (v, j.each);
              some = omega arith;
              few = let u = j.few in omega arith;
            })

-- ---- the whole text
first_digit : (n : ℕ) (w : List ℕ) → Run is_digit n w → (b : ℕ) (t : List ℕ) → w ≡ b ∷ t → b ≡ 45 → ⊥
first_digit n w v b t e z = let a : T (is_digit b) = (subst (All (λ x. T (is_digit x))) e v.each).0 in subst (λ (k : ℕ). T (is_digit k)) z a

sign_digits : (m : Bool) (w : List ℕ) (s : List ℕ) → Run is_digit 4 w → read_sign (sign m ++ (w ++ s)) ≡ got m (w ++ s)
sign_digits m [] s v = absurd (not-suc-le-zero v.some)
sign_digits m (b ∷ w) s v = sign_all m b (w ++ s) (first_digit 4 (b ∷ w) v b w refl)

job_line_lem : (w d m r : List ℕ) → line (w ∷ d ∷ m ∷ []) ++ r ≡ w ++ 44 ∷ (d ++ 44 ∷ (m ++ 10 ∷ r))
job_line_lem w d m r =
    append_assoc w (44 ∷ (d ++ 44 ∷ (m ++ 10 ∷ []))) r
    ∙ ap (λ (l : List ℕ). w ++ 44 ∷ l) (append_assoc d (44 ∷ (m ++ 10 ∷ [])) r ∙ ap (λ (l : List ℕ). d ++ 44 ∷ l) (append_assoc m (10 ∷ []) r))

pub followed_all : {A : Type 0} (c : ℕ) (g : Got A) (a : A) (s : List ℕ) → g ≡ got a (c ∷ s) → followed c g ≡ got a s
unfolding followed
followed_all c g a s e = ap (λ (x : Got _). then x (λ a s. then (skip (c ∷ []) s) (λ e s. got a s))) e ∙ ap (λ (x : Got (Unit {0})). then x (λ e s. got a s)) (skip_all (c ∷ []) s)

pub followed_sound : {A : Type 0} (c : ℕ) (g : Got A) (a : A) (s : List ℕ) → followed c g ≡ got a s → g ≡ got a (c ∷ s)
unfolding followed
followed_sound c (got x t) a s h =
    let d = split (skip (c ∷ []) t) _ a s h in
    let p = same x a d.rest s d.second in
    ap (got x) (skip_sound (c ∷ []) t d.value d.rest d.first) ∙ ap (λ (y : _). got y (c ∷ d.rest)) p.0 ∙ ap (λ (l : List ℕ). got a (c ∷ l)) p.1
followed_sound c bad a s h = absurd (never a s h)

pub values_all : (h : JobValues) (r : List ℕ) → ValidValues h → read_job_values (job_line h ++ r) ≡ got h r
unfolding read_job_values job_line
values_all h r v =
    let m = pattern h.mark ++ 10 ∷ r in
    let d = h.digits ++ 44 ∷ m in
    let s = sign h.minus ++ d in
    rw (
      job_line_lem h.word (sign h.minus ++ h.digits) (pattern h.mark) r,
      append_assoc (sign h.minus) h.digits (44 ∷ m),
      read_job_values,
      followed_all 44 (read_run is_letter 16 (h.word ++ 44 ∷ s)) h.word s (read_run_all is_letter 16 h.word 44 s v.word refl),
      sign_digits h.minus h.digits (44 ∷ m) v.digits,
      followed_all 44 (read_run is_digit 4 d) h.digits m (read_run_all is_digit 4 h.digits 44 m v.digits refl),
      followed_all 10 (read_pattern m) h.mark r (pattern_all h.mark (10 ∷ r) v.mark),
    )

parts : (x s2 s3 : List ℕ) (h : JobValues) (ns rs : List (List ℕ)) → read_job_values x ≡ got h s2 → read_names 8 s2 ≡ got ns s3 → read_rows 512 (length ns) s3 ≡ got rs [] → parse (header ++ x) ≡ got (record { values = h; names = ns; rows = rs }) []
unfolding parse
parts x s2 s3 h ns rs e1 e2 e3 =
    ap (λ (g : Got (Unit {0})). then g (λ e s. then (read_job_values s) (λ values s. then (read_names 8 s) (λ names s. then (read_rows 512 (length names) s) (λ rows s. got (record { values = values; names = names; rows = rows }) s))))) (skip_all header x)
    ∙ ap (λ (g : Got JobValues). then g (λ values s. then (read_names 8 s) (λ names s. then (read_rows 512 (length names) s) (λ rows s. got (record { values = values; names = names; rows = rows }) s)))) e1
    ∙ ap (λ (g : Got (List (List ℕ))). then g (λ names s. then (read_rows 512 (length names) s) (λ rows s. got (record { values = h; names = names; rows = rows }) s))) e2
    ∙ ap (λ (g : Got (List (List ℕ))). then g (λ rows s. got (record { values = h; names = ns; rows = rows }) s)) e3

pub complete : (j : Job) → Valid j → parse (written j) ≡ got j []
unfolding written
complete j v =
    parts (job_line j.values ++ (line j.names ++ value_lines j.rows)) (line j.names ++ value_lines j.rows) (value_lines j.rows) j.values j.names j.rows
    (values_all j.values (line j.names ++ value_lines j.rows) v.values)
    (names_all 8 j.names (value_lines j.rows) v.names v.some v.few)
    (rows_all 512 (length j.names) j.rows v.rows v.some v.short)

pub values_sound : (s : List ℕ) (h : JobValues) (r : List ℕ) → read_job_values s ≡ got h r → (ValidValues h) × (s ≡ job_line h ++ r)
unfolding read_job_values job_line
values_sound s h r e =
    let a1 = split (followed 44 (read_run is_letter 16 s)) _ h r e in
    let a2 = split (read_sign a1.rest) _ h r a1.second in
    let a3 = split (followed 44 (read_run is_digit 4 a2.rest)) _ h r a2.second in
    let a4 = split (followed 10 (read_pattern a3.rest)) _ h r a3.second in
    last s a1.value a1.rest a2.value a2.rest a3.value a3.rest a4.value a4.rest a1.first a2.first a3.first a4.first a4.second
  where
    last : (s w s1 : List ℕ) (m : Bool) (s2 d s3 : List ℕ) (k : ℕ) (s4 : List ℕ) → followed 44 (read_run is_letter 16 s) ≡ got w s1 → read_sign s1 ≡ got m s2 → followed 44 (read_run is_digit 4 s2) ≡ got d s3 → followed 10 (read_pattern s3) ≡ got k s4
        → got (record { word = w; minus = m; digits = d; mark = k }) s4 ≡ got h r → (ValidValues h) × (s ≡ job_line h ++ r)
    last s w s1 m s2 d s3 k s4 f1 f2 f3 f4 g =
        let p1 = run_sound is_letter 16 s w (44 ∷ s1) (followed_sound 44 (read_run is_letter 16 s) w s1 f1) in
        let p2 : s1 ≡ sign m ++ s2 = sign_sound s1 m s2 f2 in
        let p3 = run_sound is_digit 4 s2 d (44 ∷ s3) (followed_sound 44 (read_run is_digit 4 s2) d s3 f3) in
        let p4 = pattern_sound s3 k (10 ∷ s4) (followed_sound 10 (read_pattern s3) k s4 f4) in
        let q = same (record { word = w; minus = m; digits = d; mark = k }) h s4 r g in
        subst (λ (x : JobValues). (ValidValues x) × (s ≡ job_line x ++ r)) q.0 (
          record { word = p1.0; digits = p3.0; mark = p4.1 },
          p1.1 ∙ ap (λ (l : List ℕ). w ++ 44 ∷ l) (p2 ∙ ap (λ (l : List ℕ). sign m ++ l) (p3.1 ∙ ap (λ (l : List ℕ). d ++ 44 ∷ l) (p4.0 ∙ ap (λ (l : List ℕ). pattern k ++ 10 ∷ l) q.1)) ∙ sym (append_assoc (sign m) d (44 ∷ (pattern k ++ 10 ∷ r))))
              ∙ sym (job_line_lem w (sign m ++ d) (pattern k) r),
        )

pub sound : (t : List ℕ) (j : Job) (r : List ℕ) → parse t ≡ got j r → (Valid j) × (t ≡ written j) × (r ≡ [])
unfolding parse written
sound t j r e =
    let a1 = split (skip header t) _ j r e in
    let a2 = split (read_job_values a1.rest) _ j r a1.second in
    let a3 = split (read_names 8 a2.rest) _ j r a2.second in
    let a4 = split (read_rows 512 (length a3.value) a3.rest) _ j r a3.second in
    last a1.value a1.rest a2.value a2.rest a3.value a3.rest a4.value a4.rest a1.first a2.first a3.first a4.first a4.second
  where
    last : (u : Unit {0}) (s1 : List ℕ) (h : JobValues) (s2 : List ℕ) (ns : List (List ℕ)) (s3 : List ℕ) (rs : List (List ℕ)) (s4 : List ℕ) → skip header t ≡ got u s1 → read_job_values s1 ≡ got h s2 → read_names 8 s2 ≡ got ns s3 → read_rows 512 (length ns) s3 ≡ got rs s4
        → got (record { values = h; names = ns; rows = rs }) s4 ≡ got j r → (Valid j) × (t ≡ written j) × (r ≡ [])
    last u s1 h s2 ns s3 rs s4 f1 f2 f3 f4 g =
        let p2 = values_sound s1 h s2 f2 in
        let p3 = names_sound 8 s2 ns s3 f3 in
        let p4 = rows_sound 512 (length ns) s3 rs s4 f4 in
        let q = same (record { values = h; names = ns; rows = rs }) j s4 r g in
        subst (λ (x : Job). (Valid x) × (t ≡ written x) × (r ≡ [])) q.0 (
          record { values = p2.0; names = p3.each; some = p3.some; few = p3.few; rows = p4.each; short = p4.few },
          skip_sound header t u s1 f1 ∙ ap (λ (l : List ℕ). header ++ l) (p2.1 ∙ ap (λ (l : List ℕ). job_line h ++ l) (p3.text ∙ ap (λ (l : List ℕ). line ns ++ l) p4.text)),
          sym q.1 ∙ p4.over,
        )
