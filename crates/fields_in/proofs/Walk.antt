-- Readers that go byte by byte, over plain lists.
use Prim.Native.Nat.{ℕ, zero, suc, ◌+◌, ◌-◌, ◌*◌, ◌^◌, ◌≤◌, ◌<◌}
use native.Mathlib.Omega.{arith}
use native.Mathlib.Nat.{not-suc-le-zero, pow-succ', pow-le-pow_right}
use native.Mathlib.Numerals.{add-one}
use mathlib.Core.Path.{◌≡◌, refl, sym, ap, ◌∙◌, subst}
use mathlib.Core.Bool.{Bool, true, false, cond, ◌&&◌, true≢false}
use Rattle.std.proofs.Common.{Option, Some, None, Bor, eqb}
use Rattle.std.proofs.lemmas.Bool.{false≢true, eqb-true}
use mathlib.Core.List.{List, [], ◌∷◌, ◌++◌}
use lib.Dec.{leb}
use lib.ListN.{length, take, drop, get_or, length-take, length-drop, drop_of_length-le}
use lib.Seq.{drop-cons, drop-drop, take-suc, get_or-drop}
use borrow.Author.Tests.{leb-true, leb-false, le-leb, lt-leb, eq-eqb, ne_eqb}
use Rattle.std.specs.List.{take_while}
use Rattle.std.specs.Option.{option_eq}
use Rattle.std.specs.Slice.{IsItemAt}
use Rattle.std.proofs.lemmas.List.{get_or-take, length-take-le}
use Rattle.std.proofs.lemmas.List.Sums.{take_while-cons}
use Rattle.form.specs.Form.{hex_text, is_digit}
use Rattle.form.specs.Parse.{got, bad, then, run_of, read_run, digit_of, read_hex, read_pattern, skip, ending}
use Rattle.form.specs.Output.{number_of}
use Rattle.fields_in.specs.Fields.{read_number, skip_got}

-- ---- eight hexadecimal digits: v is made of the first i, and the rest is still to be read
pub record HexTurn (s : List ℕ) (at v i : ℕ) : Type 0 where
  pub low : i ≤ 8
  pub within : at + i ≤ length s
  pub small : v < 16 ^ i
  pub same : read_hex (8 - i) v (drop (at + i) s) ≡ read_pattern (drop at s)

module _ (s : List ℕ) (at v i : ℕ) (t : HexTurn s at v i) (h : i < 8) where
  pub hex_room : v < 2 ^ 28
  hex_room = let a = t.small in let b : 16 ^ i ≤ 16 ^ 7 = pow-le-pow_right {n = 16} (omega arith) {i = i} {j = 7} (omega arith) in omega arith

  next_i : 8 - i ≡ suc (8 - (i + 1))
  next_i = omega arith

  pub hex_ended : length s ≤ at + i → read_pattern (drop at s) ≡ bad
  unfolding read_hex
  hex_ended k =
      sym t.same
      ∙ ap (λ (n : ℕ). read_hex n v (drop (at + i) s)) next_i
      ∙ ap (read_hex (suc (8 - (i + 1))) v) (drop_of_length-le s {i = at + i} k)

  module _ (k : at + i < length s) (b : ℕ) (e : b ≡ get_or s (at + i) 0) where
    opened : read_pattern (drop at s) ≡ cond (leb (digit_of b) 15) (read_hex (8 - (i + 1)) (v * 16 + digit_of b) (drop (suc (at + i)) s)) bad
    unfolding read_hex
    opened =
        sym t.same
        ∙ ap (λ (n : ℕ). read_hex n v (drop (at + i) s)) next_i
        ∙ ap (read_hex (suc (8 - (i + 1))) v) (drop-cons s (at + i) 0 k)
        ∙ ap (λ (c : ℕ). cond (leb (digit_of c) 15) (read_hex (8 - (i + 1)) (v * 16 + digit_of c) (drop (suc (at + i)) s)) bad) (sym e)

    pub hex_stopped : digit_of b ≡ 16 → read_pattern (drop at s) ≡ bad
    hex_stopped l = opened ∙ ap (λ (c : Bool). cond c (read_hex (8 - (i + 1)) (v * 16 + digit_of b) (drop (suc (at + i)) s)) bad) (lt-leb (digit_of b) 15 (omega arith))

    pub hex_turn : (d : ℕ) → d ≡ digit_of b → d < 16 → HexTurn s at (v * 16 + d) (i + 1)
    hex_turn d f l = record {
      low = omega arith;
      within = omega arith;
      small = let a = t.small in let p : 16 ^ (i + 1) ≡ 16 * 16 ^ i = ap (λ (n : ℕ). 16 ^ n) (add-one i) ∙ pow-succ' 16 i in omega arith;
      same =
          ap (λ (n : ℕ). read_hex (8 - (i + 1)) (v * 16 + n) (drop (at + (i + 1)) s)) f
          ∙ ap (λ (n : ℕ). read_hex (8 - (i + 1)) (v * 16 + digit_of b) (drop n s)) {x = at + (i + 1)} {y = suc (at + i)} (omega arith)
          ∙ sym (opened ∙ ap (λ (c : Bool). cond c (read_hex (8 - (i + 1)) (v * 16 + digit_of b) (drop (suc (at + i)) s)) bad) (le-leb (digit_of b) 15 (omega arith)));
    }

pub hex_done : (s : List ℕ) (at v i : ℕ) → HexTurn s at v i → 8 ≤ i → read_pattern (drop at s) ≡ got v (drop (at + 8) s)
unfolding read_hex
hex_done s at v i t h =
    let l = t.low in
    let e : i ≡ 8 = omega arith in
    sym (subst (λ (j : ℕ). read_hex (8 - j) v (drop (at + j) s) ≡ read_pattern (drop at s)) e t.same)

pub length-hex : (k v : ℕ) → length (hex_text k v) ≡ k
unfolding hex_text
length-hex zero v = refl
length-hex (suc k) v = ap suc (length-hex k v)

-- ---- a run of a class
pub run_taken : (class : ℕ → Bool) (n : ℕ) (s : List ℕ) → length (take_while class (take n s)) ≡ length (run_of class n s)
unfolding run_of
run_taken class zero s = refl
run_taken class (suc n) [] = refl
run_taken class (suc n) (b ∷ s) = ap length (take_while-cons class b (take n s)) ∙ go (class b) (run_taken class n s)
  where
    go : (t : Bool) → length (take_while class (take n s)) ≡ length (run_of class n s) → length (cond t (b ∷ take_while class (take n s)) []) ≡ length (cond t (b ∷ run_of class n s) [])
    go true i = ap suc i
    go false i = refl

-- ---- one byte that is asked for: is it n that stands at `at`?
abbrev pub ByteIs : List ℕ → ℕ → ℕ → Bool → Type 0
ByteIs s at n true = (at < length s) × (get_or s at 0 ≡ n)
ByteIs s at n false = at < length s → get_or s at 0 ≡ n → ⊥

-- a slice's `get`, compared with `Some` of a byte
pub byte_is : (s : List ℕ) (at : ℕ) (o : Option (Bor ℕ)) → IsItemAt s at o → (y : Bor ℕ) (r : Bool) → r ≡ option_eq (λ a b. eqb a.now b.now) o (Some y) → ByteIs s at y.now r
byte_is s at None g y r e = subst (ByteIs s at y.now) (sym e) (λ k _. absurd (omega (arith, g.3)))
byte_is s at (Some x) g y r e = subst (ByteIs s at y.now) (sym e) (go (eqb x.now y.now) refl)
  where
    go : (t : Bool) → eqb x.now y.now ≡ t → ByteIs s at y.now t
    go true f = (g.3.0, sym (g.3.1 0) ∙ eqb-true x.now y.now f)
    go false f = λ k h. false≢true (sym f ∙ eq-eqb x.now y.now (g.3.1 0 ∙ h))

pub skip_byte : (s : List ℕ) (at n : ℕ) (r : Bool) → ByteIs s at n r → skip (n ∷ []) (drop at s) ≡ skip_got s at r
unfolding skip
skip_byte s at n true h = ap (skip (n ∷ [])) (drop-cons s at 0 h.0) ∙ ap (λ (b : Bool). cond b (got tt (drop (suc at) s)) bad) (eq-eqb (get_or s at 0) n h.1) ∙ ap (λ (p : ℕ). got tt (drop p s)) (sym (add-one at))
skip_byte s at n false h = go (leb (length s) at) refl
  where
    go : (t : Bool) → leb (length s) at ≡ t → skip (n ∷ []) (drop at s) ≡ bad
    go true e = ap (skip (n ∷ [])) (drop_of_length-le s {i = at} (leb-true (length s) at e))
    go false e =
        let k : at < length s = leb-false (length s) at e in
        ap (skip (n ∷ [])) (drop-cons s at 0 k) ∙ ap (λ (b : Bool). cond b (got tt (drop (suc at) s)) bad) (ne_eqb (get_or s at 0) n (h k))

pub ending_more : (n : ℕ) → (n ≡ 0 → ⊥) → ending n ≡ 44
ending_more zero h = absurd (h refl)
ending_more (suc n) h = refl

-- ---- a number of decimal digits
pub run_take : (class : ℕ → Bool) (n : ℕ) (s : List ℕ) → run_of class n s ≡ take (length (run_of class n s)) s
unfolding run_of
run_take class zero s = refl
run_take class (suc n) [] = refl
run_take class (suc n) (b ∷ s) = go (class b) (run_take class n s)
  where
    go : (t : Bool) → run_of class n s ≡ take (length (run_of class n s)) s → cond t (b ∷ run_of class n s) [] ≡ take (length (cond t (b ∷ run_of class n s) [])) (b ∷ s)
    go true i = ap (λ (l : List ℕ). b ∷ l) i
    go false i = refl

pub run_few : (class : ℕ → Bool) (n : ℕ) (s : List ℕ) → length (run_of class n s) ≤ n
unfolding run_of
run_few class zero s = omega arith
run_few class (suc n) [] = omega arith
run_few class (suc n) (b ∷ s) = go (class b) (run_few class n s)
  where
    go : (t : Bool) → length (run_of class n s) ≤ n → length (cond t (b ∷ run_of class n s) []) ≤ suc n
    go true i = omega arith
    go false i = omega arith

pub run_short : (class : ℕ → Bool) (n : ℕ) (s : List ℕ) → length (run_of class n s) ≤ length s
run_short class n s = let e = ap length (run_take class n s) ∙ length-take (length (run_of class n s)) s in omega arith

pub run_class : (class : ℕ → Bool) (n : ℕ) (s : List ℕ) (i : ℕ) → i < length (run_of class n s) → class (get_or s i 0) ≡ true
unfolding run_of
run_class class zero s i h = absurd (not-suc-le-zero h)
run_class class (suc n) [] i h = absurd (not-suc-le-zero h)
run_class class (suc n) (b ∷ s) i h = go (class b) refl i h (run_class class n s)
  where
    go : (t : Bool) → class b ≡ t → (i : ℕ) → i < length (cond t (b ∷ run_of class n s) []) → ((i : ℕ) → i < length (run_of class n s) → class (get_or s i 0) ≡ true) → class (get_or (b ∷ s) i 0) ≡ true
    go true e zero k f = e
    go true e (suc i) k f = f i (omega arith)
    go false e i k f = absurd (not-suc-le-zero k)

number_snoc : (v : ℕ) (l : List ℕ) (b : ℕ) → number_of v (l ++ (b ∷ [])) ≡ number_of v l * 10 + (b - 48)
unfolding number_of
number_snoc v [] b = refl
number_snoc v (x ∷ l) b = number_snoc (v * 10 + (x - 48)) l b

-- v is made of the first i of the n digits from `at` on
pub record NumberTurn (s : List ℕ) (at n v i : ℕ) : Type 0 where
  pub whole : n ≡ length (run_of is_digit 4 (drop at s))
  pub few : n ≤ 4
  pub within : at + n ≤ length s
  pub low : i ≤ n
  pub small : v < 10 ^ i
  pub value : v ≡ number_of 0 (take i (drop at s))
  pub digits : (j : ℕ) → j < n → (48 ≤ get_or s (at + j) 0) × (get_or s (at + j) 0 ≤ 57)

and_true : (a b : Bool) → (a && b) ≡ true → (a ≡ true) × (b ≡ true)
and_true true b e = (refl, e)
and_true false b e = absurd (true≢false (sym e))

pub number_start : (s : List ℕ) (at n : ℕ) → at ≤ length s → n ≡ length (run_of is_digit 4 (drop at s)) → NumberTurn s at n 0 0
unfolding number_of
number_start s at n h e = record {
  whole = e;
  few = subst (λ (k : ℕ). k ≤ 4) (sym e) (run_few is_digit 4 (drop at s));
  within = let a = run_short is_digit 4 (drop at s) in let b = length-drop at s in omega arith;
  low = omega arith;
  small = omega arith;
  value = refl;
  digits = λ j k.
      let c = and_true (leb 48 (get_or (drop at s) j 0)) (leb (get_or (drop at s) j 0) 57) (run_class is_digit 4 (drop at s) j (subst (λ (m : ℕ). j < m) e k)) in
      let d : get_or (drop at s) j 0 ≡ get_or s (at + j) 0 = get_or-drop at s j 0 in
      let a = leb-true 48 (get_or (drop at s) j 0) c.0 in
      let b = leb-true (get_or (drop at s) j 0) 57 c.1 in
      (omega arith, omega arith);
}

pub number_none : (s : List ℕ) (at : ℕ) → length (run_of is_digit 4 (drop at s)) ≡ 0 → read_number (drop at s) ≡ bad
unfolding read_number read_run
number_none s at e = ap (λ (b : Bool). then (cond b bad (got (run_of is_digit 4 (drop at s)) (drop (length (run_of is_digit 4 (drop at s))) (drop at s)))) (λ d s. got (number_of 0 d) s)) (eq-eqb (length (run_of is_digit 4 (drop at s))) 0 e)

module _ (s : List ℕ) (at n v i : ℕ) (t : NumberTurn s at n v i) where
  pub number_small : v < 10000
  number_small = let a = t.small in let f = t.few in let l = t.low in let b : 10 ^ i ≤ 10 ^ 4 = pow-le-pow_right {n = 10} (omega arith) {i = i} {j = 4} (omega arith) in omega arith

  -- the slice of the digits: how many, and each of them
  pub number_length : length (take (at + n - at) (drop at s)) ≡ n
  number_length = let w = t.within in let l = length-drop at s in length-take-le (at + n - at) (drop at s) (omega arith) ∙ omega arith

  pub number_turn : i < n → (d : ℕ) → d ≡ get_or (take (at + n - at) (drop at s)) i 0 - 48 → NumberTurn s at n (v * 10 + d) (i + 1)
  number_turn h d e =
      let g : get_or (take (at + n - at) (drop at s)) i 0 ≡ get_or (drop at s) i 0 = get_or-take (at + n - at) (drop at s) i 0 (omega arith) in
      let k : get_or (drop at s) i 0 ≡ get_or s (at + i) 0 = get_or-drop at s i 0 in
      let w = t.within in
      let l = length-drop at s in
      record {
        whole = t.whole;
        few = t.few;
        within = t.within;
        low = omega arith;
        small = let a = t.small in let p : 10 ^ (i + 1) ≡ 10 * 10 ^ i = ap (λ (k : ℕ). 10 ^ k) (add-one i) ∙ pow-succ' 10 i in let d1 = (t.digits i h).1 in omega arith;
        value =
            ap (λ (k : ℕ). k * 10 + d) t.value
            ∙ ap (λ (b : ℕ). number_of 0 (take i (drop at s)) * 10 + b) (e ∙ ap (λ (b : ℕ). b - 48) g)
            ∙ sym (number_snoc 0 (take i (drop at s)) (get_or (drop at s) i 0))
            ∙ ap (number_of 0) (sym (take-suc (drop at s) i 0 (omega arith)))
            ∙ ap (λ (k : ℕ). number_of 0 (take k (drop at s))) (sym (add-one i));
        digits = t.digits;
      }

  pub number_done : n ≤ i → (n ≡ 0 → ⊥) → read_number (drop at s) ≡ got v (drop (at + n) s)
  unfolding read_number read_run
  number_done h ne =
      let l = t.low in
      let e : i ≡ n = omega arith in
      let m = length (run_of is_digit 4 (drop at s)) in
      ap (λ (b : Bool). then (cond b bad (got (run_of is_digit 4 (drop at s)) (drop m (drop at s)))) (λ d s. got (number_of 0 d) s)) (ne_eqb m 0 (λ z. ne (t.whole ∙ z)))
      ∙ ap (λ (x : List ℕ). got (number_of 0 x) (drop m (drop at s))) (run_take is_digit 4 (drop at s))
      ∙ ap (λ (k : ℕ). got (number_of 0 (take k (drop at s))) (drop k (drop at s))) (sym t.whole)
      ∙ ap (λ (x : List ℕ). got (number_of 0 (take n (drop at s))) x) (drop-drop n at s)
      ∙ ap (λ (k : ℕ). got k (drop (at + n) s)) (ap (λ (k : ℕ). number_of 0 (take k (drop at s))) (sym e) ∙ sym t.value)
