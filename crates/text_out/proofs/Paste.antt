-- Bytes laid over others one by one, and writers that go so: a pattern and a number, over plain lists.
use Prim.Native.Nat.{ℕ, suc, ◌+◌, ◌-◌, ◌/◌, ◌%◌, ◌^◌, ◌≤◌, ◌<◌}
use native.Mathlib.Omega.{arith}
use native.Mathlib.Nat.{pow-suc, add-zero, div-div-eq-div-mul}
use native.Mathlib.Numerals.{add-one}
use mathlib.Core.Path.{◌≡◌, refl, sym, ap, ◌∙◌}
use mathlib.Core.Bool.{Bool, cond}
use mathlib.Core.List.{List, [], ◌∷◌, ◌++◌, append_assoc}
use lib.ListN.{length, take, drop, get_or, set, length-append, length-take, length-drop, length-set, take-append-drop}
use lib.Seq.{drop-cons, take-suc, set_at, set_split, length-take-le}
use borrow.Author.Tests.{le-ltb, lt-ltb}
use Rattle.form.specs.Form.{hex_char, hex_text}
use Rattle.form.specs.Output.{decimal, decimal_text}
use Rattle.text_out.specs.Places.{paste}

pub paste_none : (l : List ℕ) (at : ℕ) → l ≡ paste l at []
paste_none l at = sym (ap (λ (p : ℕ). take at l ++ drop p l) (add-zero at) ∙ take-append-drop at l)

pub length-paste : (l : List ℕ) (at : ℕ) (w : List ℕ) → at + length w ≤ length l → length (paste l at w) ≡ length l
length-paste l at w h = simp (length-append, length-take, length-drop) (omega arith)

-- one byte more, in front
pub paste_front : (l : List ℕ) (p : ℕ) (w : List ℕ) (c : ℕ) → p < length l → set (paste l (suc p) w) p c ≡ paste l p (c ∷ w)
paste_front l p w c h =
    ap (λ (x : List ℕ). set (x ++ (w ++ drop (suc p + length w) l)) p c) (take-suc l p 0 h)
    ∙ ap (λ (x : List ℕ). set x p c) (append_assoc (take p l) (get_or l p 0 ∷ []) (w ++ drop (suc p + length w) l))
    ∙ set_at (take p l) (get_or l p 0) (w ++ drop (suc p + length w) l) c p (length-take-le p l (omega arith))
    ∙ ap (λ (n : ℕ). take p l ++ (c ∷ (w ++ drop n l))) {x = suc p + length w} {y = p + suc (length w)} (omega arith)

pub paste_set_1 : (l : List ℕ) (at a : ℕ) → at < length l → set l at a ≡ paste l at (a ∷ [])
paste_set_1 l at a h = set_split l at a h ∙ ap (λ (p : ℕ). take at l ++ (a ∷ drop p l)) (sym (add-one at))

-- one byte more, behind
pub paste_back : (l : List ℕ) (at : ℕ) (w : List ℕ) (c : ℕ) → at + length w < length l → set (paste l at w) (at + length w) c ≡ paste l at (w ++ (c ∷ []))
paste_back l at w c h =
    ap (λ (x : List ℕ). set (take at l ++ (w ++ x)) (at + length w) c) (drop-cons l (at + length w) 0 h)
    ∙ ap (λ (x : List ℕ). set x (at + length w) c) (sym (append_assoc (take at l) w (get_or l (at + length w) 0 ∷ drop (suc (at + length w)) l)))
    ∙ set_at (take at l ++ w) (get_or l (at + length w) 0) (drop (suc (at + length w)) l) c (at + length w) (length-append (take at l) w ∙ ap (λ (n : ℕ). n + length w) (length-take-le at l (omega arith)))
    ∙ append_assoc (take at l) w (c ∷ drop (suc (at + length w)) l)
    ∙ ap (λ (x : List ℕ). take at l ++ x) (sym (append_assoc w (c ∷ []) (drop (suc (at + length w)) l)))
    ∙ ap (λ (p : ℕ). take at l ++ ((w ++ (c ∷ [])) ++ drop p l)) {x = suc (at + length w)} {y = at + length (w ++ (c ∷ []))} (let e = length-append w (c ∷ []) in omega arith)

pub paste_set_2 : (l : List ℕ) (at a b : ℕ) → at + 1 < length l → set (set l at a) (at + 1) b ≡ paste l at (a ∷ b ∷ [])
paste_set_2 l at a b h = ap (λ (x : List ℕ). set x (at + 1) b) (paste_set_1 l at a (omega arith)) ∙ paste_back l at (a ∷ []) b h

pub paste_set_3 : (l : List ℕ) (at a b c : ℕ) → at + 3 ≤ length l → set (set (set l at a) (at + 1) b) (at + 2) c ≡ paste l at (a ∷ b ∷ c ∷ [])
paste_set_3 l at a b c h = ap (λ (x : List ℕ). set x (at + 2) c) (paste_set_2 l at a b (omega arith)) ∙ paste_back l at (a ∷ b ∷ []) c (omega arith)

-- ---- eight hexadecimal digits: the last k are written
pub record PutTurn (l₀ : List ℕ) (at v : ℕ) (l : List ℕ) (k rest : ℕ) : Type 0 where
  pub low : k ≤ 8
  pub rests : rest ≡ v / 16 ^ k
  pub text : l ≡ paste l₀ (at + (8 - k)) (hex_text k v)
  pub long : length l ≡ length l₀

pub put_start : (l : List ℕ) (at v : ℕ) → at + 8 ≤ length l → PutTurn l at v l 0 v
unfolding hex_text
put_start l at v h = record { low = omega arith; rests = omega arith; text = paste_none l (at + 8); long = refl }

pub put_turn : (l₀ : List ℕ) (at v : ℕ) (l : List ℕ) (k rest c : ℕ) → at + 8 ≤ length l₀ → PutTurn l₀ at v l k rest → k < 8 → c ≡ hex_char (rest % 16) → PutTurn l₀ at v (set l (at + (7 - k)) c) (k + 1) (rest / 16)
unfolding hex_text
put_turn l₀ at v l k rest c h t b e = record {
  low = omega arith;
  rests = ap (λ (n : ℕ). n / 16) t.rests ∙ div-div-eq-div-mul v (16 ^ k) 16 ∙ ap (λ (n : ℕ). v / n) (sym (ap (λ (n : ℕ). 16 ^ n) (add-one k) ∙ pow-suc 16 k));
  text =
      ap (λ (x : List ℕ). set x (at + (7 - k)) c) (t.text ∙ ap (λ (p : ℕ). paste l₀ p (hex_text k v)) {x = at + (8 - k)} {y = suc (at + (7 - k))} (omega arith))
      ∙ paste_front l₀ (at + (7 - k)) (hex_text k v) c (omega arith)
      ∙ ap (λ (x : ℕ). paste l₀ (at + (7 - k)) (x ∷ hex_text k v)) (e ∙ ap (λ (n : ℕ). hex_char (n % 16)) t.rests)
      ∙ ap (λ (p : ℕ). paste l₀ p (hex_text (suc k) v)) {x = at + (7 - k)} {y = at + (8 - (k + 1))} (omega arith)
      ∙ ap (λ (j : ℕ). paste l₀ (at + (8 - (k + 1))) (hex_text j v)) (sym (add-one k));
  long = length-set l (at + (7 - k)) c ∙ t.long;
}

-- ---- a number in decimal
pub decimal_1 : (n : ℕ) → n < 10 → decimal n ≡ (48 + n) ∷ []
unfolding decimal_text
decimal_1 n h = ap (λ (b : Bool). cond b ((48 + n) ∷ []) (decimal_text 2 (n / 10) ++ ((48 + n % 10) ∷ []))) (lt-ltb n 10 h)

digits_1 : (f n : ℕ) → n < 10 → decimal_text (suc f) n ≡ (48 + n) ∷ []
unfolding decimal_text
digits_1 f n h = ap (λ (b : Bool). cond b ((48 + n) ∷ []) (decimal_text f (n / 10) ++ ((48 + n % 10) ∷ []))) (lt-ltb n 10 h)

digits_more : (f n : ℕ) → 10 ≤ n → decimal_text (suc f) n ≡ decimal_text f (n / 10) ++ ((48 + n % 10) ∷ [])
unfolding decimal_text
digits_more f n h = ap (λ (b : Bool). cond b ((48 + n) ∷ []) (decimal_text f (n / 10) ++ ((48 + n % 10) ∷ []))) (le-ltb n 10 h)

pub decimal_2 : (n : ℕ) → 10 ≤ n → n < 100 → decimal n ≡ (48 + n / 10) ∷ (48 + n % 10) ∷ []
decimal_2 n h k = digits_more 2 n h ∙ ap (λ (l : List ℕ). l ++ ((48 + n % 10) ∷ [])) (digits_1 1 (n / 10) (omega arith))

pub decimal_3 : (n : ℕ) → 100 ≤ n → n < 1000 → decimal n ≡ (48 + n / 10 / 10) ∷ (48 + n / 10 % 10) ∷ (48 + n % 10) ∷ []
decimal_3 n h k = digits_more 2 n (omega arith) ∙ ap (λ (l : List ℕ). l ++ ((48 + n % 10) ∷ [])) (digits_more 1 (n / 10) (omega arith) ∙ ap (λ (l : List ℕ). l ++ ((48 + n / 10 % 10) ∷ [])) (digits_1 0 (n / 10 / 10) (omega arith)))
