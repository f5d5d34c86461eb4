-- Runs of bytes laid one after the other: the counts of a series, and the lines of values, over plain lists.
use Prim.Native.Nat.{ℕ, zero, suc, ◌+◌, ◌-◌, ◌*◌, ◌≤◌, ◌<◌}
use native.Mathlib.Omega.{arith}
use native.Mathlib.Nat.{not-suc-le-zero, le_of_suc-le-suc}
use native.Mathlib.Numerals.{add-one}
use mathlib.Core.Path.{◌≡◌, refl, sym, ap, ◌∙◌}
use mathlib.Core.List.{List, [], ◌∷◌, ◌++◌, map, append_assoc, append-nil}
use lib.ListN.{length, drop, get_or, length-append, length-drop}
use lib.Seq.{drop-cons}
use Rattle.meaning.specs.Questions.{refused}
use Rattle.form.specs.Form.{bytes, line, after, pattern, value_lines, All}
use Rattle.form.specs.Parse.{ending}
use Rattle.form.specs.Output.{columns, decimal, printed}
use Rattle.text_in.specs.Places.{area_series}
use Rattle.fields_in.proofs.Walk.{length-hex}
use Rattle.text_out.specs.Places.{paste, field, gather, gathered}
use Rattle.text_out.proofs.Paste.{length-paste}
use Rattle.text_out.proofs.PutLaws.{paste_paste}
use Rattle.text_out.proofs.Series.{area_lines}
use Rattle.text_out.proofs.FieldLaws.{decimal_short}

-- w was laid over l from `at` on, which gave m, and p is the place after it
pub record Laid (l : List ℕ) (at : ℕ) (w m : List ℕ) (p : ℕ) : Type 0 where
  pub stored : m ≡ paste l at w
  pub place : p ≡ at + length w
  pub room : at + length w ≤ length l

pub laid_long : (l : List ℕ) (at : ℕ) (w m : List ℕ) (p : ℕ) → Laid l at w m p → length m ≡ length l
laid_long l at w m p x = ap length x.stored ∙ length-paste l at w x.room

pub laid_more : (l : List ℕ) (at : ℕ) (v m : List ℕ) (p : ℕ) → Laid l at v m p → (w k : List ℕ) (q : ℕ) → p + length w ≤ length l → k ≡ paste m p w → q ≡ p + length w → Laid l at (v ++ w) k q
laid_more l at v m p x w k q h e f =
    let a = x.place in
    let b = length-append v w in
    record {
      stored = e ∙ ap (λ (y : List ℕ). paste y p w) x.stored ∙ ap (λ (o : ℕ). paste (paste l at v) o w) a ∙ paste_paste l at v w (omega arith);
      place = omega arith;
      room = omega arith;
    }

-- ---- the counts

field_short : (n left : ℕ) → n < 1000 → length (field n left) ≤ 4
field_short n left h = let s = decimal_short n h in let t = length-append (decimal n) (ending left ∷ []) in omega arith

count_small : (ns : List ℕ) → All (λ n. n < 1000) ns → (i : ℕ) → i < length ns → get_or ns i 0 < 1000
count_small [] a i h = absurd (not-suc-le-zero h)
count_small (n ∷ ns) a zero h = a.0
count_small (n ∷ ns) a (suc i) h = count_small ns a.1 i (le_of_suc-le-suc h)

-- three digits each, and the byte after them
pub counts_short : (ns : List ℕ) → All (λ n. n < 1000) ns → length (line (map decimal ns)) ≤ 4 * length ns
counts_short [] a = omega arith
counts_short (n ∷ ns) a =
    let b = decimal_short n a.0 in
    let c = counts_short ns a.1 in
    let d = length-append (decimal n) (after (map decimal ns) ∷ line (map decimal ns)) in
    omega arith

-- a count before others on its line
count_line : (n : ℕ) (ns : List ℕ) → field n (length ns) ++ line (map decimal ns) ≡ line (map decimal (n ∷ ns))
count_line n ns = append_assoc (decimal n) (ending (length ns) ∷ []) (line (map decimal ns)) ∙ ap (λ (b : ℕ). decimal n ++ b ∷ line (map decimal ns)) (go ns)
  where
    go : (ns : List ℕ) → ending (length ns) ≡ after (map decimal ns)
    go [] = refl
    go (n ∷ ns) = refl

-- i counts of ns were laid
pub record CountsTurn (l₀ : List ℕ) (at : ℕ) (ns l : List ℕ) (i p : ℕ) : Type 0 where
  pub small : All (λ n. n < 1000) ns
  pub space : at + 4 * length ns ≤ length l₀
  pub text : List ℕ
  pub short : length text ≤ 4 * i
  pub laid : Laid l₀ at text l p
  pub same : text ++ line (map decimal (drop i ns)) ≡ line (map decimal ns)

module _ (l₀ : List ℕ) (at : ℕ) (ns l : List ℕ) (i p : ℕ) (x : CountsTurn l₀ at ns l i p) where
  pub counts_room : i < length ns → (get_or ns i 0 < 1000) × (p + 4 ≤ length l)
  counts_room h =
      let a = x.short in
      let b = x.space in
      let c = x.laid.place in
      let d = laid_long l₀ at x.text l p x.laid in
      (count_small ns x.small i h, omega arith)

  pub counts_turn : i < length ns → (m : List ℕ) (q : ℕ) → (q ≡ p + length (field (get_or ns i 0) (length ns - 1 - i))) × (m ≡ paste l p (field (get_or ns i 0) (length ns - 1 - i))) → CountsTurn l₀ at ns m (i + 1) q
  counts_turn h m q e =
      let n = get_or ns i 0 in
      let left = length ns - 1 - i in
      let rest = drop (i + 1) ns in
      let a = x.short in
      let b = x.space in
      let c = x.laid.place in
      let f = field_short n left (counts_room h).0 in
      let t = length-append x.text (field n left) in
      record {
        small = x.small;
        space = x.space;
        text = x.text ++ field n left;
        short = omega arith;
        laid = laid_more l₀ at x.text l p x.laid (field n left) m q (omega arith) e.1 e.0;
        same =
            append_assoc x.text (field n left) (line (map decimal rest))
            ∙ ap (λ (k : ℕ). x.text ++ (field n k ++ line (map decimal rest))) {x = left} {y = length rest} (simp length-drop (omega arith))
            ∙ ap (λ (y : List ℕ). x.text ++ y) (count_line n rest)
            ∙ ap (λ (j : ℕ). x.text ++ line (map decimal (n ∷ drop j ns))) (add-one i)
            ∙ ap (λ (y : List ℕ). x.text ++ line (map decimal y)) (sym (drop-cons ns i 0 h))
            ∙ x.same;
      }

-- ---- a refusal

module _ (l : List ℕ) (n p : ℕ) (m : List ℕ) (h : n < 1000) (k : 12 ≤ length l) (e : (p ≡ 0 + length (bytes "refused,")) × (m ≡ paste l 0 (bytes "refused,"))) where
  first : Laid l 0 (bytes "refused,") m p
  unfolding bytes
  first = record { stored = e.1; place = e.0; room = omega arith }

  refusal_room : p + 4 ≤ length m
  unfolding bytes
  refusal_room = let a = laid_long l 0 (bytes "refused,") m p first in let b = e.0 in omega arith

  pub refusal_done : (o : List ℕ) (q : ℕ) → (q ≡ p + length (field n 0)) × (o ≡ paste m p (field n 0)) → (q ≡ length (printed (refused n))) × (o ≡ paste l 0 (printed (refused n)))
  unfolding bytes printed
  refusal_done o q f =
      let s = field_short n 0 h in
      let a = laid_long l 0 (bytes "refused,") m p first in
      let b = refusal_room in
      let x = laid_more l 0 (bytes "refused,") m p first (field n 0) o q (omega arith) f.1 f.0 in
      let c = x.place in
      (omega arith, x.stored)

-- ---- the lines

line_long : (w : List ℕ) (q n : ℕ) → length (line (map pattern (gather w q n))) ≡ 9 * n
unfolding gather
line_long w q zero = refl
line_long w q (suc n) = go (get_or w q 0) (after (map pattern (gather w (q + 512) n))) (line (map pattern (gather w (q + 512) n))) (line_long w (q + 512) n)
  where
    go : (v b : ℕ) (t : List ℕ) → length t ≡ 9 * n → length (pattern v ++ b ∷ t) ≡ 9 * suc n
    go v b t e = length-append (pattern v) (b ∷ t) ∙ (let h = length-hex 8 v in omega arith)

-- lines of at most 8 values
lines_short : (w : List ℕ) (n i m : ℕ) → n ≤ 8 → length (value_lines (gathered w n i m)) ≤ 72 * m
unfolding gathered
lines_short w n i zero h = omega arith
lines_short w n i (suc m) h =
    let a = line_long w i n in
    let b = lines_short w n (suc i) m h in
    let c = length-append (line (map pattern (gather w i n))) (value_lines (gathered w n (suc i) m)) in
    omega arith

pub area_short : (w : List ℕ) (n m : ℕ) → n ≤ 8 → length (value_lines (columns m (area_series w n m))) ≤ 72 * m
area_short w n m h = let a = lines_short w n 0 m h in let b = ap (λ (l : List (List ℕ)). length (value_lines l)) (area_lines w n m) in omega arith

pub record LinesTurn (l₀ : List ℕ) (at n lines : ℕ) (work l : List ℕ) (i p : ℕ) : Type 0 where
  pub low : i ≤ lines
  pub most : n ≤ 8
  pub space : at + 72 * lines ≤ length l₀
  pub text : List ℕ
  pub short : length text ≤ 72 * i
  pub laid : Laid l₀ at text l p
  pub same : text ++ value_lines (gathered work n i (lines - i)) ≡ value_lines (gathered work n 0 lines)

module _ (l₀ : List ℕ) (at n lines : ℕ) (work l : List ℕ) (i p : ℕ) (x : LinesTurn l₀ at n lines work l i p) where
  pub lines_room : i < lines → p + 9 * n ≤ length l
  lines_room h =
      let a = x.short in
      let b = x.laid.place in
      let c = x.space in
      let d = x.most in
      let e = laid_long l₀ at x.text l p x.laid in
      omega arith

  pub lines_turn : i < lines → (m : List ℕ) (q : ℕ) → q ≡ p + 9 * n → m ≡ paste l p (line (map pattern (gather work i n))) → LinesTurn l₀ at n lines work m (i + 1) q
  unfolding gathered
  lines_turn h m q e f =
      let w = line (map pattern (gather work i n)) in
      let g = line_long work i n in
      let a = x.short in
      let d = x.most in
      let r = lines_room h in
      let u = laid_long l₀ at x.text l p x.laid in
      let t = length-append x.text w in
      record {
        low = omega arith;
        most = x.most;
        space = x.space;
        text = x.text ++ w;
        short = omega arith;
        laid = laid_more l₀ at x.text l p x.laid w m q (omega arith) f (omega arith);
        same =
            append_assoc x.text w (value_lines (gathered work n (i + 1) (lines - (i + 1))))
            ∙ ap (λ (j : ℕ). x.text ++ (w ++ value_lines (gathered work n j (lines - (i + 1))))) (add-one i)
            ∙ ap (λ (k : ℕ). x.text ++ value_lines (gathered work n i k)) {x = suc (lines - (i + 1))} {y = lines - i} (omega arith)
            ∙ x.same;
      }

  pub lines_done : lines ≤ i → (p ≡ at + length (value_lines (columns lines (area_series work n lines)))) × (l ≡ paste l₀ at (value_lines (columns lines (area_series work n lines))))
  unfolding gathered
  lines_done h =
      let b = x.low in
      let e : x.text ≡ value_lines (gathered work n 0 lines) = sym (append-nil x.text) ∙ ap (λ (k : ℕ). x.text ++ value_lines (gathered work n i k)) {x = 0} {y = lines - i} (omega arith) ∙ x.same in
      let f : x.text ≡ value_lines (columns lines (area_series work n lines)) = e ∙ ap value_lines (area_lines work n lines) in
      (x.laid.place ∙ ap (λ (y : List ℕ). at + length y) f, x.laid.stored ∙ ap (paste l₀ at) f)
