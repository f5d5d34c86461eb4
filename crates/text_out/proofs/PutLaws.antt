-- The loop that writes a line of patterns, over plain lists.
use Prim.Native.Nat.{ℕ, zero, suc, ◌+◌, ◌-◌, ◌*◌, ◌≤◌, ◌<◌}
use native.Mathlib.Omega.{arith}
use mathlib.Core.Path.{◌≡◌, refl, sym, ap, ◌∙◌}
use mathlib.Core.List.{List, [], ◌∷◌, ◌++◌, map, append_assoc, append-nil}
use lib.ListN.{length, take, drop, get_or, set, length-append}
use lib.Seq.{take_at, drop_at, drop-drop, length-take-le}
use Rattle.form.specs.Form.{line, after, pattern, hex_text}
use Rattle.form.specs.Parse.{ending}
use Rattle.text_out.specs.Places.{paste, gather}
use Rattle.fields_in.proofs.Walk.{length-hex}
use Rattle.text_out.proofs.Paste.{paste_back, length-paste}

-- a run after a run
pub paste_paste : (l : List ℕ) (a : ℕ) (v w : List ℕ) → a + length v + length w ≤ length l → paste (paste l a v) (a + length v) w ≡ paste l a (v ++ w)
paste_paste l a v w h =
    let front : length (take a l ++ v) ≡ a + length v = length-append (take a l) v ∙ ap (λ (n : ℕ). n + length v) (length-take-le a l (omega arith)) in
    let e : paste l a v ≡ (take a l ++ v) ++ drop (a + length v) l = sym (append_assoc (take a l) v (drop (a + length v) l)) in
    ap (λ (x : List ℕ). take (a + length v) x ++ (w ++ drop (a + length v + length w) x)) e
    ∙ ap (λ (x : List ℕ). x ++ (w ++ drop (a + length v + length w) ((take a l ++ v) ++ drop (a + length v) l))) (take_at (take a l ++ v) (drop (a + length v) l) (a + length v) front)
    ∙ ap (λ (x : List ℕ). (take a l ++ v) ++ (w ++ x)) (sym (drop-drop (length w) (a + length v) ((take a l ++ v) ++ drop (a + length v) l)) ∙ ap (drop (length w)) (drop_at (take a l ++ v) (drop (a + length v) l) (a + length v) front) ∙ drop-drop (length w) (a + length v) l)
    ∙ append_assoc (take a l) v (w ++ drop (a + length v + length w) l)
    ∙ ap (λ (x : List ℕ). take a l ++ x) (sym (append_assoc v w (drop (a + length v + length w) l)))
    ∙ ap (λ (n : ℕ). take a l ++ ((v ++ w) ++ drop n l)) {x = a + length v + length w} {y = a + length (v ++ w)} (let g = length-append v w in omega arith)

after_ending : (w : List ℕ) (q n : ℕ) → after (map pattern (gather w q n)) ≡ ending n
unfolding gather
after_ending w q zero = refl
after_ending w q (suc n) = refl

pub record LineTurn (l₀ : List ℕ) (at n i : ℕ) (work l : List ℕ) (j : ℕ) : Type 0 where
  pub low : j ≤ n
  pub long : length l ≡ length l₀
  pub text : List ℕ
  pub count : length text ≡ 9 * j
  pub stored : l ≡ paste l₀ at text
  pub same : text ++ line (map pattern (gather work (i + 512 * j) (n - j))) ≡ line (map pattern (gather work i n))

pub line_turn : (l₀ : List ℕ) (at n i : ℕ) (work l : List ℕ) (j : ℕ) → LineTurn l₀ at n i work l j → j < n → at + 9 * n ≤ length l₀ → (m : List ℕ) → m ≡ paste l (at + 9 * j) (hex_text 8 (get_or work (i + 512 * j) 0)) → (c : ℕ) → c ≡ ending (n - 1 - j)
    → LineTurn l₀ at n i work (set m (at + 9 * j + 8) c) (j + 1)
unfolding gather
line_turn l₀ at n i work l j x h k m e c f =
    let p = at + 9 * j in
    let q = i + 512 * j in
    let v = get_or work q 0 in
    let w = pattern v ++ (c ∷ []) in
    let lw : length w ≡ 9 = length-append (pattern v) (c ∷ []) ∙ ap (λ (o : ℕ). o + 1) (length-hex 8 v) in
    let d = x.count in
    let g = x.long in
    let t = length-hex 8 v in
    let one : set m (p + 8) c ≡ paste l p w = ap (λ (y : List ℕ). set y (p + 8) c) e ∙ ap (λ (o : ℕ). set (paste l p (pattern v)) o c) {x = p + 8} {y = p + length (pattern v)} (omega arith) ∙ paste_back l p (pattern v) c (omega arith) in
    record {
      low = omega arith;
      long = ap length one ∙ length-paste l p w (omega arith) ∙ x.long;
      text = x.text ++ w;
      count = length-append x.text w ∙ omega arith;
      stored = one ∙ ap (λ (y : List ℕ). paste y p w) x.stored ∙ ap (λ (o : ℕ). paste (paste l₀ at x.text) o w) {x = p} {y = at + length x.text} (omega arith) ∙ paste_paste l₀ at x.text w (omega arith);
      same =
          ap (λ (o : ℕ). (x.text ++ w) ++ line (map pattern (gather work o (n - (j + 1))))) {x = i + 512 * (j + 1)} {y = q + 512} (omega arith)
          ∙ append_assoc x.text w (line (map pattern (gather work (q + 512) (n - (j + 1)))))
          ∙ ap (λ (y : List ℕ). x.text ++ y) (append_assoc (pattern v) (c ∷ []) (line (map pattern (gather work (q + 512) (n - (j + 1)))))
          ∙ ap (λ (o : ℕ). pattern v ++ (o ∷ line (map pattern (gather work (q + 512) (n - (j + 1)))))) (f ∙ ap ending {x = n - 1 - j} {y = n - (j + 1)} (omega arith) ∙ sym (after_ending work (q + 512) (n - (j + 1))))
          ∙ ap (λ (o : ℕ). line (map pattern (gather work q o))) {x = suc (n - (j + 1))} {y = n - j} (omega arith))
          ∙ x.same;
    }

pub line_done : (l₀ : List ℕ) (at n i : ℕ) (work l : List ℕ) (j : ℕ) → LineTurn l₀ at n i work l j → n ≤ j → l ≡ paste l₀ at (line (map pattern (gather work i n)))
unfolding gather
line_done l₀ at n i work l j x h =
    let b = x.low in
    x.stored ∙ ap (paste l₀ at) (sym (append-nil x.text) ∙ ap (λ (o : ℕ). x.text ++ line (map pattern (gather work (i + 512 * j) o))) {x = 0} {y = n - j} (omega arith) ∙ x.same)
