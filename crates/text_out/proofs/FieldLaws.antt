-- A number with the byte after it, over plain lists.
use Prim.Native.Nat.{ℕ, ◌+◌, ◌≤◌, ◌<◌}
use native.Mathlib.Omega.{arith}
use mathlib.Core.Path.{◌≡◌, refl, ap, ◌∙◌}
use mathlib.Core.Bool.{Bool, true, false}
use mathlib.Core.List.{List, [], ◌∷◌, ◌++◌}
use lib.Dec.{ltb}
use lib.ListN.{length, set, length-append}
use borrow.Author.Tests.{ltb-true, ltb-false}
use Rattle.form.specs.Parse.{ending}
use Rattle.form.specs.Output.{decimal}
use Rattle.text_out.specs.Places.{paste, field}
use Rattle.text_out.proofs.Paste.{paste_back, length-paste, decimal_1, decimal_2, decimal_3}

pub decimal_short : (n : ℕ) → n < 1000 → length (decimal n) ≤ 3
decimal_short n h = go (ltb n 10) refl (ltb n 100) refl
  where
    go : (a : Bool) → ltb n 10 ≡ a → (b : Bool) → ltb n 100 ≡ b → length (decimal n) ≤ 3
    go true e b f = let l = ap length (decimal_1 n (ltb-true n 10 e)) in omega arith
    go false e true f = let l = ap length (decimal_2 n (ltb-false n 10 e) (ltb-true n 100 f)) in omega arith
    go false e false f = let l = ap length (decimal_3 n (ltb-false n 100 f) h) in omega arith

module _ (l : List ℕ) (at n left p : ℕ) (m : List ℕ) (h : n < 1000) (k : at + 4 ≤ length l) (e : p ≡ at + length (decimal n)) (f : m ≡ paste l at (decimal n)) where
  pub field_room : (p < length m) × (p + 1 ≤ length l)
  field_room =
      let s = decimal_short n h in
      let g = ap length f ∙ length-paste l at (decimal n) (omega arith) in
      (omega arith, omega arith)

  pub field_done : (c : ℕ) → c ≡ ending left → (p + 1 ≡ at + length (field n left)) × (set m p c ≡ paste l at (field n left))
  field_done c g =
      let s = decimal_short n h in
      let t = length-append (decimal n) (ending left ∷ []) in (
        omega arith,
        ap (λ (y : List ℕ). set y p c) f
            ∙ ap (λ (o : ℕ). set (paste l at (decimal n)) o c) e
            ∙ paste_back l at (decimal n) c (omega arith)
            ∙ ap (λ (o : ℕ). paste l at (decimal n ++ (o ∷ []))) g,
      )
