-- The pieces of the output, laid one after the other over what `out` held.
use Prim.Native.Nat.{ℕ, ◌+◌, ◌*◌, ◌≤◌}
use native.Mathlib.Nat.{zero-add}
use native.Mathlib.Omega.{arith}
use mathlib.Core.Path.{◌≡◌, ap, ◌∙◌}
use mathlib.Core.List.{List, ◌++◌, append_assoc}
use lib.ListN.{length}
use Rattle.form.specs.Form.{bytes, value_lines}
use Rattle.form.specs.Output.{columns, counts_heading}
use Rattle.text_in.specs.Places.{area_series}
use Rattle.text_out.specs.Places.{paste}
use Rattle.text_out.proofs.LaidLaws.{Laid, laid_more, laid_long, area_short}
use Rattle.listing.specs.Jobs.{pieces}

-- w was laid over l from p on, which gave m, and q is the place after it
abbrev Run : List ℕ → ℕ → List ℕ → List ℕ → ℕ → Type 0
Run l p w m q = (q ≡ p + length w) × (m ≡ paste l p w)

module _ (l names work : List ℕ) (n m : ℕ) (h : (n ≤ 8) × (m ≤ 512) × (length l ≡ 65536)) (few : length names ≤ 136) where
  abbrev values : List ℕ
  values = value_lines (columns m (area_series work n m))

  module _ (l₁ : List ℕ) (p : ℕ) (e₁ : Run l 0 names l₁ p) where
    names_laid : Laid l 0 names l₁ p
    names_laid = let a = h.2 in record { stored = e₁.1; place = e₁.0; room = omega arith }

    module _ (l₂ : List ℕ) (q : ℕ) (e₂ : Run l₁ p values l₂ q) where
      lines_laid : Laid l 0 (names ++ values) l₂ q
      lines_laid =
          let s = area_short work n m h.0 in
          let a = h.1 in
          let b = h.2 in
          let c = e₁.0 in
          laid_more l 0 names l₁ p names_laid values l₂ q (omega arith) e₂.1 e₂.0

      lines_place : q ≤ 136 + 72 * m
      lines_place = let s = area_short work n m h.0 in let c = e₁.0 in let d = e₂.0 in omega arith

      pub heading_room : q + length counts_heading ≤ length l₂
      unfolding bytes
      heading_room =
          let a = h.1 in
          let b = h.2 in
          let c = lines_place in
          let d = laid_long l 0 (names ++ values) l₂ q lines_laid in
          omega arith

      module _ (l₃ : List ℕ) (r : ℕ) (e₃ : Run l₂ q counts_heading l₃ r) where
        heading_laid : Laid l 0 ((names ++ values) ++ counts_heading) l₃ r
        heading_laid =
            let d = laid_long l 0 (names ++ values) l₂ q lines_laid in
            let g = heading_room in
            laid_more l 0 (names ++ values) l₂ q lines_laid counts_heading l₃ r (omega arith) e₃.1 e₃.0

        heading_place : r ≤ 180 + 72 * m
        unfolding bytes
        heading_place = let c = lines_place in let d = e₃.0 in omega arith

        module _ (counts : List ℕ) (short : length counts ≤ 192) where
          pub counts_room : r + length counts ≤ length l₃
          counts_room =
              let a = h.1 in
              let b = h.2 in
              let c = heading_place in
              let d = laid_long l 0 ((names ++ values) ++ counts_heading) l₃ r heading_laid in
              omega arith

          pub output_laid : (l₄ : List ℕ) (s : ℕ) → Run l₃ r counts l₄ s → (s ≡ length (pieces names work n m counts)) × (l₄ ≡ paste l 0 (pieces names work n m counts))
          output_laid l₄ s e₄ =
              let g = counts_room in
              let d = laid_long l 0 ((names ++ values) ++ counts_heading) l₃ r heading_laid in
              let x = laid_more l 0 ((names ++ values) ++ counts_heading) l₃ r heading_laid counts l₄ s (omega arith) e₄.1 e₄.0 in
              let e : ((names ++ values) ++ counts_heading) ++ counts ≡ pieces names work n m counts =
              append_assoc (names ++ values) counts_heading counts ∙ append_assoc names values (counts_heading ++ counts) in
              (x.place ∙ zero-add (length (((names ++ values) ++ counts_heading) ++ counts)) ∙ ap length e, x.stored ∙ ap (paste l 0) e)
