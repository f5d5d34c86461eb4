-- The loop that reads lines of n patterns to the end of the text, over plain lists.
use Prim.Native.Nat.{ℕ, zero, suc, ◌+◌, ◌-◌, ◌≤◌, ◌<◌}
use native.Mathlib.Omega.{arith}
use mathlib.Core.Path.{◌≡◌, refl, sym, ap, ◌∙◌}
use mathlib.Core.List.{List, [], ◌∷◌, ◌++◌, append_assoc, append-nil}
use lib.ListN.{length, drop, set, length-append, length-set, drop_of_length-le}
use lib.Seq.{drop-cons}
use Rattle.form.specs.Parse.{Got, got, bad, then, read_row, read_rows, if_ended}
use Rattle.text_in.specs.Places.{spread, spread_all, RowAt, RowsAt}

spread_all_snoc : (w : List ℕ) (i : ℕ) (rs : List (List ℕ)) (r : List ℕ) → spread_all w i (rs ++ (r ∷ [])) ≡ spread (spread_all w i rs) (i + length rs) r
unfolding spread_all
spread_all_snoc w i [] r = ap (λ (k : ℕ). spread w k r) {x = i} {y = i + 0} (omega arith)
spread_all_snoc w i (x ∷ rs) r = spread_all_snoc (spread w i x) (suc i) rs r ∙ ap (λ (k : ℕ). spread (spread_all (spread w i x) (suc i) rs) k r) {x = suc i + length rs} {y = i + suc (length rs)} (omega arith)

pub length-spread : (w : List ℕ) (q : ℕ) (vs : List ℕ) → length (spread w q vs) ≡ length w
unfolding spread
length-spread w q [] = refl
length-spread w q (v ∷ vs) = length-spread (set w q v) (q + 512) vs ∙ length-set w q v

pub record RowsTurn (t : List ℕ) (at n : ℕ) (w₀ w : List ℕ) (i p : ℕ) : Type 0 where
  pub low : i ≤ 512
  pub within : p ≤ length t
  pub long : length w ≡ 4096
  pub few : n ≤ 8
  pub rows : List (List ℕ)
  pub count : length rows ≡ i
  pub stored : w ≡ spread_all w₀ 0 rows
  pub read : read_rows 512 n (drop at t) ≡ then (read_rows (512 - i) n (drop p t)) (λ us s. got (rows ++ us) s)

same_got : (g : Got (List (List ℕ))) → g ≡ then g (λ us s. got us s)
same_got (got a s) = refl
same_got bad = refl

pub rows_start : (t : List ℕ) (at n : ℕ) (w : List ℕ) → at ≤ length t → n ≤ 8 → length w ≡ 4096 → RowsTurn t at n w w 0 at
unfolding spread_all
rows_start t at n w h f l = record { low = omega arith; within = h; long = l; few = f; rows = []; count = refl; stored = refl; read = same_got (read_rows 512 n (drop at t)) }

joined : (rs : List (List ℕ)) (r : List ℕ) (g : Got (List (List ℕ))) → then (then g (λ us s. got (r ∷ us) s)) (λ us s. got (rs ++ us) s) ≡ then g (λ us s. got ((rs ++ (r ∷ [])) ++ us) s)
joined rs r (got us s) = ap (λ (l : List (List ℕ)). got l s) (sym (append_assoc rs (r ∷ []) us))
joined rs r bad = refl

not_ended : {A : Type 0} (t : List ℕ) (p : ℕ) (e g : A) → p < length t → if_ended (drop p t) e g ≡ g
not_ended t p e g h = ap (λ (l : List ℕ). if_ended l e g) (drop-cons t p 0 h)

module _ (t : List ℕ) (at n : ℕ) (w₀ w : List ℕ) (i p : ℕ) (x : RowsTurn t at n w₀ w i p) where
  pub rows_many : p < length t → 511 < i → read_rows 512 n (drop at t) ≡ bad
  unfolding read_rows
  rows_many h k =
      let l = x.low in
      x.read
      ∙ ap (λ (m : ℕ). then (read_rows m n (drop p t)) (λ us s. got (x.rows ++ us) s)) {x = 512 - i} {y = 0} (omega arith)
      ∙ ap (λ (g : Got (List (List ℕ))). then g (λ us s. got (x.rows ++ us) s)) (not_ended t p (got [] []) bad h)

  opened : p < length t → i < 512 → read_rows 512 n (drop at t) ≡ then (then (read_row n (drop p t)) (λ r s. then (read_rows (512 - (i + 1)) n s) (λ rs s. got (r ∷ rs) s))) (λ us s. got (x.rows ++ us) s)
  unfolding read_rows
  opened h k =
      x.read
      ∙ ap (λ (m : ℕ). then (read_rows m n (drop p t)) (λ us s. got (x.rows ++ us) s)) {x = 512 - i} {y = suc (512 - (i + 1))} (omega arith)
      ∙ ap (λ (g : Got (List (List ℕ))). then g (λ us s. got (x.rows ++ us) s)) (not_ended t p (got [] []) (then (read_row n (drop p t)) (λ r s. then (read_rows (512 - (i + 1)) n s) (λ rs s. got (r ∷ rs) s))) h)

  pub rows_bad : p < length t → i < 512 → read_row n (drop p t) ≡ bad → read_rows 512 n (drop at t) ≡ bad
  rows_bad h k e = opened h k ∙ ap (λ (g : Got (List ℕ)). then (then g (λ r s. then (read_rows (512 - (i + 1)) n s) (λ rs s. got (r ∷ rs) s))) (λ us s. got (x.rows ++ us) s)) e

  pub rows_turn : p < length t → i < 512 → (w' : List ℕ) (next : ℕ) → RowAt t p n i w w' next → RowsTurn t at n w₀ w' (i + 1) next
  rows_turn h k w' next r =
      let c = x.count in
      record {
        low = omega arith;
        within = r.within;
        long = ap length r.stored ∙ length-spread w i r.values ∙ x.long;
        few = x.few;
        rows = x.rows ++ (r.values ∷ []);
        count = length-append x.rows (r.values ∷ []) ∙ ap (λ (m : ℕ). m + 1) c;
        stored =
            r.stored
            ∙ ap (λ (l : List ℕ). spread l i r.values) x.stored
            ∙ ap (λ (m : ℕ). spread (spread_all w₀ 0 x.rows) m r.values) {x = i} {y = 0 + length x.rows} (omega arith)
            ∙ sym (spread_all_snoc w₀ 0 x.rows r.values);
        read =
            opened h k
            ∙ ap (λ (g : Got (List ℕ)). then (then g (λ r s. then (read_rows (512 - (i + 1)) n s) (λ rs s. got (r ∷ rs) s))) (λ us s. got (x.rows ++ us) s)) r.read
            ∙ joined x.rows r.values (read_rows (512 - (i + 1)) n (drop next t));
      }

  ended : (m : ℕ) → read_rows m n [] ≡ got [] []
  unfolding read_rows
  ended zero = refl
  ended (suc m) = refl

  pub rows_done : length t ≤ p → RowsAt t at n w₀ w i
  rows_done h = record {
    rows = x.rows;
    read =
        x.read
        ∙ ap (λ (l : List ℕ). then (read_rows (512 - i) n l) (λ us s. got (x.rows ++ us) s)) (drop_of_length-le t {i = p} h)
        ∙ ap (λ (g : Got (List (List ℕ))). then g (λ us s. got (x.rows ++ us) s)) (ended (512 - i))
        ∙ ap (λ (l : List (List ℕ)). got l []) (append-nil x.rows);
    count = x.count;
    stored = x.stored;
  }
