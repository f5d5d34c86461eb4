-- The loop that reads a line of n patterns, over plain lists.
use Prim.Native.Nat.{ℕ, suc, ◌+◌, ◌-◌, ◌*◌, ◌≤◌, ◌<◌}
use native.Mathlib.Omega.{arith}
use native.Mathlib.Nat.{sub-zero}
use mathlib.Core.Path.{◌≡◌, refl, sym, ap, ◌∙◌}
use mathlib.Core.List.{List, [], ◌∷◌, ◌++◌, append_assoc, append-nil}
use lib.ListN.{length, drop, set, length-append, length-drop, length-set}
use Rattle.form.specs.Parse.{Got, got, bad, then, read_pattern, skip, ending, read_row}
use Rattle.std.proofs.Common.{Some, None}
use Rattle.text_in.specs.Places.{spread, RowAt, EndingRead}
use Rattle.form.proofs.Reading.{skip_sound}

-- what was read stood there
pub byte_within : (t : List ℕ) (p n : ℕ) (u : Unit {0}) (r : List ℕ) → skip (n ∷ []) (drop p t) ≡ got u r → p < length t
byte_within t p n u r e =
    let a = ap length (skip_sound (n ∷ []) (drop p t) u r e) in
    let d = length-drop p t in
    omega arith

spread_snoc : (w : List ℕ) (q : ℕ) (vs : List ℕ) (v : ℕ) → spread w q (vs ++ (v ∷ [])) ≡ set (spread w q vs) (q + 512 * length vs) v
unfolding spread
spread_snoc w q [] v = ap (λ (k : ℕ). set w k v) {x = q} {y = q + 512 * 0} (omega arith)
spread_snoc w q (x ∷ vs) v = spread_snoc (set w q x) (q + 512) vs v ∙ ap (λ (k : ℕ). set (spread (set w q x) (q + 512) vs) k v) {x = q + 512 + 512 * length vs} {y = q + 512 * suc (length vs)} (omega arith)

pub record RowTurn (t : List ℕ) (at n row : ℕ) (w₀ w : List ℕ) (j p : ℕ) : Type 0 where
  pub low : j ≤ n
  pub few : n ≤ 8
  pub start : row < 512
  pub within : p ≤ length t
  pub long : length w ≡ 4096
  pub values : List ℕ
  pub count : length values ≡ j
  pub stored : w ≡ spread w₀ row values
  pub read : read_row n (drop at t) ≡ then (read_row (n - j) (drop p t)) (λ us s. got (values ++ us) s)

same_got : (g : Got (List ℕ)) → g ≡ then g (λ us s. got us s)
same_got (got a s) = refl
same_got bad = refl

pub row_start : (t : List ℕ) (at n row : ℕ) (w : List ℕ) → at ≤ length t → n ≤ 8 → row < 512 → length w ≡ 4096 → RowTurn t at n row w w 0 at
unfolding spread
row_start t at n row w h k r l = record { low = omega arith; few = k; start = r; within = h; long = l; values = []; count = refl; stored = refl; read = same_got (read_row n (drop at t)) ∙ ap (λ (m : ℕ). then (read_row m (drop at t)) (λ us s. got us s)) (sym (sub-zero n)) }

joined : (vs : List ℕ) (v : ℕ) (g : Got (List ℕ)) → then (then g (λ us s. got (v ∷ us) s)) (λ us s. got (vs ++ us) s) ≡ then g (λ us s. got ((vs ++ (v ∷ [])) ++ us) s)
joined vs v (got us s) = ap (λ (l : List ℕ). got l s) (sym (append_assoc vs (v ∷ []) us))
joined vs v bad = refl

module _ (t : List ℕ) (at n row : ℕ) (w₀ w : List ℕ) (j p : ℕ) (i : RowTurn t at n row w₀ w j p) (h : j < n) where
  opened : read_row n (drop at t) ≡ then (then (read_pattern (drop p t)) (λ v s. then (skip (ending (n - 1 - j) ∷ []) s) (λ e s. then (read_row (n - 1 - j) s) (λ vs s. got (v ∷ vs) s)))) (λ us s. got (i.values ++ us) s)
  unfolding read_row
  opened = i.read ∙ ap (λ (m : ℕ). then (read_row m (drop p t)) (λ us s. got (i.values ++ us) s)) {x = n - j} {y = suc (n - 1 - j)} (omega arith)

  pub row_bad : read_pattern (drop p t) ≡ bad → read_row n (drop at t) ≡ bad
  row_bad e = opened ∙ ap (λ (g : Got ℕ). then (then g (λ v s. then (skip (ending (n - 1 - j) ∷ []) s) (λ e s. then (read_row (n - 1 - j) s) (λ vs s. got (v ∷ vs) s)))) (λ us s. got (i.values ++ us) s)) e

  after_pattern : (v : ℕ) → read_pattern (drop p t) ≡ got v (drop (p + 8) t) → read_row n (drop at t) ≡ then (then (skip (ending (n - 1 - j) ∷ []) (drop (p + 8) t)) (λ e s. then (read_row (n - 1 - j) s) (λ vs s. got (v ∷ vs) s))) (λ us s. got (i.values ++ us) s)
  after_pattern v e = opened ∙ ap (λ (g : Got ℕ). then (then g (λ v s. then (skip (ending (n - 1 - j) ∷ []) s) (λ e s. then (read_row (n - 1 - j) s) (λ vs s. got (v ∷ vs) s)))) (λ us s. got (i.values ++ us) s)) e

  pub row_unended : (v : ℕ) → read_pattern (drop p t) ≡ got v (drop (p + 8) t) → EndingRead t (p + 8) (n - 1 - j) None → read_row n (drop at t) ≡ bad
  row_unended v e f = after_pattern v e ∙ ap (λ (g : Got (Unit {0})). then (then g (λ e s. then (read_row (n - 1 - j) s) (λ vs s. got (v ∷ vs) s))) (λ us s. got (i.values ++ us) s)) f

  pub row_turn : (v : ℕ) → read_pattern (drop p t) ≡ got v (drop (p + 8) t) → (next : ℕ) → EndingRead t (p + 8) (n - 1 - j) (Some next) → RowTurn t at n row w₀ (set w (row + 512 * j) v) (j + 1) next
  row_turn v e next f =
      let c = i.count in
      record {
        low = omega arith;
        few = i.few;
        start = i.start;
        within = f.1;
        long = length-set w (row + 512 * j) v ∙ i.long;
        values = i.values ++ (v ∷ []);
        count = length-append i.values (v ∷ []) ∙ ap (λ (k : ℕ). k + 1) c;
        stored = ap (λ (l : List ℕ). set l (row + 512 * j) v) i.stored ∙ ap (λ (k : ℕ). set (spread w₀ row i.values) (row + 512 * k) v) (sym c) ∙ sym (spread_snoc w₀ row i.values v);
        read =
            after_pattern v e
            ∙ ap (λ (g : Got (Unit {0})). then (then g (λ e s. then (read_row (n - 1 - j) s) (λ vs s. got (v ∷ vs) s))) (λ us s. got (i.values ++ us) s)) f.0
            ∙ joined i.values v (read_row (n - 1 - j) (drop next t))
            ∙ ap (λ (m : ℕ). then (read_row m (drop next t)) (λ us s. got ((i.values ++ (v ∷ [])) ++ us) s)) {x = n - 1 - j} {y = n - (j + 1)} (omega arith);
      }

pub row_done : (t : List ℕ) (at n row : ℕ) (w₀ w : List ℕ) (j p : ℕ) → RowTurn t at n row w₀ w j p → n ≤ j → RowAt t at n row w₀ w p
unfolding read_row
row_done t at n row w₀ w j p i h =
    let l = i.low in
    record {
      values = i.values;
      read = i.read ∙ ap (λ (m : ℕ). then (read_row m (drop p t)) (λ us s. got (i.values ++ us) s)) {x = n - j} {y = 0} (omega arith) ∙ ap (λ (x : List ℕ). got x (drop p t)) (append-nil i.values);
      stored = i.stored;
      within = i.within;
    }
