-- Lines out of the work area: line i has value i of each series.
use Prim.Native.Nat.{ℕ, zero, suc, ◌+◌, ◌*◌, ◌≤◌, ◌<◌}
use native.Mathlib.Omega.{arith}
use mathlib.Core.Path.{◌≡◌, refl, sym, ap, ◌∙◌}
use mathlib.Core.List.{List, ◌∷◌, map}
use lib.ListN.{take, drop, get_or}
use lib.Seq.{get_or-take, get_or-drop}
use Rattle.form.specs.Output.{column, up_to, columns}
use Rattle.text_in.specs.Places.{area_series}
use Rattle.text_out.specs.Places.{gather, gathered}

line_at : (w : List ℕ) (m i j n : ℕ) → i < m → gather w (i + 512 * j) n ≡ map (λ r. get_or r i 0) (map (λ k. take m (drop (512 * k) w)) (up_to j n))
unfolding gather
line_at w m i j zero h = refl
line_at w m i j (suc n) h =
    ap (λ (v : ℕ). v ∷ gather w (i + 512 * j + 512) n)
    (ap (λ (q : ℕ). get_or w q 0) {x = i + 512 * j} {y = 512 * j + i} (omega arith) ∙ sym (get_or-take m (drop (512 * j) w) i 0 h ∙ get_or-drop (512 * j) w i 0))
    ∙ ap (λ (l : List ℕ). get_or (take m (drop (512 * j) w)) i 0 ∷ l) (ap (λ (q : ℕ). gather w q n) {x = i + 512 * j + 512} {y = i + 512 * suc j} (omega arith) ∙ line_at w m i (suc j) n h)

lines_from : (w : List ℕ) (n m i k : ℕ) → i + k ≤ m → gathered w n i k ≡ map (column (area_series w n m)) (up_to i k)
unfolding gathered
lines_from w n m i zero h = refl
lines_from w n m i (suc k) h =
    ap (λ (r : List ℕ). r ∷ gathered w n (suc i) k) (ap (λ (q : ℕ). gather w q n) {x = i} {y = i + 512 * 0} (omega arith) ∙ line_at w m i 0 n (omega arith))
    ∙ ap (λ (l : List (List ℕ)). column (area_series w n m) i ∷ l) (lines_from w n m (suc i) k (omega arith))

pub area_lines : (w : List ℕ) (n m : ℕ) → gathered w n 0 m ≡ columns m (area_series w n m)
unfolding columns
area_lines w n m = lines_from w n m 0 m (omega arith)
