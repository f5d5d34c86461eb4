-- The work area after all lines are read: its part from 512 * j on is column j of the lines.
use Prim.Native.Nat.{ℕ, zero, suc, ◌+◌, ◌*◌, ◌≤◌, ◌<◌}
use native.Mathlib.Omega.{arith}
use native.Mathlib.Nat.{not-suc-le-zero}
use mathlib.Core.Path.{◌≡◌, refl, sym, ap, ◌∙◌}
use mathlib.Core.List.{List, [], ◌∷◌, map}
use lib.ListN.{length, take, drop, get_or, set, length-set, length-take, length-drop, length-map, get_or-map}
use lib.Seq.{get_or-set_same, get_or-set_other, get_or-take, get_or-drop, ext_get_or}
use Rattle.form.specs.Form.{All}
use Rattle.form.specs.Output.{column, up_to, columns}
use Rattle.form.proofs.Reading.{RowsOf}
use Rattle.text_in.specs.Places.{spread, spread_all, area_series}
use Rattle.text_in.proofs.LineLaws.{length-spread}

spread_other : (w : List ℕ) (q : ℕ) (vs : List ℕ) (p : ℕ) → ((k : ℕ) → p ≡ q + 512 * k → ⊥) → get_or (spread w q vs) p 0 ≡ get_or w p 0
unfolding spread
spread_other w q [] p h = refl
spread_other w q (v ∷ vs) p h = spread_other (set w q v) (q + 512) vs p (λ k e. h (suc k) (omega arith)) ∙ get_or-set_other w q p v 0 (λ e. h 0 (omega arith))

spread_at : (w : List ℕ) (q : ℕ) (vs : List ℕ) (j : ℕ) → j < length vs → q + 512 * j < length w → get_or (spread w q vs) (q + 512 * j) 0 ≡ get_or vs j 0
unfolding spread
spread_at w q [] j h k = absurd (not-suc-le-zero h)
spread_at w q (v ∷ vs) zero h k =
    ap (λ (p : ℕ). get_or (spread (set w q v) (q + 512) vs) p 0) {x = q + 512 * 0} {y = q} (omega arith)
    ∙ spread_other (set w q v) (q + 512) vs q (λ i e. omega arith)
    ∙ get_or-set_same w q v 0 (omega arith)
spread_at w q (v ∷ vs) (suc j) h k =
    let l = length-set w q v in
    ap (λ (p : ℕ). get_or (spread (set w q v) (q + 512) vs) p 0) {x = q + 512 * suc j} {y = q + 512 + 512 * j} (omega arith)
    ∙ spread_at (set w q v) (q + 512) vs j (omega arith) (omega arith)

-- places of other lines are left alone
all_other : (w : List ℕ) (i : ℕ) (rs : List (List ℕ)) (a j : ℕ) → a < i → i + length rs ≤ 512 → get_or (spread_all w i rs) (a + 512 * j) 0 ≡ get_or w (a + 512 * j) 0
unfolding spread_all
all_other w i [] a j h k = refl
all_other w i (r ∷ rs) a j h k =
    all_other (spread w i r) (suc i) rs a j (omega arith) (omega arith)
    ∙ spread_other w i r (a + 512 * j) (λ m e. omega arith)

all_at : (w : List ℕ) (i n : ℕ) (rs : List (List ℕ)) (b j : ℕ) → All (λ r. length r ≡ n) rs → b < length rs → j < n → i + length rs ≤ 512 → 512 * n ≤ length w
    → get_or (spread_all w i rs) (i + b + 512 * j) 0 ≡ get_or (get_or rs b []) j 0
unfolding spread_all
all_at w i n [] b j e h k m l = absurd (not-suc-le-zero h)
all_at w i n (r ∷ rs) zero j e h k m l =
    let c = e.0 in
    ap (λ (p : ℕ). get_or (spread_all (spread w i r) (suc i) rs) p 0) {x = i + 0 + 512 * j} {y = i + 512 * j} (omega arith)
    ∙ all_other (spread w i r) (suc i) rs i j (omega arith) (omega arith)
    ∙ spread_at w i r j (omega arith) (omega arith)
all_at w i n (r ∷ rs) (suc b) j e h k m l =
    let d = length-spread w i r in
    ap (λ (p : ℕ). get_or (spread_all (spread w i r) (suc i) rs) p 0) {x = i + suc b + 512 * j} {y = suc i + b + 512 * j} (omega arith)
    ∙ all_at (spread w i r) (suc i) n rs b j e.1 (omega arith) k (omega arith) (omega arith)

length-all : (w : List ℕ) (i : ℕ) (rs : List (List ℕ)) → length (spread_all w i rs) ≡ length w
unfolding spread_all
length-all w i [] = refl
length-all w i (r ∷ rs) = length-all (spread w i r) (suc i) rs ∙ length-spread w i r

series_at : (w : List ℕ) (n : ℕ) (rs : List (List ℕ)) (j : ℕ) → All (λ r. length r ≡ n) rs → j < n → n ≤ 8 → length rs ≤ 512 → length w ≡ 4096
    → take (length rs) (drop (512 * j) (spread_all w 0 rs)) ≡ column rs j
series_at w n rs j e h k m l =
    let x = spread_all w 0 rs in
    let a = length-all w 0 rs in
    let b = length-drop (512 * j) x in
    let c = length-take (length rs) (drop (512 * j) x) in
    let t : length (take (length rs) (drop (512 * j) x)) ≡ length rs = omega arith in
    ext_get_or 0 (take (length rs) (drop (512 * j) x)) (column rs j) (t ∙ sym (length-map rs (λ r. get_or r j 0)))
    (λ i g.
    let u : i < length rs = omega arith in
    get_or-take (length rs) (drop (512 * j) x) i 0 u
    ∙ get_or-drop (512 * j) x i 0
    ∙ ap (λ (p : ℕ). get_or x p 0) {x = 512 * j + i} {y = 0 + i + 512 * j} (omega arith)
    ∙ all_at w 0 n rs i j e u h (omega arith) (omega arith)
    ∙ sym (get_or-map (λ r. get_or r j 0) rs i []))

map_up : (f g : ℕ → List ℕ) (i k n : ℕ) → i + k ≤ n → ((j : ℕ) → j < n → f j ≡ g j) → map f (up_to i k) ≡ map g (up_to i k)
map_up f g i zero n h e = refl
map_up f g i (suc k) n h e = ap (λ (x : List ℕ). x ∷ map f (up_to (suc i) k)) (e i (omega arith)) ∙ ap (λ (l : List (List ℕ)). g i ∷ l) (map_up f g (suc i) k n (omega arith) e)

lengths : (n : ℕ) (rs : List (List ℕ)) → RowsOf n rs → All (λ r. length r ≡ n) rs
lengths n [] e = tt
lengths n (r ∷ rs) e = (e.0.0, lengths n rs e.1)

pub area_series_lem : (w : List ℕ) (n : ℕ) (rs : List (List ℕ)) → RowsOf n rs → n ≤ 8 → length rs ≤ 512 → length w ≡ 4096 → area_series (spread_all w 0 rs) n (length rs) ≡ columns n rs
unfolding columns
area_series_lem w n rs e k m l = map_up (λ j. take (length rs) (drop (512 * j) (spread_all w 0 rs))) (column rs) 0 n n (omega arith) (λ j h. series_at w n rs j (lengths n rs e) h k m l)
