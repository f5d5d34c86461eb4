-- An array cut into layers, each with something beside it (a width, or a stored layer): what is made of each layer, found again at its place in the whole; and the
-- loop over layers.
use mathlib.Core.Path.{◌≡◌, refl, sym, ap, ◌∙◌}
use mathlib.Core.List.{List, [], ◌∷◌, ◌++◌, map, zip_with, flatten, append_assoc, append-nil}
use Prim.Native.Nat.{ℕ, zero, suc, ◌+◌, ◌-◌, ◌*◌, ◌≤◌, ◌<◌}
use native.Mathlib.Nat.{not-suc-le-zero, le_of_suc-le-suc, zero-mul, suc-mul}
use native.Mathlib.Numerals.{add-one}
use native.Mathlib.Omega.{arith}
use lib.ListN.{length, get_or, take, drop, length-drop, length-append, get_or-append, drop_of_length-le}
use lib.Seq.{get_or-take, get_or-drop, length-take-le, get_or-append-add, drop-drop, drop-cons, take_all}
use Rattle.meaning.specs.Layers.{runs}

pub map_at : {A B : Type 0} (f : A → B) (d : A) (z : B) (l : List A) (i : ℕ) → i < length l → get_or (map f l) i z ≡ f (get_or l i d)
map_at f d z [] i h = absurd (not-suc-le-zero h)
map_at f d z (x ∷ l) zero h = refl
map_at f d z (x ∷ l) (suc i) h = map_at f d z l i (le_of_suc-le-suc h)

module _ (L : ℕ) where
  -- layer j of an array, which has room for it
  pub part_long : (j : ℕ) (xs : List ℕ) → j * L + L ≤ length xs → length (take L (drop (j * L) xs)) ≡ L
  part_long j xs h = length-take-le L (drop (j * L) xs) (simp length-drop (omega arith))

  pub part_at_lem : (j : ℕ) (xs : List ℕ) (i : ℕ) → i < L → get_or (take L (drop (j * L) xs)) i 0 ≡ get_or xs (j * L + i) 0
  part_at_lem j xs i h = get_or-take L (drop (j * L) xs) i 0 h ∙ get_or-drop (j * L) xs i 0

  -- a turn over n runs, i of which are done, up to a: there is room for one more, and what is left after it
  pub run_left : (a i n N : ℕ) → i < n → a + (n - i) * L ≡ N → (a + L + (n - (i + 1)) * L ≡ N) × (a + L ≤ N)
  run_left a i n N h e =
      let m = n - (i + 1) in
      let d : n - i ≡ suc m = omega arith in
      let p : (n - i) * L ≡ m * L + L = ap (λ (k : ℕ). k * L) d ∙ suc-mul m L in
      (omega arith, omega arith)

  -- layer j + 1 is layer j of what follows the first
  pub next : (j : ℕ) (ws : List ℕ) → take L (drop (j * L) (drop L ws)) ≡ take L (drop (suc j * L) ws)
  next j ws = ap (take L) (drop-drop (j * L) L ws ∙ ap (λ (k : ℕ). drop k ws) (let e : L + j * L ≡ suc j * L = omega arith in e))

  module _ {A : Type 0} (d : A) where
    -- one thing for each layer
    pub zip_at : {B : Type 0} (g : A → List ℕ → B) (z : B) (n j : ℕ) (bs : List A) (ws : List ℕ) → length bs ≡ n → j < n
        → get_or (zip_with g bs (runs L n ws)) j z ≡ g (get_or bs j d) (take L (drop (j * L) ws))
    unfolding runs zip_with
    zip_at g z zero j bs ws e h = absurd (not-suc-le-zero h)
    zip_at g z (suc n) j [] ws e h = absurd (omega arith)
    zip_at g z (suc n) zero (b ∷ bs) ws e h = rw zero-mul refl
    zip_at g z (suc n) (suc j) (b ∷ bs) ws e h = zip_at g z n j bs (drop L ws) (omega arith) (le_of_suc-le-suc h) ∙ ap (g (get_or bs j d)) (next j ws)

    pub zip_length : {B : Type 0} (g : A → List ℕ → B) (n : ℕ) (bs : List A) (ws : List ℕ) → length bs ≡ n → length (zip_with g bs (runs L n ws)) ≡ n
    unfolding runs zip_with
    zip_length g zero [] ws e = refl
    zip_length g zero (b ∷ bs) ws e = absurd (omega arith)
    zip_length g (suc n) [] ws e = absurd (omega arith)
    zip_length g (suc n) (b ∷ bs) ws e = ap suc (zip_length g n bs (drop L ws) (omega arith))

    -- as much for each layer as it has readings
    module _ (f : A → List ℕ → List ℕ) (same : (b : A) (l : List ℕ) → length (f b l) ≡ length l) where
      pub flat_at : (n j i : ℕ) (bs : List A) (ws : List ℕ) → length bs ≡ n → n * L ≤ length ws → j < n → i < L
          → get_or (flatten (zip_with f bs (runs L n ws))) (j * L + i) 0 ≡ get_or (f (get_or bs j d) (take L (drop (j * L) ws))) i 0
      unfolding runs zip_with flatten
      flat_at zero j i bs ws e h k l = absurd (not-suc-le-zero k)
      flat_at (suc n) j i [] ws e h k l = absurd (omega arith)
      flat_at (suc n) zero i (b ∷ bs) ws e h k l =
          let z : 0 * L + i ≡ i = omega arith in
          rw (z, zero-mul)
          (get_or-append (f b (take L ws)) (flatten (zip_with f bs (runs L n (drop L ws)))) 0 i (omega (arith, same b (take L ws), length-take-le L ws (omega arith))))
      flat_at (suc n) (suc j) i (b ∷ bs) ws e h k l =
          let z : suc j * L + i ≡ length (f b (take L ws)) + (j * L + i) = omega (arith, same b (take L ws), length-take-le L ws (omega arith)) in
          ap (λ (x : ℕ). get_or (flatten (zip_with f (b ∷ bs) (runs L (suc n) ws))) x 0) z
          ∙ get_or-append-add (f b (take L ws)) (flatten (zip_with f bs (runs L n (drop L ws)))) (j * L + i) 0
          ∙ flat_at n j i bs (drop L ws) (omega arith) (simp length-drop (omega arith)) (le_of_suc-le-suc k) l ∙ ap (λ (x : List ℕ). get_or (f (get_or bs j d) x) i 0) (next j ws)

      pub flat_length : (n : ℕ) (bs : List A) (ws : List ℕ) → length bs ≡ n → n * L ≤ length ws → length (flatten (zip_with f bs (runs L n ws))) ≡ n * L
      unfolding runs zip_with flatten
      flat_length zero [] ws e h = sym (zero-mul L)
      flat_length zero (b ∷ bs) ws e h = absurd (omega arith)
      flat_length (suc n) [] ws e h = absurd (omega arith)
      flat_length (suc n) (b ∷ bs) ws e h =
          rw (
            length-append (f b (take L ws)) (flatten (zip_with f bs (runs L n (drop L ws)))),
            flat_length n bs (drop L ws) (omega arith) (simp length-drop (omega arith)),
            same b (take L ws),
            length-take-le L ws (omega arith),
          )
          (omega arith)

    -- ---- the loop over layers

    -- the next run, with what stands beside it, and those after it
    pub zip_next : {B : Type 0} (f : A → List ℕ → B) (bs : List A) (xs : List ℕ) (a i m : ℕ) → i < length bs
        → zip_with f (drop i bs) (runs L (suc m) (drop a xs)) ≡ f (get_or bs i d) (take L (drop a xs)) ∷ zip_with f (drop (i + 1) bs) (runs L m (drop (a + L) xs))
    unfolding runs zip_with
    zip_next f bs xs a i m h =
        rw add-one
        (ap (λ t. zip_with f t (runs L (suc m) (drop a xs))) (drop-cons bs i d h)
        ∙ ap (λ t. f (get_or bs i d) (take L (drop a xs)) ∷ zip_with f (drop (suc i) bs) (runs L m t)) (drop-drop L a xs))

    -- m runs are left from a on, with what stands beside them from i on; what is written up to c, with what f makes of those, is what f makes of all
    abbrev pub Written : {B : Type 0} → (A → List ℕ → List B) → ℕ → List A → List ℕ → List B → ℕ → ℕ → ℕ → ℕ → Type 0
    Written f n bs xs ys a c i m = take c ys ++ flatten (zip_with f (drop i bs) (runs L m (drop a xs))) ≡ flatten (zip_with f bs (runs L n xs))

    -- one more run: zs has what f makes of it from c on, k long
    pub written_turn : {B : Type 0} (f : A → List ℕ → List B) (n : ℕ) (bs : List A) (xs : List ℕ) (ys zs : List B) (a c k i m : ℕ) → i < length bs
        → take (c + k) zs ≡ take c ys ++ f (get_or bs i d) (take L (drop a xs)) → Written f n bs xs ys a c i (suc m) → Written f n bs xs zs (a + L) (c + k) (i + 1) m
    unfolding flatten
    written_turn f n bs xs ys zs a c k i m h e inv =
        ap (λ t. t ++ flatten (zip_with f (drop (i + 1) bs) (runs L m (drop (a + L) xs)))) e
        ∙ append_assoc (take c ys) (f (get_or bs i d) (take L (drop a xs))) (flatten (zip_with f (drop (i + 1) bs) (runs L m (drop (a + L) xs))))
        ∙ sym (ap (λ t. take c ys ++ flatten t) (zip_next f bs xs a i m h)) ∙ inv

    pub written_end : {B : Type 0} (f : A → List ℕ → List B) (n : ℕ) (bs : List A) (xs : List ℕ) (ys : List B) (a c i : ℕ) → length ys ≤ c → length bs ≤ i
        → Written f n bs xs ys a c i 0 → ys ≡ flatten (zip_with f bs (runs L n xs))
    unfolding runs zip_with flatten
    written_end f n bs xs ys a c i h k inv =
        sym (take_all c ys h) ∙ sym (append-nil (take c ys)) ∙ sym (ap (λ t. take c ys ++ flatten (zip_with f t [])) (drop_of_length-le bs k)) ∙ inv
