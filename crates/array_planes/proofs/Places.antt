-- What is written to planes and read from them, for every number of bytes: part after part, the bytes of a reading in two halves, and all readings at once.
use mathlib.Core.Path.{◌≡◌, refl, sym, ap, ap₂, ◌∙◌}
use mathlib.Core.List.{List, [], ◌∷◌, ◌++◌, map, zip_with, append_assoc, append-nil}
use Prim.Native.Nat.{ℕ, zero, suc, ◌+◌, ◌-◌, ◌*◌, ◌/◌, ◌%◌, ◌^◌, ◌≤◌, ◌<◌}
use native.Mathlib.Nat.{pow-zero, pow-suc, mul-suc, suc-mul, mul_assoc, mul_comm, zero-mul, div-one, div-div-eq-div-mul}
use native.Mathlib.Omega.{arith}
use lib.Arith.{mod-mul}
use lib.Pow.{pow-add}
use lib.ListN.{length, take, drop, replicate, length-take, length-drop, length-map, length-replicate}
use lib.Seq.{take_all, take-add, drop-drop, length-take-le}
use Rattle.std.proofs.lemmas.List.{map-append}
use Rattle.meaning.specs.Planes.{planes, readings}
use Rattle.meaning.proofs.Planes.{zip_length}
use Rattle.parts.proofs.Back.{back, length_back, take_back, back_before, back_after, back_join, back_apart}
use Rattle.array_planes.specs.Places.{stored, fetched, Room}

-- ---- lists

map_as : (f g : ℕ → ℕ) → ((w : ℕ) → f w ≡ g w) → (ws : List ℕ) → map f ws ≡ map g ws
map_as f g e [] = refl
map_as f g e (w ∷ ws) = ap₂ (λ (x : ℕ) (l : List ℕ). x ∷ l) (e w) (map_as f g e ws)

-- numbers that are read as themselves
pub map_same : (ws : List ℕ) → map (λ w. w) ws ≡ ws
map_same [] = refl
map_same (w ∷ ws) = ap (λ (l : List ℕ). w ∷ l) (map_same ws)

map_map : {W : Type 0} (f : ℕ → ℕ) (g : W → ℕ) (ws : List W) → map f (map g ws) ≡ map (λ w. f (g w)) ws
map_map f g [] = refl
map_map f g (w ∷ ws) = ap (λ (l : List ℕ). f (g w) ∷ l) (map_map f g ws)

zip_maps : {H : Type 0} (f : ℕ → ℕ → ℕ) (u : H → ℕ) (xs ys : List H) → zip_with (λ x y. f (u x) (u y)) xs ys ≡ zip_with f (map u xs) (map u ys)
unfolding zip_with
zip_maps f u [] ys = refl
zip_maps f u (x ∷ xs) [] = refl
zip_maps f u (x ∷ xs) (y ∷ ys) = ap (λ (l : List ℕ). f (u x) (u y) ∷ l) (zip_maps f u xs ys)

zip_append : (f : ℕ → ℕ → ℕ) (us vs xs ys : List ℕ) → length us ≡ length xs → zip_with f (us ++ vs) (xs ++ ys) ≡ zip_with f us xs ++ zip_with f vs ys
unfolding zip_with
zip_append f [] vs [] ys e = refl
zip_append f [] vs (x ∷ xs) ys e = absurd (omega arith)
zip_append f (u ∷ us) vs [] ys e = absurd (omega arith)
zip_append f (u ∷ us) vs (x ∷ xs) ys e = ap (λ (l : List ℕ). f u x ∷ l) (zip_append f us vs xs ys (omega arith))

zeros_append : (j k : ℕ) → replicate {A = ℕ} (j + k) 0 ≡ replicate j 0 ++ replicate k 0
zeros_append zero k = ap (λ (n : ℕ). replicate {A = ℕ} n 0) {x = 0 + k} {y = k} (omega arith)
zeros_append (suc j) k = ap (λ (n : ℕ). replicate {A = ℕ} n 0) {x = suc j + k} {y = suc (j + k)} (omega arith) ∙ ap (λ (l : List ℕ). 0 ∷ l) (zeros_append j k)

-- ---- room for a reading's first byte, and for the others

module _ (B n a k m : ℕ) (h : Room (suc B) n a k m) where
  room_first : a + k ≤ m
  room_first = omega (arith, suc-mul B n)

  room_next : Room B n (n + a) k m
  room_next = omega (arith, suc-mul B n)

-- ---- what is written

pub stored_length : (B n a k : ℕ) (ws ps : List ℕ) → length ws ≡ k → Room B n a k (length ps) → length (stored B n a k ws ps) ≡ length ps
unfolding stored
stored_length zero n a k ws ps e h = refl
stored_length (suc B) n a k ws ps e h =
    let l = length_back ps a k (map (λ w. w % 256) ws) (length-map ws (λ (w : ℕ). w % 256) ∙ e) (room_first B n a k (length ps) h) in
    stored_length B n (n + a) k (map (λ w. w / 256) ws) (back ps a k (map (λ w. w % 256) ws)) (length-map ws (λ (w : ℕ). w / 256) ∙ e) (rw l (room_next B n a k (length ps) h)) ∙ l

-- a part before all of it may come back before it or after it
stored_back : (B n b k : ℕ) (ws ps : List ℕ) (a j : ℕ) (ys : List ℕ) → length ws ≡ k → length ys ≡ j → a + j ≤ b → Room B n b k (length ps)
    → stored B n b k ws (back ps a j ys) ≡ back (stored B n b k ws ps) a j ys
unfolding stored
stored_back zero n b k ws ps a j ys e f h r = refl
stored_back (suc B) n b k ws ps a j ys e f h r =
    let xs = map (λ (w : ℕ). w % 256) ws in
    let first = room_first B n b k (length ps) r in
    let l = length_back ps b k xs (length-map ws (λ (w : ℕ). w % 256) ∙ e) first in
    ap (stored B n (n + b) k (map (λ w. w / 256) ws)) (back_apart ps a j b k ys xs f h (omega arith))
    ∙ stored_back B n (n + b) k (map (λ w. w / 256) ws) (back ps b k xs) a j ys (length-map ws (λ (w : ℕ). w / 256) ∙ e) f (omega arith) (rw l (room_next B n b k (length ps) r))

-- readings that follow each other, at once or one part after the other
pub stored_append : (B n a j k : ℕ) (us vs ps : List ℕ) → length us ≡ j → length vs ≡ k → j + k ≤ n → Room B n a (j + k) (length ps)
    → stored B n a (j + k) (us ++ vs) ps ≡ stored B n (a + j) k vs (stored B n a j us ps)
unfolding stored
stored_append zero n a j k us vs ps e f h r = refl
stored_append (suc B) n a j k us vs ps e f h r =
    let low : ℕ → ℕ = λ w. w % 256 in
    let high : ℕ → ℕ = λ w. w / 256 in
    let first = room_first B n a (j + k) (length ps) r in
    let next = room_next B n a (j + k) (length ps) r in
    let lu : length (map low us) ≡ j = length-map us low ∙ e in
    let lv : length (map low vs) ≡ k = length-map vs low ∙ f in
    let hu : length (map high us) ≡ j = length-map us high ∙ e in
    let hv : length (map high vs) ≡ k = length-map vs high ∙ f in
    let p = back ps a j (map low us) in
    let pl : length p ≡ length ps = length_back ps a j (map low us) lu (omega arith) in
    let q = back p (a + j) k (map low vs) in
    let ql : length q ≡ length ps = length_back p (a + j) k (map low vs) lv (omega arith) ∙ pl in
    ap₂ (λ (hs xs : List ℕ). stored B n (n + a) (j + k) hs (back ps a (j + k) xs)) (map-append high us vs) (map-append low us vs)
    ∙ ap (stored B n (n + a) (j + k) (map high us ++ map high vs)) (back_join ps a j k (map low us) (map low vs) lu (omega arith))
    ∙ stored_append B n (n + a) j k (map high us) (map high vs) q hu hv h (rw ql next)
    ∙ ap (stored B n (n + a + j) k (map high vs)) (stored_back B n (n + a) j (map high us) p (a + j) k (map low vs) hu lv (omega arith) (rw pl (omega arith)))
    ∙ ap (λ (b : ℕ). stored B n b k (map high vs) (back (stored B n (n + a) j (map high us) p) (a + j) k (map low vs))) {x = n + a + j} {y = n + (a + j)} (omega arith)

-- as many readings as the planes are long: the planes themselves
pub stored_whole : (B n a : ℕ) (ws ps : List ℕ) → length ws ≡ n → length ps ≡ a + B * n → stored B n a n ws ps ≡ take a ps ++ planes B ws
unfolding stored planes
stored_whole zero n a ws ps e h = sym (append-nil (take a ps) ∙ take_all a ps (omega (arith, zero-mul n)))
stored_whole (suc B) n a ws ps e h =
    let xs = map (λ (w : ℕ). w % 256) ws in
    let xl : length xs ≡ n = length-map ws (λ (w : ℕ). w % 256) ∙ e in
    let first : a + n ≤ length ps = omega (arith, suc-mul B n) in
    let hs = map (λ (w : ℕ). w / 256) ws in
    stored_whole B n (n + a) hs (back ps a n xs) (length-map ws (λ (w : ℕ). w / 256) ∙ e) (length_back ps a n xs xl first ∙ (let z : length ps ≡ n + a + B * n = omega (arith, suc-mul B n) in z))
    ∙ ap (λ (l : List ℕ). l ++ planes B hs) (ap (λ (b : ℕ). take b (back ps a n xs)) {x = n + a} {y = a + n} (omega arith) ∙ take_back ps a n xs xl first)
    ∙ append_assoc (take a ps) xs (planes B hs)

-- the lowest A bytes first, then those above them
pub stored_add : (A B n a k : ℕ) (ws ps : List ℕ) → stored (A + B) n a k ws ps ≡ stored B n (A * n + a) k (map (λ w. w / 256 ^ A) ws) (stored A n a k ws ps)
unfolding stored
stored_add zero B n a k ws ps =
    let z : 0 * n + a ≡ a = omega (arith, zero-mul n) in
    rw (z, map_as (λ w. w / 256 ^ 0) (λ w. w) (λ w. div-one w) ws, map_same ws) (ap (λ (m : ℕ). stored m n a k ws ps) {x = 0 + B} {y = B} (omega arith))
stored_add (suc A) B n a k ws ps =
    let z : A * n + (n + a) ≡ suc A * n + a = omega (arith, suc-mul A n) in
    let hs = map (λ (w : ℕ). w / 256) ws in
    let qs = back ps a k (map (λ (w : ℕ). w % 256) ws) in
    ap (λ (m : ℕ). stored m n a k ws ps) {x = suc A + B} {y = suc (A + B)} (omega arith)
    ∙ stored_add A B n (n + a) k hs qs
    ∙ ap₂ (λ (b : ℕ) (l : List ℕ). stored B n b k l (stored A n (n + a) k hs qs)) z
    (map_map (λ w. w / 256 ^ A) (λ w. w / 256) ws ∙ map_as (λ w. w / 256 / 256 ^ A) (λ w. w / 256 ^ suc A) (λ w. further A w) ws)
  where
    further : (m w : ℕ) → w / 256 / 256 ^ m ≡ w / 256 ^ suc m
    further m w = div-div-eq-div-mul w 256 (256 ^ m) ∙ ap (λ (d : ℕ). w / d) (mul_comm 256 (256 ^ m) ∙ sym (pow-suc 256 m))

power_pos : (m : ℕ) → 0 < 256 ^ m
power_pos zero = omega (arith, pow-zero 256)
power_pos (suc m) = omega (arith, pow-suc 256 m, power_pos m)

split : (m w : ℕ) → w % 256 ^ suc m ≡ w / 256 % 256 ^ m * 256 + w % 256
split m w = ap (λ (d : ℕ). w % d) (pow-suc 256 m) ∙ mod-mul w {m = 256 ^ m} {c = 256} (power_pos m) (omega arith)

-- what stands above the bytes that are written plays no part
pub stored_mod : (B n a k : ℕ) (ws ps : List ℕ) → stored B n a k (map (λ w. w % 256 ^ B) ws) ps ≡ stored B n a k ws ps
unfolding stored
stored_mod zero n a k ws ps = refl
stored_mod (suc B) n a k ws ps =
    let low : map (λ (w : ℕ). w % 256) (map (λ (w : ℕ). w % 256 ^ suc B) ws) ≡ map (λ (w : ℕ). w % 256) ws = map_map (λ w. w % 256) (λ w. w % 256 ^ suc B) ws ∙ map_as (λ w. w % 256 ^ suc B % 256) (λ w. w % 256) (λ w. lower B w) ws in
    let high : map (λ (w : ℕ). w / 256) (map (λ (w : ℕ). w % 256 ^ suc B) ws) ≡ map (λ (w : ℕ). w % 256 ^ B) (map (λ (w : ℕ). w / 256) ws) = map_map (λ w. w / 256) (λ w. w % 256 ^ suc B) ws ∙ map_as (λ w. w % 256 ^ suc B / 256) (λ w. w / 256 % 256 ^ B) (λ w. higher B w) ws ∙ sym (map_map (λ w. w % 256 ^ B) (λ w. w / 256) ws) in
    rw (low, high) (stored_mod B n (n + a) k (map (λ w. w / 256) ws) (back ps a k (map (λ w. w % 256) ws)))
  where
    lower : (m w : ℕ) → w % 256 ^ suc m % 256 ≡ w % 256
    lower m w = omega (arith, split m w)

    higher : (m w : ℕ) → w % 256 ^ suc m / 256 ≡ w / 256 % 256 ^ m
    higher m w = omega (arith, split m w)

-- ---- what is read

pub fetched_length : (B n a k : ℕ) (ps : List ℕ) → Room B n a k (length ps) → length (fetched B n a k ps) ≡ k
unfolding fetched
fetched_length zero n a k ps h = length-replicate k 0
fetched_length (suc B) n a k ps h =
    let l : length (take k (drop a ps)) ≡ k = length-take-le k (drop a ps) (simp length-drop (omega (arith, room_first B n a k (length ps) h))) in
    zip_length (λ low above. low + 256 * above) (take k (drop a ps)) (fetched B n (n + a) k ps) (l ∙ sym (fetched_length B n (n + a) k ps (room_next B n a k (length ps) h))) ∙ l

-- readings that follow each other
pub fetched_append : (B n a j k : ℕ) (ps : List ℕ) → Room B n a (j + k) (length ps) → fetched B n a (j + k) ps ≡ fetched B n a j ps ++ fetched B n (a + j) k ps
unfolding fetched
fetched_append zero n a j k ps h = zeros_append j k
fetched_append (suc B) n a j k ps h =
    let first = room_first B n a (j + k) (length ps) h in
    let next = room_next B n a (j + k) (length ps) h in
    let f : ℕ → ℕ → ℕ = λ low above. low + 256 * above in
    let l : length (take j (drop a ps)) ≡ j = length-take-le j (drop a ps) (simp length-drop (omega arith)) in
    ap₂ (λ (xs ys : List ℕ). zip_with f xs ys) (take-add j k (drop a ps) ∙ ap (λ (t : List ℕ). take j (drop a ps) ++ take k t) (drop-drop j a ps)) (fetched_append B n (n + a) j k ps next)
    ∙ zip_append f (take j (drop a ps)) (take k (drop (a + j) ps)) (fetched B n (n + a) j ps) (fetched B n (n + a + j) k ps) (l ∙ sym (fetched_length B n (n + a) j ps (omega arith)))
    ∙ ap (λ (b : ℕ). zip_with f (take j (drop a ps)) (fetched B n (n + a) j ps) ++ zip_with f (take k (drop (a + j) ps)) (fetched B n b k ps)) {x = n + a + j} {y = n + (a + j)} (omega arith)

-- all of them
pub fetched_whole : (B n a : ℕ) (ps : List ℕ) → fetched B n a n ps ≡ readings B n (drop a ps)
unfolding fetched readings
fetched_whole zero n a ps = refl
fetched_whole (suc B) n a ps =
    ap (zip_with (λ low above. low + 256 * above) (take n (drop a ps)))
    (fetched_whole B n (n + a) ps ∙ ap (readings B n) (ap (λ (b : ℕ). drop b ps) {x = n + a} {y = a + n} (omega arith) ∙ sym (drop-drop n a ps)))

-- nothing below
none_below : (k : ℕ) (xs : List ℕ) → length xs ≡ k → zip_with (λ low high. low + 256 ^ 0 * high) (replicate k 0) xs ≡ xs
unfolding zip_with
none_below zero [] e = refl
none_below zero (x ∷ xs) e = absurd (omega arith)
none_below (suc k) [] e = absurd (omega arith)
none_below (suc k) (x ∷ xs) e = ap₂ (λ (y : ℕ) (l : List ℕ). y ∷ l) {x = 0 + 256 ^ 0 * x} {y = x} (omega arith) (none_below k xs (omega arith))

-- a byte below A bytes, and more above those
one_below : (A : ℕ) (xs ys zs : List ℕ) → zip_with (λ low above. low + 256 * above) xs (zip_with (λ low high. low + 256 ^ A * high) ys zs)
    ≡ zip_with (λ low high. low + 256 ^ suc A * high) (zip_with (λ low above. low + 256 * above) xs ys) zs
unfolding zip_with
one_below A [] ys zs = refl
one_below A (x ∷ xs) [] zs = refl
one_below A (x ∷ xs) (y ∷ ys) [] = refl
one_below A (x ∷ xs) (y ∷ ys) (z ∷ zs) =
    let p : 256 ^ suc A * z ≡ 256 * (256 ^ A * z) = ap (λ (n : ℕ). n * z) (pow-suc 256 A ∙ mul_comm (256 ^ A) 256) ∙ mul_assoc 256 (256 ^ A) z in
    ap₂ (λ (v : ℕ) (l : List ℕ). v ∷ l) {x = x + 256 * (y + 256 ^ A * z)} {y = x + 256 * y + 256 ^ suc A * z} (omega (arith, p)) (one_below A xs ys zs)

-- the lowest A bytes, and those above them
pub fetched_add : (A B n a k : ℕ) (ps : List ℕ) → Room (A + B) n a k (length ps)
    → fetched (A + B) n a k ps ≡ zip_with (λ low high. low + 256 ^ A * high) (fetched A n a k ps) (fetched B n (A * n + a) k ps)
unfolding fetched
fetched_add zero B n a k ps h =
    let z : 0 * n + a ≡ a = omega (arith, zero-mul n) in
    let b : 0 + B ≡ B = omega arith in
    rw (z, b) (sym (none_below k (fetched B n a k ps) (fetched_length B n a k ps (rw (← b) h))))
fetched_add (suc A) B n a k ps h =
    let b : suc A + B ≡ suc (A + B) = omega arith in
    let z : A * n + (n + a) ≡ suc A * n + a = omega (arith, suc-mul A n) in
    let xs = take k (drop a ps) in
    ap (λ (m : ℕ). fetched m n a k ps) b
    ∙ ap (zip_with (λ low above. low + 256 * above) xs) (fetched_add A B n (n + a) k ps (room_next (A + B) n a k (length ps) (rw (← b) h)))
    ∙ one_below A xs (fetched A n (n + a) k ps) (fetched B n (A * n + (n + a)) k ps)
    ∙ ap (λ (c : ℕ). zip_with (λ low high. low + 256 ^ suc A * high) (zip_with (λ low above. low + 256 * above) xs (fetched A n (n + a) k ps)) (fetched B n c k ps)) z

-- ---- what is read after something was written

-- before all of it
before_stored : (B n b k : ℕ) (ws ps : List ℕ) (m a : ℕ) → length ws ≡ k → a + m ≤ b → Room B n b k (length ps) → take m (drop a (stored B n b k ws ps)) ≡ take m (drop a ps)
unfolding stored
before_stored zero n b k ws ps m a e h r = refl
before_stored (suc B) n b k ws ps m a e h r =
    let xs = map (λ (w : ℕ). w % 256) ws in
    let xl : length xs ≡ k = length-map ws (λ (w : ℕ). w % 256) ∙ e in
    let first = room_first B n b k (length ps) r in
    before_stored B n (n + b) k (map (λ w. w / 256) ws) (back ps b k xs) m a (length-map ws (λ (w : ℕ). w / 256) ∙ e) (omega arith) (rw (length_back ps b k xs xl first) (room_next B n b k (length ps) r))
    ∙ back_before ps b k xs m a xl h first

after_back : (B n b k : ℕ) (ps : List ℕ) (a j : ℕ) (ys : List ℕ) → length ys ≡ j → a + j ≤ b → a + j ≤ length ps → fetched B n b k (back ps a j ys) ≡ fetched B n b k ps
unfolding fetched
after_back zero n b k ps a j ys e h l = refl
after_back (suc B) n b k ps a j ys e h l =
    ap₂ (λ (us vs : List ℕ). zip_with (λ low above. low + 256 * above) us vs) (back_after ps a j ys k b e h l) (after_back B n (n + b) k ps a j ys e (omega arith) l)

-- readings that follow those that were written, in the same planes
pub fetched_stored : (B n a j : ℕ) (us ps : List ℕ) (b k : ℕ) → length us ≡ j → a + j ≤ b → b + k ≤ n + a → Room B n a j (length ps) → fetched B n b k (stored B n a j us ps) ≡ fetched B n b k ps
unfolding fetched stored
fetched_stored zero n a j us ps b k e h l r = refl
fetched_stored (suc B) n a j us ps b k e h l r =
    let xs = map (λ (w : ℕ). w % 256) us in
    let xl : length xs ≡ j = length-map us (λ (w : ℕ). w % 256) ∙ e in
    let hs = map (λ (w : ℕ). w / 256) us in
    let hl : length hs ≡ j = length-map us (λ (w : ℕ). w / 256) ∙ e in
    let first = room_first B n a j (length ps) r in
    let next : Room B n (n + a) j (length (back ps a j xs)) = rw (length_back ps a j xs xl first) (room_next B n a j (length ps) r) in
    ap₂ (λ (us vs : List ℕ). zip_with (λ low above. low + 256 * above) us vs)
    (before_stored B n (n + a) j hs (back ps a j xs) k b hl l next ∙ back_after ps a j xs k b xl h first)
    (fetched_stored B n (n + a) j hs (back ps a j xs) (n + b) k hl (omega arith) (omega arith) next ∙ after_back B n (n + b) k ps a j xs xl (omega arith) first)

-- ---- by halves, as the code has them

module _ (B n a k : ℕ) (ws ps : List ℕ) where
  -- the low halves, and then the high ones
  pub stored_halves : stored B n (B * n + a) k (map (λ w. w / 256 ^ B % 256 ^ B) ws) (stored B n a k (map (λ w. w / 1 % 256 ^ B) ws) ps) ≡ stored (B + B) n a k ws ps
  stored_halves =
      let low : stored B n a k (map (λ w. w / 1 % 256 ^ B) ws) ps ≡ stored B n a k ws ps =
      ap (λ (l : List ℕ). stored B n a k l ps) (map_as (λ w. w / 1 % 256 ^ B) (λ w. w % 256 ^ B) (λ w. ap (λ (v : ℕ). v % 256 ^ B) (div-one w)) ws) ∙ stored_mod B n a k ws ps in
      ap (stored B n (B * n + a) k (map (λ w. w / 256 ^ B % 256 ^ B) ws)) low
      ∙ ap (λ (l : List ℕ). stored B n (B * n + a) k l (stored B n a k ws ps)) (sym (map_map (λ w. w % 256 ^ B) (λ w. w / 256 ^ B) ws))
      ∙ stored_mod B n (B * n + a) k (map (λ w. w / 256 ^ B) ws) (stored B n a k ws ps)
      ∙ sym (stored_add B B n a k ws ps)

-- a part's length, from its end and its start
part_long : (a k : ℕ) → a + k - a ≡ k
part_long a k = omega arith

part_far : (n a k : ℕ) → n + (a + k) - (n + a) ≡ k
part_far n a k = omega arith

-- two planes: the low byte of each pair, and then the high one
module _ (n a k : ℕ) (ws ps : List ℕ) where
  pub stored_pairs : {xs ys : List ℕ} → xs ≡ map (λ w. w / 1 % 256) ws → ys ≡ map (λ w. w / 256 % 256) ws
      → back (back ps a (a + k - a) xs) (n + a) (n + (a + k) - (n + a)) ys ≡ stored 2 n a k ws ps
  unfolding stored
  stored_pairs {xs} {ys} ex ey =
      let low : xs ≡ map (λ w. w % 256) ws = ex ∙ map_as (λ w. w / 1 % 256) (λ w. w % 256) (λ w. ap (λ (v : ℕ). v % 256) (div-one w)) ws in
      let high : ys ≡ map (λ w. w % 256) (map (λ w. w / 256) ws) = ey ∙ sym (map_map (λ w. w % 256) (λ w. w / 256) ws) in
      rw (part_long a k, part_far n a k, low, high) refl

none_above : (k : ℕ) (xs : List ℕ) → length xs ≤ k → zip_with (λ low above. low + 256 * above) xs (replicate k 0) ≡ xs
unfolding zip_with
none_above zero [] e = refl
none_above zero (x ∷ xs) e = absurd (omega arith)
none_above (suc k) [] e = refl
none_above (suc k) (x ∷ xs) e = ap₂ (λ (y : ℕ) (l : List ℕ). y ∷ l) {x = x + 256 * 0} {y = x} (omega arith) (none_above k xs (omega arith))

pub fetched_pairs : (n a k : ℕ) (ps : List ℕ) → zip_with (λ low high. low + 256 * high) (take (a + k - a) (drop a ps)) (take (n + (a + k) - (n + a)) (drop (n + a) ps)) ≡ fetched 2 n a k ps
unfolding fetched
fetched_pairs n a k ps =
    let above = take k (drop (n + a) ps) in
    rw (part_long a k, part_far n a k) (sym (ap (zip_with (λ low high. low + 256 * high) (take k (drop a ps))) (none_above k above (simp length-take (omega arith)))))

pub front_long : {A : Type 0} (z : List A) (k : ℕ) → k ≤ length z → length (take (k - 0) (drop 0 z)) ≡ k
front_long z k h = simp length-take (omega arith)

-- a byte has eight bits
bits_of : (m : ℕ) → 2 ^ (8 * m) ≡ 256 ^ m
bits_of zero = refl
bits_of (suc m) = ap (λ (n : ℕ). 2 ^ n) (mul-suc 8 m) ∙ pow-add 2 (8 * m) 8 ∙ ap (λ (x : ℕ). x * 256) (bits_of m) ∙ sym (pow-suc 256 m)

-- a block ws of numbers that v reads, by its halves, which u reads; the high ones begin at the byte m
module _ {W H : Type 0} (v : W → ℕ) (u : H → ℕ) (B n a : ℕ) (ps : List ℕ) (m : ℕ) (em : m ≡ B) where
  -- written: the low halves xs, then the high ones ys
  pub stored_block : (ws : List W) (xs ys : List H) {qs rs : List ℕ} → map u xs ≡ map (λ w. v w / 1 % 256 ^ B) ws → qs ≡ stored B n a (length xs) (map u xs) ps
      → map u ys ≡ map (λ w. v w / 2 ^ (8 * m) % 256 ^ B) ws → rs ≡ stored B n (m * n + a) (length ys) (map u ys) qs → rs ≡ stored (B + B) n a (length ws) (map v ws) ps
  stored_block ws xs ys {qs} {rs} ex eq ey er =
      let k = length ws in
      let xl : length xs ≡ k = sym (length-map xs u) ∙ ap length ex ∙ length-map ws (λ (w : W). v w / 1 % 256 ^ B) in
      let yl : length ys ≡ k = sym (length-map ys u) ∙ ap length ey ∙ length-map ws (λ (w : W). v w / 2 ^ (8 * m) % 256 ^ B) in
      er
      ∙ ap₂ (λ (j : ℕ) (l : List ℕ). stored B n (m * n + a) j l qs) yl (ey ∙ ap (λ (d : ℕ). map (λ w. v w / d % 256 ^ B) ws) (bits_of m) ∙ sym (map_map (λ w. w / 256 ^ m % 256 ^ B) v ws))
      ∙ ap (stored B n (m * n + a) k (map (λ w. w / 256 ^ m % 256 ^ B) (map v ws))) (eq ∙ ap₂ (λ (j : ℕ) (l : List ℕ). stored B n a j l ps) xl (ex ∙ sym (map_map (λ w. w / 1 % 256 ^ B) v ws)))
      ∙ ap (λ (j : ℕ). stored B n (j * n + a) k (map (λ w. w / 256 ^ j % 256 ^ B) (map v ws)) (stored B n a k (map (λ w. w / 1 % 256 ^ B) (map v ws)) ps)) em
      ∙ stored_halves B n a k (map v ws) ps

  -- read: the low halves xs and the high ones ys
  pub fetched_block : (k : ℕ) (xs ys : List H) → k ≡ length xs → k ≡ length ys → Room (B + B) n a k (length ps) → (us vs : List H) → map u us ≡ fetched B n a (length xs) ps
      → map u vs ≡ fetched B n (m * n + a) (length ys) ps → zip_with (λ l h. u l + 256 ^ B * u h) us vs ≡ fetched (B + B) n a k ps
  fetched_block k xs ys xl yl r us vs eu ev =
      zip_maps (λ l h. l + 256 ^ B * h) u us vs
      ∙ ap₂ (λ (s t : List ℕ). zip_with (λ low high. low + 256 ^ B * high) s t) (eu ∙ ap (λ (j : ℕ). fetched B n a j ps) (sym xl)) (ev ∙ ap₂ (λ (i j : ℕ). fetched B n (i * n + a) j ps) em (sym yl))
      ∙ sym (fetched_add B B n a k ps r)
