-- The methods on machine words: what the functions compute is what the definitions say, for every width.
use mathlib.Core.Path.{◌≡◌, refl, sym, ap, ap₂, ◌∙◌, subst}
use mathlib.Core.Logic.{◌≢◌}
use mathlib.Core.Bool.{Bool, true, false, cond, not, ◌&&◌}
use Prim.Native.Nat.{ℕ, zero, suc, ◌+◌, ◌-◌, ◌*◌, ◌/◌, ◌%◌, ◌^◌, ◌≤◌, ◌<◌}
use native.Mathlib.Nat.{le_refl, div-add-mod', div-lt_iff_lt-mul, mul-le-mul_right, mul_assoc, add-mul, mul-add-div_right}
use native.Mathlib.Decide.{dec_lt, ℕ_discrete}
use native.Mathlib.Omega.{arith}
use borrow.Author.Tests.{eq-eqb, ne_eqb, lt-ltb, le-ltb, lt-leb, le-leb}
use lib.Dec.{ltb, leb, eqb}
use lib.Pow.{pow_pos}
use Rattle.meaning.specs.Readings.{sign, magnitude, pattern, infinity, finite, missing, present}
use Rattle.meaning.specs.Methods.{Method, digits, halfshaved, round, shaved, rounded, clips, new_magnitude, trimmable}
use Rattle.meaning.proofs.Powers.{pow_split}
use Rattle.meaning.proofs.Nearest.{nearest_add}
use Rattle.reading.specs.Left.{unless_missing, left_from, wanted, wanted_by, over, takes}

-- a tail of t bits fits above the cut
pub floor_room : (w t m add : ℕ) → t ≤ w → m < 2 ^ w → add < 2 ^ t → m / 2 ^ t * 2 ^ t + add < 2 ^ w
floor_room w t m add h l a =
    let K : 2 ^ w ≡ 2 ^ (w - t) * 2 ^ t = pow_split w t h in
    let q : m / 2 ^ t < 2 ^ (w - t) = (div-lt_iff_lt-mul {k = 2 ^ t} {x = m} {y = 2 ^ (w - t)} (pow_pos t)).1 (omega (arith, K)) in
    omega (arith, K, mul-le-mul_right (2 ^ t) q)

-- method 4 by one sum and one cut
pub rounded_sum : (t m H G r : ℕ) → 0 < t → H ≡ 2 ^ (t - 1) → G ≡ 2 ^ t → r ≡ (m + (H - 1) + m / G % 2) / G * G → r ≡ rounded t m
unfolding rounded
rounded_sum zero m H G r p h g e = absurd (omega arith)
rounded_sum (suc t) m H G r p h g e =
    let z : suc t - 1 ≡ t = omega arith in
    let h' : H ≡ 2 ^ t = h ∙ ap (λ (x : ℕ). 2 ^ x) z in
    let d : 2 ^ suc t ≡ 2 * H = rw h' (omega arith) in
    let d' : G ≡ 2 * H = g ∙ d in
    e ∙ rw (d', d) (ap (λ (x : ℕ). x * (2 * H)) (sym (nearest_add m H (omega (arith, pow_pos t)))))

pub cond_lt : (b : Bool) (x y n : ℕ) → x < n → y < n → cond b x y < n
cond_lt true x y n h k = h
cond_lt false x y n h k = k

pub cond_le : (b : Bool) (x y n : ℕ) → x ≤ n → y ≤ n → cond b x y ≤ n
cond_le true x y n h k = h
cond_le false x y n h k = k

-- u where it is below i, and s elsewhere
pub chosen_lt : (u s i b : ℕ) → i ≤ b → s < b → cond (ltb u i) u s < b
chosen_lt u s i b h k = go (dec_lt u i)
  where
    go : Dec (u < i) → cond (ltb u i) u s < b
    go (yes l) = rw (lt-ltb u i l) (omega arith)
    go (no l) = rw (le-ltb u i (omega arith)) k

-- a magnitude, or 0 where it isn't finite
pub finite_or_zero : (m i a : ℕ) → a ≡ cond (ltb m i) m 0 → m < i → a ≡ m
finite_or_zero m i a e h = e ∙ rw (lt-ltb m i h) refl

-- a finite magnitude that is not zero: m itself where it is one, and 1 elsewhere
module _ (m i b a : ℕ) (two : 1 < i) (bb : b ≡ cond (ltb m i) m 1) (aa : a ≡ cond (eqb b 0) 1 b) where
  pub any_magnitude : (0 < a) × (a < i)
  any_magnitude = go (ℕ_discrete b 0)
    where
      below : b < i
      below = subst (λ (x : ℕ). x < i) (sym bb) (chosen_lt m 1 i i (le_refl i) two)

      go : Dec (b ≡ 0) → (0 < a) × (a < i)
      go (yes z) = let e : a ≡ 1 = aa ∙ rw (eq-eqb b 0 z) refl in (omega arith, omega arith)
      go (no z) = let e : a ≡ b = aa ∙ rw (ne_eqb b 0 z) refl in (omega arith, omega (arith, below))

  pub some_magnitude : m < i → m ≢ 0 → a ≡ m
  some_magnitude h z =
      let e : b ≡ m = bb ∙ rw (lt-ltb m i h) refl in
      aa ∙ rw (e, ne_eqb m 0 z) refl

-- a cut by a unit that is a power of two
pub cut : (t m U S : ℕ) → U ≡ 2 ^ t → S ≡ m / U * U → S ≡ shaved t m
unfolding shaved
cut t m U S u s = s ∙ ap (λ (x : ℕ). m / x * x) u

-- the cut of a whole pattern is its sign and the cut of the rest
pub floor_sign : (w t n : ℕ) → t ≤ n → w / 2 ^ t * 2 ^ t ≡ w - w % 2 ^ n + w % 2 ^ n / 2 ^ t * 2 ^ t
floor_sign w t n h =
    let q = w / 2 ^ n * 2 ^ (n - t) in
    let m = w % 2 ^ n in
    let a : q * 2 ^ t + m ≡ w = ap (λ (x : ℕ). x + m) (mul_assoc (w / 2 ^ n) (2 ^ (n - t)) (2 ^ t) ∙ ap (λ (x : ℕ). w / 2 ^ n * x) (sym (pow_split n t h))) ∙ div-add-mod' w (2 ^ n) in
    let b : w / 2 ^ t ≡ q + m / 2 ^ t = ap (λ (x : ℕ). x / 2 ^ t) (sym a) ∙ mul-add-div_right (pow_pos t) q m in
    let c : w / 2 ^ t * 2 ^ t ≡ q * 2 ^ t + m / 2 ^ t * 2 ^ t = ap (λ (x : ℕ). x * 2 ^ t) b ∙ add-mul q (m / 2 ^ t) (2 ^ t) in
    omega arith

-- and room for a tail above it
pub cut_room : (w t m add U S : ℕ) → t ≤ w → m < 2 ^ w → add < 2 ^ t → U ≡ 2 ^ t → S ≡ m / U * U → S + add < 2 ^ w
unfolding shaved
cut_room w t m add U S h l a u s = subst (λ (x : ℕ). x + add < 2 ^ w) (sym (cut t m U S u s)) (floor_room w t m add h l a)

-- method 3 by the cut S and half a unit H
pub halfshaved_none : (t m : ℕ) → t ≡ 0 → m ≡ halfshaved t m
unfolding halfshaved
halfshaved_none zero m e = refl
halfshaved_none (suc t) m e = absurd (omega arith)

pub halfshaved_word : (t m U H S : ℕ) → t ≢ 0 → 0 < m → U ≡ 2 ^ t → H ≡ 2 ^ (t - 1) → S ≡ m / U * U → S + H ≡ halfshaved t m
unfolding halfshaved
halfshaved_word zero m U H S n p u h s = absurd (n refl)
halfshaved_word (suc t) m U H S n p u h s =
    let z : suc t - 1 ≡ t = omega arith in
    rw (ne_eqb m 0 (omega arith)) (ap₂ (λ (x y : ℕ). x + y) (cut (suc t) m U S u s) (h ∙ ap (λ (x : ℕ). 2 ^ x) z))

module _ (F X : ℕ) where
  -- the sign and a new magnitude, where the reading is finite
  pub wanted_sum : (w n : ℕ) → cond (ltb (magnitude F X w) (infinity F X)) (w - magnitude F X w + n) w ≡ wanted F X w n
  unfolding wanted finite pattern sign magnitude
  wanted_sum w n = ap (λ (x : ℕ). cond (ltb (w % 2 ^ (F + X)) (infinity F X)) (x + n) w) (let e : w - w % 2 ^ (F + X) ≡ w / 2 ^ (F + X) * 2 ^ (F + X) = omega (arith, div-add-mod' w (2 ^ (F + X))) in e)

  module _ (t m : ℕ) (h : t ≤ F) where
    keep : F - (F - t) ≡ t
    keep = omega arith

    pub round_new : (turn : ℕ) → cond (ltb (rounded t m) (infinity F X)) (rounded t m) (shaved t m) ≡ new_magnitude F X (round (F - t)) turn m
    unfolding new_magnitude clips
    round_new turn = rw keep (go (dec_lt (rounded t m) (infinity F X)))
      where
        go : Dec (rounded t m < infinity F X)
            → cond (ltb (rounded t m) (infinity F X)) (rounded t m) (shaved t m) ≡ cond (leb (infinity F X) (rounded t m)) (shaved t m) (rounded t m)
        go (yes l) = rw (lt-ltb (rounded t m) (infinity F X) l, lt-leb (infinity F X) (rounded t m) l) refl
        go (no l) = rw (le-ltb (rounded t m) (infinity F X) (omega arith), le-leb (infinity F X) (rounded t m) (omega arith)) refl

    pub round_over_lem : ◌≡◌ {A = ℕ} (cond (ltb (rounded t m) (infinity F X)) 0 1) (cond (clips F X (round (F - t)) m) 1 0)
    unfolding clips
    round_over_lem = rw keep (go (dec_lt (rounded t m) (infinity F X)))
      where
        go : Dec (rounded t m < infinity F X) → ◌≡◌ {A = ℕ} (cond (ltb (rounded t m) (infinity F X)) 0 1) (cond (leb (infinity F X) (rounded t m)) 1 0)
        go (yes l) = rw (lt-ltb (rounded t m) (infinity F X) l, lt-leb (infinity F X) (rounded t m) l) refl
        go (no l) = rw (le-ltb (rounded t m) (infinity F X) (omega arith), le-leb (infinity F X) (rounded t m) (omega arith)) refl

  pub digits_zero : (n m : ℕ) → m ≡ 0 → new_magnitude F X (digits n) 0 m ≡ 0
  unfolding new_magnitude
  digits_zero n m z = rw (eq-eqb m 0 z) z

  -- any method, by a new magnitude n and a clip o that are right where the reading is finite
  module _ (x : Method) (mark w n o z : ℕ) (nn : magnitude F X w < infinity F X → n ≡ new_magnitude F X x 0 (magnitude F X w))
      (oo : magnitude F X w < infinity F X → o ≡ over F X x w) (zz : z ≡ cond (ltb (magnitude F X w) (infinity F X)) (w - magnitude F X w + n) w) where
    pub by_word : z ≡ wanted_by F X x 0 w
    unfolding wanted_by wanted finite
    by_word = zz ∙ go (dec_lt (magnitude F X w) (infinity F X))
      where
        go : Dec (magnitude F X w < infinity F X) → cond (ltb (magnitude F X w) (infinity F X)) (w - magnitude F X w + n) w ≡ wanted_by F X x 0 w
        go (yes f) = ap (λ (y : ℕ). cond (ltb (magnitude F X w) (infinity F X)) (w - magnitude F X w + y) w) (nn f) ∙ wanted_sum w (new_magnitude F X x 0 (magnitude F X w))
        go (no f) = rw (le-ltb (magnitude F X w) (infinity F X) (omega arith)) refl

    -- a reading that isn't finite stays, so its clip is not asked for
    pub by_clip : ◌≡◌ {A = ℕ} (cond (eqb (left_from mark w z) w) 0 o) (cond (eqb (left_from mark w z) w) 0 (over F X x w))
    unfolding left_from unless_missing
    by_clip = go (dec_lt (magnitude F X w) (infinity F X))
      where
        same : (b : Bool) → cond b w w ≡ w
        same true = refl
        same false = refl

        go : Dec (magnitude F X w < infinity F X) → ◌≡◌ {A = ℕ} (cond (eqb (left_from mark w z) w) 0 o) (cond (eqb (left_from mark w z) w) 0 (over F X x w))
        go (yes f) = ap (λ (y : ℕ). cond (eqb (left_from mark w z) w) 0 y) (oo f)
        go (no f) =
            let e : z ≡ w = zz ∙ rw (le-ltb (magnitude F X w) (infinity F X) (omega arith)) refl in
            simp (e, same, eq-eqb w w refl)

  -- method 6: k is 0 for a zero and the halfshaved magnitude h elsewhere
  pub digits_word : (n m a t h k : ℕ) → (m < infinity F X → m ≢ 0 → a ≡ m) → new_magnitude F X (digits n) 0 a ≡ halfshaved t a → h ≡ halfshaved t a → k ≡ cond (eqb m 0) 0 h
      → m < infinity F X → k ≡ new_magnitude F X (digits n) 0 m
  digits_word n m a t h k aa tt' hh kk f = go (ℕ_discrete m 0)
    where
      go : Dec (m ≡ 0) → k ≡ new_magnitude F X (digits n) 0 m
      go (yes z) = kk ∙ rw (eq-eqb m 0 z) (sym (digits_zero n m z))
      go (no z) = kk ∙ rw (ne_eqb m 0 z) (hh ∙ sym tt' ∙ ap (λ (x : ℕ). new_magnitude F X (digits n) 0 x) (aa f z))

  pub digits_over : (n w : ℕ) → 0 ≡ over F X (digits n) w
  unfolding over clips
  digits_over n w = refl

-- who takes a turn, by two choices
pub takes_word : (F X bit mark w y z : ℕ) → y ≡ cond (eqb w mark) 0 bit → z ≡ cond (ltb (magnitude F X w) (infinity F X)) y 0 → z ≡ takes F X bit mark w
unfolding takes trimmable present missing finite
takes_word F X bit mark w y z yy zz = zz ∙ ap (λ (a : ℕ). cond (ltb (magnitude F X w) (infinity F X)) a 0) yy ∙ go (eqb w mark) (ltb (magnitude F X w) (infinity F X))
  where
    go : (a b : Bool) → cond b (cond a 0 bit) 0 ≡ cond (not a && b) bit 0
    go true true = refl
    go true false = refl
    go false true = refl
    go false false = refl
