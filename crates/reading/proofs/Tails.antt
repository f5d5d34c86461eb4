-- Document 02 (d): the constants of a tail follow from the keep bits alone, and each reading trimmed with them gets the result in force; for every width.
use mathlib.Core.Path.{◌≡◌, refl, sym, ap, ◌∙◌, subst}
use mathlib.Core.Bool.{cond}
use Prim.Native.Nat.{ℕ, zero, suc, ◌+◌, ◌-◌, ◌*◌, ◌/◌, ◌%◌, ◌^◌, ◌≤◌, ◌<◌, zero-le}
use native.Mathlib.Nat.{mod-eq_of_lt, mod-lt, mul-add-mod_self_right, add-mod_right, div-add-mod', div-mul-le_self, div-lt_iff_lt-mul, mul-le-mul_right, add-mul, mul_comm, pow-suc}
use native.Mathlib.Numerals.{add-one}
use native.Mathlib.Decide.{dec_lt, ℕ_discrete}
use native.Mathlib.Omega.{arith}
use borrow.Author.Tests.{eq-eqb, ne_eqb, lt-ltb, le-ltb}
use lib.Bits.{bit_and, and_mask}
use lib.Dec.{eqb, ltb}
use lib.Pow.{pow_pos, pow_mono, pow-add}
use Rattle.meaning.specs.Readings.{magnitude, infinity, finite}
use Rattle.meaning.specs.Methods.{nearest, round, shaved, rounded, new_magnitude}
use Rattle.meaning.proofs.Nearest.{nearest_floor}
use Rattle.reading.specs.Left.{settled_from, wanted, over, tail_added, settled_by, settled_tail}
use Rattle.reading.specs.Tails.{half_unit, Constants, constants, TailOf, tail_word, near_word, round_word, round_over}
use Rattle.reading.proofs.Settled.{settled_by_lem}
use Rattle.reading.proofs.Wraps.{wrapped, taken_back}
use Rattle.reading.proofs.Words.{cond_le, floor_sign, rounded_sum, wanted_sum, round_new, round_over_lem}

pub half_of : (t U : ℕ) → U ≡ 2 ^ t → U / 2 ≡ half_unit t
half_of zero U e = rw e refl
half_of (suc t) U e = let d : U ≡ 2 ^ t * 2 = e ∙ pow-suc 2 t in omega arith

-- they are worked out from one power of two
pub worked_out : (F k U : ℕ) → U ≡ 2 ^ (F - k) → record { bits = F - k; ones = U - 1; half = U / 2 } ≡ constants F k
unfolding constants
worked_out F k U e = rw (half_of (F - k) U e, e) refl

pub half_positive : (t : ℕ) → 1 ≤ t → half_unit t ≡ 2 ^ (t - 1)
half_positive zero h = absurd (omega arith)
half_positive (suc t) h = ap (λ (x : ℕ). 2 ^ x) (let z : t ≡ suc t - 1 = omega arith in z)

-- those of k keep bits are a tail's
pub made : (F k : ℕ) (c : Constants) → c ≡ constants F k → TailOf F c
unfolding constants
made F k c e = subst (TailOf F) (sym e) (record { short = omega arith; is_ones = refl; is_half = refl })

-- and a tail's follow from the keep bits alone
pub alone : (F k : ℕ) (c : Constants) → TailOf F c → c.bits ≡ F - k → c ≡ constants F k
unfolding constants
alone F k c h e = rw (← e, ← h.is_ones, ← h.is_half) refl

-- a cut by the tail's bits
pub mask_cut : (t x ones : ℕ) → ones ≡ 2 ^ t - 1 → x - bit_and x ones ≡ x / 2 ^ t * 2 ^ t
mask_cut t x ones e = rw (e, and_mask) (omega (arith, div-add-mod' x (2 ^ t)))

-- what is only asked for where the reading is finite
pub only_finite : (m i a b w : ℕ) → (m < i → a ≡ b) → cond (ltb m i) a w ≡ cond (ltb m i) b w
only_finite m i a b w h = go (dec_lt m i)
  where
    go : Dec (m < i) → cond (ltb m i) a w ≡ cond (ltb m i) b w
    go (yes l) = ap (λ (x : ℕ). cond (ltb m i) x w) (h l)
    go (no l) = rw (le-ltb m i (omega arith)) refl

-- nothing is cut from zero
pub zero_cut : (t m : ℕ) → m ≡ 0 → m ≡ shaved t m
unfolding shaved
zero_cut t m z = omega (arith, div-mul-le_self m (2 ^ t))

-- a rounded magnitude is the cut one, or a unit more
rounded_two : (t m : ℕ) → (shaved t m ≤ rounded t m) × (rounded t m ≤ shaved t m + 2 ^ t) × (shaved t m < rounded t m → rounded t m ≡ shaved t m + 2 ^ t)
unfolding shaved rounded
rounded_two t m = go (ℕ_discrete (nearest m (2 ^ t)) (m / 2 ^ t))
  where
    near : (m / 2 ^ t ≤ nearest m (2 ^ t)) × (nearest m (2 ^ t) ≤ m / 2 ^ t + 1)
    near = nearest_floor m (2 ^ t) (pow_pos t)

    go : Dec (nearest m (2 ^ t) ≡ m / 2 ^ t)
        → (m / 2 ^ t * 2 ^ t ≤ nearest m (2 ^ t) * 2 ^ t) × (nearest m (2 ^ t) * 2 ^ t ≤ m / 2 ^ t * 2 ^ t + 2 ^ t) × (m / 2 ^ t * 2 ^ t < nearest m (2 ^ t) * 2 ^ t → nearest m (2 ^ t) * 2 ^ t ≡ m / 2 ^ t * 2 ^ t + 2 ^ t)
    go (yes e) = rw e (omega arith, omega arith, λ h. absurd (omega arith))
    go (no e) =
        let d : nearest m (2 ^ t) ≡ m / 2 ^ t + 1 = omega (arith, near) in
        let f : nearest m (2 ^ t) * 2 ^ t ≡ m / 2 ^ t * 2 ^ t + 2 ^ t = ap (λ (x : ℕ). x * 2 ^ t) d ∙ add-mul (m / 2 ^ t) 1 (2 ^ t) ∙ omega arith in
        (omega arith, omega arith, λ h. f)

module _ (F X : ℕ) where
  whole_cut : (w t : ℕ) → t ≤ F → w / 2 ^ t * 2 ^ t ≡ w - magnitude F X w + shaved t (magnitude F X w)
  unfolding magnitude shaved
  whole_cut w t h = floor_sign w t (F + X) (omega arith)

  -- methods 0 to 3: the sign stands above the tail, so the whole pattern is cut
  pub tail_cut : (w t add ones y z : ℕ) → t ≤ F → ones ≡ 2 ^ t - 1 → y ≡ w - bit_and w ones + cond (eqb (magnitude F X w) 0) 0 add
      → z ≡ cond (ltb (magnitude F X w) (infinity F X)) y w → z ≡ wanted F X w (tail_added t add (magnitude F X w))
  unfolding tail_added
  tail_cut w t add ones y z h oo yy zz =
      zz ∙ ap (λ (x : ℕ). cond (ltb (magnitude F X w) (infinity F X)) x w) (yy ∙ rw (mask_cut t w ones oo) (go (ℕ_discrete (magnitude F X w) 0)))
      ∙ wanted_sum F X w (tail_added t add (magnitude F X w))
    where
      cut : w / 2 ^ t * 2 ^ t ≡ w - magnitude F X w + shaved t (magnitude F X w)
      cut = whole_cut w t h

      go : Dec (magnitude F X w ≡ 0) → w / 2 ^ t * 2 ^ t + cond (eqb (magnitude F X w) 0) 0 add ≡ w - magnitude F X w + tail_added t add (magnitude F X w)
      go (yes e) = rw (eq-eqb (magnitude F X w) 0 e) (omega (arith, cut, zero_cut t (magnitude F X w) e))
      go (no e) = rw (ne_eqb (magnitude F X w) 0 e) (omega (arith, cut))

  -- method 4 on a finite reading: the whole pattern is rounded, and a unit is taken back where that isn't finite
  module _ (w t H ones near up u back y : ℕ) (l : 1 ≤ t) (h : t ≤ F) (hh : H ≡ 2 ^ (t - 1)) (oo : ones ≡ 2 ^ t - 1) (short : w < 2 ^ (F + X + 1)) (small : y < 2 ^ (F + X + 1))
      (nn : near ≡ (w + (H - 1 + magnitude F X w / 2 ^ t % 2)) % 2 ^ (F + X + 1)) (pp : up ≡ near - bit_and near ones) (uu : u ≡ up % 2 ^ (F + X))
      (bb : back ≡ cond (ltb u (infinity F X)) 0 (ones + 1)) (yy : (y + back) % 2 ^ (F + X + 1) ≡ up) (fin : magnitude F X w < infinity F X) where
    abbrev m : ℕ
    m = magnitude F X w

    abbrev T : ℕ
    T = 2 ^ (F + X)

    abbrev q : ℕ
    q = w / 2 ^ (F + X) * 2 ^ (F + X)

    two : 2 ^ (F + X + 1) ≡ 2 * T
    two = rw (add-one, pow-suc) (omega arith)

    halves : 2 ^ t ≡ 2 * H
    halves = let z : t ≡ suc (t - 1) = omega arith in ap (λ (x : ℕ). 2 ^ x) z ∙ pow-suc 2 (t - 1) ∙ omega (arith, hh)

    unit : 2 ^ t ≤ 2 ^ F
    unit = pow_mono h

    top : infinity F X + 2 ^ F ≡ T
    unfolding infinity
    top =
        let z : 2 ^ X - 1 + 1 ≡ 2 ^ X = omega (arith, pow_pos X) in
        let e : (2 ^ X - 1 + 1) * 2 ^ F ≡ (2 ^ X - 1) * 2 ^ F + 1 * 2 ^ F = add-mul (2 ^ X - 1) 1 (2 ^ F) in
        let f : (2 ^ X - 1 + 1) * 2 ^ F ≡ 2 ^ (F + X) = ap (λ (x : ℕ). x * 2 ^ F) z ∙ mul_comm (2 ^ X) (2 ^ F) ∙ sym (pow-add 2 F X) in
        omega (arith, e, f)

    parts : q + m ≡ w
    unfolding magnitude
    parts = div-add-mod' w (2 ^ (F + X))

    signs : q ≤ T
    signs =
        let e : w / 2 ^ (F + X) < 2 = (div-lt_iff_lt-mul {k = 2 ^ (F + X)} {x = w} {y = 2} (pow_pos (F + X))).1 (omega (arith, two)) in
        omega (arith, mul-le-mul_right (2 ^ (F + X)) (let f : w / 2 ^ (F + X) ≤ 1 = omega (arith, e) in f))

    abbrev a : ℕ
    a = m + (H - 1) + m / 2 ^ t % 2

    fits : a < T
    fits = omega (arith, top, halves, unit, fin, pow_pos (t - 1), hh)

    -- nothing wraps
    near_is : near ≡ q + (m + (H - 1) + m / 2 ^ t % 2)
    near_is = let e : w + (H - 1 + m / 2 ^ t % 2) < 2 ^ (F + X + 1) = omega (arith, parts, signs, fits, two) in nn ∙ mod-eq_of_lt e ∙ omega (arith, parts)

    up_is : up ≡ q + rounded t m
    up_is =
        let r : near % T ≡ a = ap (λ (x : ℕ). x % T) near_is ∙ mul-add-mod_self_right (w / 2 ^ (F + X)) T a ∙ mod-eq_of_lt fits in
        let e : a / 2 ^ t * 2 ^ t ≡ rounded t m = rounded_sum t m H (2 ^ t) (a / 2 ^ t * 2 ^ t) (omega arith) hh refl refl in
        pp ∙ mask_cut t near ones oo ∙ floor_sign near t (F + X) (omega arith) ∙ ap (λ (x : ℕ). near - x + x / 2 ^ t * 2 ^ t) r ∙ omega (arith, e, near_is)

    cut_le : shaved t m ≤ m
    unfolding shaved
    cut_le = div-mul-le_self m (2 ^ t)

    below : rounded t m < T
    below = omega (arith, (rounded_two t m).1, cut_le, fin, unit, top)

    u_is : u ≡ rounded t m
    u_is = uu ∙ ap (λ (x : ℕ). x % T) up_is ∙ mul-add-mod_self_right (w / 2 ^ (F + X)) T (rounded t m) ∙ mod-eq_of_lt below

    pub over_cut : (o : ℕ) → o ≡ cond (ltb u (infinity F X)) 0 1 → o ≡ over F X (round (F - t)) w
    unfolding over
    over_cut o e = e ∙ rw u_is (round_over_lem F X t m h)

    pub round_cut : y ≡ w - m + new_magnitude F X (round (F - t)) 0 m
    round_cut = go (dec_lt (rounded t m) (infinity F X))
      where
        go : Dec (rounded t m < infinity F X) → y ≡ w - m + new_magnitude F X (round (F - t)) 0 m
        go (yes g) =
            let b : back ≡ 0 = bb ∙ rw (u_is, lt-ltb (rounded t m) (infinity F X) g) refl in
            let n : rounded t m ≡ new_magnitude F X (round (F - t)) 0 m = sym (rw (lt-ltb (rounded t m) (infinity F X) g) refl) ∙ round_new F X t m h 0 in
            let e : y + back ≡ up = sym (mod-eq_of_lt (omega (arith, b, small))) ∙ yy in
            omega (arith, b, n, e, up_is, parts)
        go (no g) =
            let b : back ≡ 2 ^ t = bb ∙ rw (u_is, le-ltb (rounded t m) (infinity F X) (omega arith)) (omega (arith, oo, pow_pos t)) in
            let n : shaved t m ≡ new_magnitude F X (round (F - t)) 0 m = sym (rw (le-ltb (rounded t m) (infinity F X) (omega arith)) refl) ∙ round_new F X t m h 0 in
            let r : rounded t m ≡ shaved t m + 2 ^ t = (rounded_two t m).2 (omega (arith, cut_le, fin)) in
            let z : up + (2 ^ (F + X + 1) - back) ≡ q + shaved t m + 2 ^ (F + X + 1) = omega (arith, b, r, up_is, unit, top, two) in
            let e : y ≡ q + shaved t m = wrapped (2 ^ (F + X + 1)) y back up small (omega (arith, b, unit, top, two, fin)) yy ∙ ap (λ (x : ℕ). x % 2 ^ (F + X + 1)) z ∙ add-mod_right (q + shaved t m) (2 ^ (F + X + 1)) ∙ mod-eq_of_lt (omega (arith, cut_le, signs, fin, top, two, pow_pos F)) in
            omega (arith, n, e, parts)

  -- ---- and so each reading trimmed with a tail's constants gets the method's result

  module _ (c : Constants) (h : TailOf F c) (mark w : ℕ) where
    pub settled_tail_lem : (add : ℕ) → settled_from F X mark w (tail_word F X c add w) 0 ≡ settled_tail F X c.bits add mark w
    unfolding settled_tail tail_word finite
    settled_tail_lem add = ap (λ (z : ℕ). settled_from F X mark w z 0) (tail_cut w c.bits add c.ones _ (tail_word F X c add w) h.short h.is_ones refl refl)

    pub settled_round : 1 ≤ c.bits → w < 2 ^ (F + X + 1) → settled_from F X mark w (round_word F X c w) (round_over F X c w) ≡ settled_by F X (round (F - c.bits)) mark 0 w
    unfolding round_word round_over near_word finite magnitude
    settled_round some short =
        let W = 2 ^ (F + X + 1) in
        let t = c.bits in
        let m = magnitude F X w in
        let sum = w + (c.half - 1 + m / 2 ^ t % 2) in
        let near = sum % W in
        let up = near - bit_and near c.ones in
        let u = up % 2 ^ (F + X) in
        let over : ℕ = cond (ltb u (infinity F X)) 0 1 in
        let back = cond (ltb u (infinity F X)) 0 (c.ones + 1) in
        let y = (up + (W - back)) % W in
        let half = h.is_half ∙ half_positive t some in
        let room : c.ones + 1 ≤ W = omega (arith, h.is_ones, pow_pos t, pow_mono {i = t} {j = F + X + 1} (omega (arith, h.short))) in
        let again = taken_back W up back (omega (arith, mod-lt sum (pow_pos (F + X + 1)))) (cond_le (ltb u (infinity F X)) 0 (c.ones + 1) W zero-le room) in
        let small = mod-lt (up + (W - back)) (pow_pos (F + X + 1)) in
        settled_by_lem F X (round (F - t)) mark w (new_magnitude F X (round (F - t)) 0 m) over (cond (ltb m (infinity F X)) y w) (λ f. refl)
        (λ f. over_cut w t c.half c.ones near up u back y some h.short half h.is_ones short small refl refl refl refl again f over refl)
        (only_finite m (infinity F X) y _ w (λ f. round_cut w t c.half c.ones near up u back y some h.short half h.is_ones short small refl refl refl refl again f))
