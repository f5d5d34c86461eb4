-- Method 5 by whole numbers no wider than a pattern, with its clip, for every unit 2 ^ q and any F and X: the magnitude stays, becomes zero, or its significand moves to the
-- nearest multiple of 2 ^ (q - c), where 2 ^ c is the spacing, and to the multiple below where that is infinite.
use mathlib.Core.Path.{◌≡◌, refl, sym, ◌∙◌}
use mathlib.Core.Bool.{Bool, true, false, cond}
use Prim.Native.Nat.{ℕ, zero, suc, ◌+◌, ◌-◌, ◌*◌, ◌/◌, ◌^◌, ◌≤◌, ◌<◌, zero-le}
use native.Mathlib.Nat.{div-mul-le_self, le_refl, mul-le-mul_left, mul-le-mul_right, pow-suc}
use native.Mathlib.Numerals.{add-one}
use native.Mathlib.Decide.{dec_lt}
use native.Mathlib.Omega.{arith}
use borrow.Author.Tests.{lt-ltb, le-ltb}
use lib.Dec.{ltb, eqb}
use lib.Pow.{pow_pos, pow_mono}
use Rattle.meaning.specs.Readings.{spacing_exp, size, infinity, largest}
use Rattle.meaning.specs.Methods.{absolute, nearest, multiple, clips}
use Rattle.meaning.proofs.Absolute.{Lands, lands_new, moves, point, stays, vanishes}
use Rattle.meaning.proofs.Nearest.{nearest_floor}
use Rattle.meaning.proofs.Rounding.{cap, absolute_below, absolute_within}
use Rattle.meaning.proofs.Sizes.{form, size_le, size_mono}
use Rattle.absolute.specs.Stepped.{Stepped}
use Rattle.absolute.proofs.Clip.{multiple_cap}

-- ---- with enough exponent bits nothing clips, so that what method 5 gives there is the multiple itself, and the multiple doesn't turn on X

pow_above : (n : ℕ) → n < 2 ^ n
pow_above zero = omega arith
pow_above (suc n) = rw (pow-suc 2 n) (omega (arith, pow_above n))

module _ (F q m : ℕ) where
  abbrev W : ℕ
  W = m + q + 8

  wide : m + q + 8 < 2 ^ W
  wide = pow_above W

  finite_wide : (v : ℕ) → v < (m + q + 8) * 2 ^ F → v < infinity F W
  unfolding infinity
  finite_wide v h = omega (arith, mul-le-mul_right {m = m + q + 8} {n = 2 ^ W - 1} (2 ^ F) (omega (arith, wide)))

  own_wide : m < infinity F W
  own_wide = finite_wide m (omega (arith, mul-le-mul_left (m + q + 8) (pow_pos F)))

  lands_multiple : (v : ℕ) → Lands F W q m v → multiple F q m ≡ size F v
  lands_multiple v l = sym (absolute_within F W q m (multiple_cap F W q m (omega (arith, wide)) own_wide)) ∙ l.is

-- ---- the parts of a magnitude, and the bounds of what is made of them

module _ (F m : ℕ) where
  -- the significand
  abbrev pub sig : ℕ
  sig = m - spacing_exp F m * 2 ^ F

  sig_is : (form F m).sig ≡ sig
  sig_is = omega (arith, (form F m).is)

  pub low_part : spacing_exp F m * 2 ^ F ≤ m
  low_part = omega (arith, (form F m).is)

  sig_below : sig < 2 * 2 ^ F
  sig_below = omega (arith, (form F m).is, (form F m).below)

  pub sig_small : {b : ℕ} → F ≤ b → sig < 2 ^ (b + 1)
  sig_small {b} h = rw (add-one, pow-suc) (omega (arith, sig_below, pow_mono h))

  near_below : (d : ℕ) → nearest sig (2 ^ d) * 2 ^ d ≤ sig + 2 ^ d
  near_below d = omega (arith, mul-le-mul_right (2 ^ d) (nearest_floor sig (2 ^ d) (pow_pos d)).1, div-mul-le_self sig (2 ^ d))

pub unit_small : (F d : ℕ) {b : ℕ} → F ≤ b → d ≤ F + 1 → 2 ^ d ≤ 2 ^ (b + 1)
unit_small F d {b} h l = pow_mono {i = d} {j = b + 1} (omega arith)

point_le : (F X c x : ℕ) → point F X c x ≤ c * 2 ^ F + x
unfolding point
point_le F X c x = go (eqb x 0)
  where
    go : (b : Bool) → cond b 0 (c * 2 ^ F + x) ≤ c * 2 ^ F + x
    go true = zero-le
    go false = le_refl (c * 2 ^ F + x)

-- ---- the four results

-- the nearest multiple, and the one below
module _ (F X q m : ℕ) where
  abbrev near : ℕ
  near = point F X (spacing_exp F m) (nearest (sig F m) (2 ^ (q - spacing_exp F m)) * 2 ^ (q - spacing_exp F m))

  abbrev below : ℕ
  below = point F X (spacing_exp F m) (sig F m / 2 ^ (q - spacing_exp F m) * 2 ^ (q - spacing_exp F m))

module _ (F X q m : ℕ) (fin : m < infinity F X) where
  clips_is : (v : ℕ) → multiple F q m ≡ size F v → clips F X (absolute q) m ≡ ltb (largest F X) v
  unfolding clips
  clips_is v e = go (dec_lt (largest F X) v)
    where
      go : Dec (largest F X < v) → ltb (cap F X) (multiple F q m) ≡ ltb (largest F X) v
      go (yes h) = lt-ltb (cap F X) (multiple F q m) (rw e (size_mono F h)) ∙ sym (lt-ltb (largest F X) v h)
      go (no h) = le-ltb (cap F X) (multiple F q m) (rw e (size_le F {m = v} {n = largest F X} (omega arith))) ∙ sym (le-ltb (largest F X) v (omega arith))

  kept : (v : ℕ) → Lands F X q m v → multiple F q m ≡ size F v → v ≤ largest F X → Stepped F X q m v 0
  kept v l e h = record { new = sym (lands_new F X q 0 m v l); clip = rw (clips_is v e, le-ltb (largest F X) v h) refl }

  pub step_stays : q ≤ spacing_exp F m → Stepped F X q m m 0
  step_stays h = kept m (stays F X q m fin h) (lands_multiple F q m m (stays F (W F q m) q m (own_wide F q m) h)) (omega arith)

  pub step_zero : F + 1 < q - spacing_exp F m → Stepped F X q m 0 0
  step_zero h = kept 0 (vanishes F X q m fin (omega arith)) (lands_multiple F q m 0 (vanishes F (W F q m) q m (own_wide F q m) (omega arith))) (omega arith)

  module _ (h : spacing_exp F m ≤ q) (l : q - spacing_exp F m ≤ F + 1) where
    lands_near : Lands F X q m (cond (ltb (largest F X) (near F X q m)) (below F X q m) (near F X q m))
    lands_near = rw (sig_is F m) at (moves F X q m fin h (omega arith) (form F m))

    -- the same with more exponent bits
    finite_near : near F (W F q m) q m < infinity F (W F q m)
    finite_near =
        let u : 2 ^ (q - spacing_exp F m) ≤ 2 ^ suc F = pow_mono (omega arith) in
        finite_wide F q m (near F (W F q m) q m)
        (omega (arith, point_le F (W F q m) (spacing_exp F m) (nearest (sig F m) (2 ^ (q - spacing_exp F m)) * 2 ^ (q - spacing_exp F m)), near_below F m (q - spacing_exp F m), low_part F m, u, mul-le-mul_left m (pow_pos F), pow_pos F))

    lands_wide : Lands F (W F q m) q m (near F (W F q m) q m)
    lands_wide =
        rw (sig_is F m, le-ltb (largest F (W F q m)) (near F (W F q m) q m) (omega (arith, finite_near))) at (moves F (W F q m) q m (own_wide F q m) h (omega arith) (form F m))

    multiple_near : multiple F q m ≡ size F (near F X q m)
    unfolding point
    multiple_near = lands_multiple F q m (near F (W F q m) q m) lands_wide

    step_near : near F X q m < infinity F X → Stepped F X q m (near F X q m) 0
    step_near o = kept (near F X q m) (rw (le-ltb (largest F X) (near F X q m) (omega arith)) at lands_near) multiple_near (omega arith)

    step_below : infinity F X ≤ near F X q m → Stepped F X q m (below F X q m) 1
    step_below o =
        let k : largest F X < near F X q m = omega arith in
        record {
          new = sym (lands_new F X q 0 m (below F X q m) (rw (lt-ltb (largest F X) (near F X q m) k) at lands_near));
          clip = rw (clips_is (near F X q m) multiple_near, lt-ltb (largest F X) (near F X q m) k) refl;
        }

-- ---- as the code has it: the spacing's exponent e, h = 2 ^ F, the unit g in spacings, and k units the nearest to the significand

pub record Work (F q m e h g k : ℕ) : Type 0 where
  pub exponent : e ≡ spacing_exp F m
  pub hidden : h ≡ 2 ^ F
  pub unit : g ≡ 2 ^ (q - e)
  pub whole : k ≡ nearest (m - e * h) g

module _ {F q m e h g k : ℕ} (w : Work F q m e h g k) where
  near_is : k * g ≡ nearest (sig F m) (2 ^ (q - spacing_exp F m)) * 2 ^ (q - spacing_exp F m)
  near_is = rw (w.whole, w.unit, w.hidden, w.exponent) refl

  below_is : (m - e * h) / g * g ≡ sig F m / 2 ^ (q - spacing_exp F m) * 2 ^ (q - spacing_exp F m)
  below_is = rw (w.unit, w.hidden, w.exponent) refl

  pub unit_pos : 0 < g
  unit_pos = rw w.unit (pow_pos (q - e))

  pub near_fits : {b : ℕ} → F ≤ b → q - e ≤ F + 1 → e * 2 ^ F + k * g ≤ m + 2 ^ (b + 1)
  near_fits f l =
      rw (near_is, w.exponent)
      (omega (arith, near_below F m (q - spacing_exp F m), low_part F m, unit_small F (q - spacing_exp F m) f (rw w.exponent at l)))

  pub below_fits : e * 2 ^ F + (m - e * h) / g * g ≤ m
  below_fits = rw (below_is, w.exponent) (omega (arith, div-mul-le_self (sig F m) (2 ^ (q - spacing_exp F m)), low_part F m))

  module _ (X r : ℕ) (fin : m < infinity F X) (o : e ≤ q) (l : q - e ≤ F + 1) (v : r ≡ cond (eqb (k * g) 0) 0 (e * 2 ^ F + k * g)) where
    result_is : r ≡ near F X q m
    unfolding point
    result_is = v ∙ rw (near_is, w.exponent) refl

    pub work_near : r < infinity F X → Stepped F X q m r 0
    work_near b = rw result_is (step_near F X q m fin (rw w.exponent at o) (rw w.exponent at l) (rw result_is at b))

    pub work_below : infinity F X ≤ r → (t : ℕ) → t ≡ cond (eqb ((m - e * h) / g * g) 0) 0 (e * 2 ^ F + (m - e * h) / g * g) → Stepped F X q m t 1
    unfolding point
    work_below b t u =
        let z : t ≡ below F X q m = u ∙ rw (below_is, w.exponent) refl in
        rw z (step_below F X q m fin (rw w.exponent at o) (rw w.exponent at l) (rw result_is at b))

-- ---- the result is finite

pub stepped_finite : {F X q m v k : ℕ} → m < infinity F X → Stepped F X q m v k → (v < infinity F X) × (k ≤ 1)
stepped_finite {F} {X} {q} {m} {v} {k} h t = (rw t.new (absolute_below F X q 0 m h), rw t.clip (go (clips F X (absolute q) m)))
  where
    go : (b : Bool) → cond b 1 0 ≤ 1
    go true = le_refl 1
    go false = zero-le
