-- Methods 0 to 3 change the tail alone, so their results agree with the reading above it, and lie less than a unit away.
use mathlib.Core.Path.{◌≡◌, refl, ap}
use Prim.Native.Nat.{ℕ, zero, suc, max, ◌+◌, ◌-◌, ◌*◌, ◌/◌, ◌%◌, ◌^◌, ◌≤◌, ◌<◌}
use native.Mathlib.Nat.{div-add-mod', div-lt_iff_lt-mul, mul-div_cancel, mul-lt-mul_of_pos_right, mod-lt, add-sub_of_le, le_refl}
use native.Mathlib.Decide.{ℕ_discrete}
use native.Mathlib.Omega.{arith}
use borrow.Author.Tests.{eq-eqb, ne_eqb}
use lib.Pow.{pow_pos, pow-lt, shr-shr, high, ones_lt}
use Rattle.meaning.specs.Readings.{exponent_field, spacing_exp, spacing, size, infinity, distance}
use Rattle.meaning.specs.Methods.{TailMethod, shave, set, groom, halfshave, tail_changed, shaved, tail_set, halfshaved}
use Rattle.meaning.proofs.Sizes.{Form, form, size_form}

-- m and n agree above their last t bits
abbrev pub Agree : ℕ → ℕ → ℕ → Type 0
Agree t m n = m / 2 ^ t ≡ n / 2 ^ t

pub agree_up : (m n t u : ℕ) → t ≤ u → Agree t m n → Agree u m n
agree_up m n t u h e = rw (← (add-sub_of_le h), ← shr-shr m t (u - t), ← shr-shr n t (u - t), e) refl

shaved_agree : (t m : ℕ) → Agree t (shaved t m) m
unfolding shaved
shaved_agree t m = mul-div_cancel (m / 2 ^ t) (pow_pos t)

-- S with something below 2 ^ t in its tail
tail_agree : (t m r : ℕ) → r < 2 ^ t → Agree t (shaved t m + r) m
unfolding shaved
tail_agree t m r h = high (m / 2 ^ t) t h

set_agree : (t m : ℕ) → Agree t (tail_set t m) m
unfolding tail_set
set_agree t m = go (ℕ_discrete m 0)
  where
    go : Dec (m ≡ 0) → Agree t (tail_set t m) m
    go (yes z) = rw (eq-eqb m 0 z) refl
    go (no z) = rw (ne_eqb m 0 z) (tail_agree t m (2 ^ t - 1) (ones_lt t))

halfshaved_agree : (t m : ℕ) → Agree t (halfshaved t m) m
unfolding halfshaved
halfshaved_agree zero m = refl
halfshaved_agree (suc t) m = go (ℕ_discrete m 0)
  where
    go : Dec (m ≡ 0) → Agree (suc t) (halfshaved (suc t) m) m
    go (yes z) = rw (eq-eqb m 0 z) refl
    go (no z) = rw (ne_eqb m 0 z) (tail_agree (suc t) m (2 ^ t) (pow-lt (le_refl (suc t))))

pub tail_changed_agree : (c : TailMethod) (turn t m : ℕ) → Agree t (tail_changed c turn t m) m
unfolding tail_changed
tail_changed_agree shave turn t m = shaved_agree t m
tail_changed_agree set turn t m = set_agree t m
tail_changed_agree groom turn t m = go (ℕ_discrete (turn % 2) 0)
  where
    go : Dec (turn % 2 ≡ 0) → Agree t (tail_changed groom turn t m) m
    go (yes z) = rw (eq-eqb (turn % 2) 0 z) (shaved_agree t m)
    go (no z) = rw (ne_eqb (turn % 2) 0 z) (set_agree t m)
tail_changed_agree halfshave turn t m = halfshaved_agree t m

module _ (F X : ℕ) where
  -- magnitudes that agree above at most F bits are finite together
  pub agree_finite : (m n t : ℕ) → t ≤ F → Agree t m n → n < infinity F X → m < infinity F X
  unfolding infinity
  agree_finite m n t h e l = (div-lt_iff_lt-mul (pow_pos F)).0 (rw (agree_up m n t F h e) ((div-lt_iff_lt-mul (pow_pos F)).1 l))

module _ (F : ℕ) where
  pub same_spacing : (m n t : ℕ) → t ≤ F → Agree t m n → spacing_exp F m ≡ spacing_exp F n
  unfolding spacing_exp exponent_field
  same_spacing m n t h e = ap (λ (x : ℕ). max x 1 - 1) (agree_up m n t F h e)

  -- and lie less than a unit apart
  pub agree_close : (m n t : ℕ) → t ≤ F → Agree t m n → distance (size F m) (size F n) < 2 ^ t * spacing F m
  unfolding distance spacing
  agree_close m n t h e = go (form F m) (form F n)
    where
      s : spacing_exp F m ≡ spacing_exp F n
      s = same_spacing m n t h e

      sm : m / 2 ^ t * 2 ^ t + m % 2 ^ t ≡ m
      sm = div-add-mod' m (2 ^ t)

      sn : m / 2 ^ t * 2 ^ t + n % 2 ^ t ≡ n
      sn = rw e (div-add-mod' n (2 ^ t))

      go : (f : Form F m) (g : Form F n) → distance (size F m) (size F n) < 2 ^ t * 2 ^ spacing_exp F m
      go f g =
          let gi : n ≡ spacing_exp F m * 2 ^ F + g.sig = rw (← s) at g.is in
          let a : f.sig < g.sig + 2 ^ t = omega (arith, f.is, sm, sn, mod-lt m (pow_pos t)) in
          let b : g.sig < f.sig + 2 ^ t = omega (arith, f.is, sm, sn, mod-lt n (pow_pos t)) in
          let x : f.sig * 2 ^ spacing_exp F m < (g.sig + 2 ^ t) * 2 ^ spacing_exp F m = mul-lt-mul_of_pos_right a (pow_pos (spacing_exp F m)) in
          let y : g.sig * 2 ^ spacing_exp F m < (f.sig + 2 ^ t) * 2 ^ spacing_exp F m = mul-lt-mul_of_pos_right b (pow_pos (spacing_exp F m)) in
          rw (size_form F m f, size_form F n g, ← s) (omega arith)
