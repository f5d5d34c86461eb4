-- The magnitude nearest to a size n that isn't near the infinities: within half of its own spacing, and on the same side as n of every number of F + 1 bits, shifted, so
-- that such a size is kept.
use mathlib.Core.Path.{◌≡◌, sym, ap, ◌∙◌}
use mathlib.Core.Logic.{◌⊎◌, inl, inr}
use Prim.Native.Nat.{ℕ, suc, ◌+◌, ◌-◌, ◌*◌, ◌^◌, ◌≤◌, ◌<◌}
use native.Mathlib.Nat.{le_of_eq, le_antisymm, le_trans, lt_of_lt_of_le, mul-le-mul_right, mul-le-mul_left, mul-lt-mul_of_pos_right, mul_assoc, pow-suc}
use native.Mathlib.Decide.{dec_lt, dec_le}
use native.Mathlib.Omega.{arith}
use lib.Pow.{pow_pos, pow_mono}
use Rattle.meaning.specs.Readings.{size, spacing, spacing_exp, infinity, magnitude_of, distance}
use Rattle.meaning.specs.Methods.{nearest}
use Rattle.meaning.proofs.Powers.{pow_split}
use Rattle.meaning.proofs.Nearest.{nearest_between, nearest_half}
use Rattle.meaning.proofs.Sizes.{form, size_at, size_form, size_le, spacing_at_lem}
use Rattle.meaning.proofs.Patterns.{magnitude_of_size, magnitude_of_floor}

module _ (F X n : ℕ) (room : 2 * n < size F (infinity F X)) where
  abbrev m : ℕ
  m = magnitude_of F X n

  abbrev c : ℕ
  c = spacing_exp F m

  floor : (size F m ≤ n) × (n < size F (suc m))
  floor = magnitude_of_floor F X n (omega arith)

  high : (c ≡ 0) ⊎ (2 ^ F ≤ (form F m).sig) → (c ≡ 0) ⊎ (2 ^ F ≤ suc (form F m).sig)
  high (inl z) = inl z
  high (inr l) = inr (omega arith)

  -- n lies in the binade of that spacing
  under : n < 2 * 2 ^ F * 2 ^ c
  under =
      let s = form F m in
      let e : suc m ≡ c * 2 ^ F + suc s.sig = omega (arith, s.is) in
      let u : n < suc s.sig * 2 ^ c = rw (e, size_at F c (suc s.sig) (high s.above) s.below) at floor.1 in
      lt_of_lt_of_le u (mul-le-mul_right (2 ^ c) s.below)

  over : (c ≡ 0) ⊎ (2 ^ F * 2 ^ c ≤ n)
  over = go (form F m).above
    where
      go : (c ≡ 0) ⊎ (2 ^ F ≤ (form F m).sig) → (c ≡ 0) ⊎ (2 ^ F * 2 ^ c ≤ n)
      go (inl z) = inl z
      go (inr l) = inr (le_trans (mul-le-mul_right (2 ^ c) l) (rw (size_form F m (form F m)) at floor.0))

  -- the nearest number of spacings, and the magnitude that has them
  abbrev y : ℕ
  y = nearest n (2 ^ c)

  abbrev pub v : ℕ
  v = c * 2 ^ F + y

  y_most : y ≤ 2 * 2 ^ F
  y_most = (nearest_between 0 (2 * 2 ^ F) n (2 ^ c) (pow_pos c) (omega arith) (omega (arith, under))).1

  y_least : (c ≡ 0) ⊎ (2 ^ F ≤ y)
  y_least = go over
    where
      go : (c ≡ 0) ⊎ (2 ^ F * 2 ^ c ≤ n) → (c ≡ 0) ⊎ (2 ^ F ≤ y)
      go (inl z) = inl z
      go (inr l) = inr (nearest_between (2 ^ F) (2 * 2 ^ F) n (2 ^ c) (pow_pos c) l (omega (arith, under))).0

  v_size : size F v ≡ y * 2 ^ c
  v_size = size_at F c y y_least y_most

  pub v_finite : v < infinity F X
  v_finite = go over (dec_lt v (infinity F X))
    where
      small : (c ≡ 0) ⊎ (2 ^ F * 2 ^ c ≤ n) → y * 2 ^ c ≤ 2 * n
      small (inl z) = let p : 2 ^ c ≡ 1 = ap (λ (x : ℕ). 2 ^ x) z in omega (arith, nearest_half n (2 ^ c) (pow_pos c))
      small (inr l) = omega (arith, nearest_half n (2 ^ c) (pow_pos c), mul-le-mul_right (2 ^ c) (pow_pos F))

      go : (c ≡ 0) ⊎ (2 ^ F * 2 ^ c ≤ n) → Dec (v < infinity F X) → v < infinity F X
      go o (yes l) = l
      go o (no l) = absurd (omega (arith, v_size, small o, size_le F {m = infinity F X} {n = v} (omega arith)))

  -- what `nearest_magnitude` gives for the width
  pub near_is : magnitude_of F X (nearest n (spacing F m) * spacing F m) ≡ v
  unfolding spacing
  near_is = sym (ap (magnitude_of F X) v_size) ∙ magnitude_of_size F X v v_finite

  pub near_half : 2 * distance (size F v) n ≤ spacing F v
  unfolding distance spacing
  near_half = rw v_size (le_trans (omega (arith, nearest_half n (2 ^ c) (pow_pos c))) (pow_mono (spacing_at_lem F c y y_least)))

  -- a number of F + 1 bits, shifted, that is a multiple of the spacing, or else lies below the binade
  module _ (a u : ℕ) (few : a < 2 * 2 ^ F) where
    split : c ≤ u → a * 2 ^ u ≡ a * 2 ^ (u - c) * 2 ^ c
    split h = ap (λ (x : ℕ). a * x) (pow_split u c h) ∙ sym (mul_assoc a (2 ^ (u - c)) (2 ^ c))

    below : ¬ (c ≤ u) → a * 2 ^ u < 2 ^ F * 2 ^ c
    below h =
        let b : 2 ^ F * 2 ^ suc u ≤ 2 ^ F * 2 ^ c = mul-le-mul_left (2 ^ F) (pow_mono {i = suc u} {j = c} (omega arith)) in
        omega (arith, mul-lt-mul_of_pos_right few (pow_pos u), rw (pow-suc 2 u) at b)

    -- bounds what is nearest wherever it bounds n
    pub near_most : n ≤ a * 2 ^ u → size F v ≤ a * 2 ^ u
    near_most h = go (dec_le c u) over
      where
        go : Dec (c ≤ u) → (c ≡ 0) ⊎ (2 ^ F * 2 ^ c ≤ n) → size F v ≤ a * 2 ^ u
        go (yes k) o =
            rw (v_size, split k)
            (mul-le-mul_right (2 ^ c) (nearest_between 0 (a * 2 ^ (u - c)) n (2 ^ c) (pow_pos c) (omega arith) (rw (split k) at h)).1)
        go (no k) (inl z) = absurd (omega arith)
        go (no k) (inr l) = absurd (omega (arith, below k))

    pub near_least : a * 2 ^ u ≤ n → a * 2 ^ u ≤ size F v
    near_least h = rw v_size (go (dec_le c u) y_least)
      where
        go : Dec (c ≤ u) → (c ≡ 0) ⊎ (2 ^ F ≤ y) → a * 2 ^ u ≤ y * 2 ^ c
        go (yes k) o =
            rw (split k)
            (mul-le-mul_right (2 ^ c) (nearest_between (a * 2 ^ (u - c)) (2 * 2 ^ F) n (2 ^ c) (pow_pos c) (rw (split k) at h) (omega (arith, under))).0)
        go (no k) (inl z) = absurd (omega arith)
        go (no k) (inr l) = omega (arith, below k, mul-le-mul_right (2 ^ c) l)

    -- and so is kept
    pub near_exact : n ≡ a * 2 ^ u → size F v ≡ n
    near_exact e = le_antisymm (le_trans (near_most (le_of_eq e)) (le_of_eq (sym e))) (le_trans (le_of_eq e) (near_least (le_of_eq (sym e))))
