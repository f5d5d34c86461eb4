-- 003's relative bounds: a normal reading is at least 2 ^ F spacings, so a distance in units is one in parts of the size.
use mathlib.Core.Path.{◌≡◌, ap, ◌∙◌}
use mathlib.Core.Logic.{◌⊎◌, inl, inr}
use Prim.Native.Nat.{ℕ, suc, ◌+◌, ◌-◌, ◌*◌, ◌/◌, ◌%◌, ◌^◌, ◌≤◌, ◌<◌}
use native.Mathlib.Nat.{div-add-mod', mod-lt, mul-le-mul_right, mul-lt-mul_of_pos_right, mul-pos, sub-le, le-div_iff_mul-le, mul-div_cancel, le-mul_of_pos_right, lt_of_mul-lt-mul_right, lt_of_lt_of_le}
use native.Mathlib.Decide.{dec_le, dec_lt, ℕ_discrete}
use native.Mathlib.Omega.{arith}
use lib.Pow.{pow_pos, pow-add}
use Rattle.meaning.specs.Readings.{size, spacing, spacing_exp, infinity, magnitude, distance}
use Rattle.meaning.specs.Methods.{tail, halfshave, round, shaved, rounded, unit, new_magnitude}
use Rattle.meaning.proofs.Sizes.{Form, form, size_form, size_at}
use Rattle.meaning.proofs.Powers.{pow_split}
use Rattle.meaning.proofs.Nearest.{nearest_down, nearest_floor}
use Rattle.meaning.proofs.Tails.{same_spacing}
use Rattle.meaning.proofs.Grid.{Grid, grid, shaved_is}
use Rattle.meaning.proofs.Rounding.{round_within, round_clipped}
use Rattle.papers.specs.Moved.{moved}
use Rattle.papers.specs.Bounds.{RelativeBounds}
use Rattle.papers.proofs.Apart.{moved_has, distance_self}
use Rattle.papers.proofs.Steps.{size_below, shaved_size, round_step}
use Rattle.papers.proofs.Bounds.{halfshave_half, unit_bounds}

module _ (F : ℕ) where
  normal_size : (m : ℕ) → 2 ^ F ≤ m → 2 ^ F * spacing F m ≤ size F m
  unfolding spacing
  normal_size m h = go (form F m) (form F m).above
    where
      go : (f : Form F m) → (spacing_exp F m ≡ 0) ⊎ (2 ^ F ≤ f.sig) → 2 ^ F * 2 ^ spacing_exp F m ≤ size F m
      go f (inl z) =
          let l : 2 ^ F ≤ f.sig = omega (arith, rw z at f.is) in
          rw (size_form F m f) (mul-le-mul_right (2 ^ spacing_exp F m) l)
      go f (inr l) = rw (size_form F m f) (mul-le-mul_right (2 ^ spacing_exp F m) l)

  spacing_some : (m : ℕ) → 0 < spacing F m
  unfolding spacing
  spacing_some m = pow_pos (spacing_exp F m)

  some_size : (m : ℕ) → 2 ^ F ≤ m → 0 < size F m
  some_size m h = omega (arith, normal_size m h, mul-pos (pow_pos F) (spacing_some m))

  -- d spacings s are less than a unit of k keep bits; past F keep bits there are none
  module _ (k d s : ℕ) (h : d + s ≤ 2 ^ (F - k) * s) where
    none : F < k → d ≡ 0
    none a =
        let e : F - k ≡ 0 = omega arith in
        omega (arith, ap (λ (x : ℕ). 2 ^ x * s) e)

    whole_part : 0 < s → d * 2 ^ k < 2 ^ F * s
    whole_part p = go (dec_le k F)
      where
        go : Dec (k ≤ F) → d * 2 ^ k < 2 ^ F * s
        go (yes a) =
            let e : 2 ^ F * s ≡ 2 ^ (F - k) * 2 ^ k * s = ap (λ (x : ℕ). x * s) (pow_split F k a) in
            omega (arith, mul-le-mul_right (2 ^ k) h, mul-pos p (pow_pos k))
        go (no a) = rw (none (omega arith)) (omega (arith, mul-pos (pow_pos F) p))

    half_part : 2 * d ≤ 2 ^ (F - k) * s → d * 2 ^ (k + 1) ≤ 2 ^ F * s
    half_part j = go (dec_le k F)
      where
        go : Dec (k ≤ F) → d * 2 ^ (k + 1) ≤ 2 ^ F * s
        go (yes a) =
            let e : 2 ^ F * s ≡ 2 ^ (F - k) * 2 ^ k * s = ap (λ (x : ℕ). x * s) (pow_split F k a) in
            let f : d * 2 ^ (k + 1) ≡ d * (2 ^ k * 2) = ap (λ (x : ℕ). d * x) (pow-add 2 k 1) in
            omega (arith, mul-le-mul_right (2 ^ k) j)
        go (no a) = rw (none (omega arith)) (omega arith)

  -- what stands above S comes on top of 2 ^ F spacings
  rest_size : (t m : ℕ) → t ≤ F → 2 ^ F ≤ m → 2 ^ F * spacing F m + m % 2 ^ t * spacing F m ≤ size F m
  unfolding spacing shaved
  rest_size t m h n =
      let l : 2 ^ F ≤ m / 2 ^ t * 2 ^ t = omega (arith, pow_split F t h, mul-le-mul_right (2 ^ t) ((le-div_iff_mul-le {k = 2 ^ t} {x = 2 ^ (F - t)} {y = m} (pow_pos t)).1 (omega (arith, pow_split F t h)))) in
      let s : spacing_exp F (m / 2 ^ t * 2 ^ t) ≡ spacing_exp F m = same_spacing F (m / 2 ^ t * 2 ^ t) m t h (mul-div_cancel (m / 2 ^ t) (pow_pos t)) in
      omega (arith, shaved_size F t m h, rw s at (normal_size (m / 2 ^ t * 2 ^ t) l))

  -- a magnitude without a tail is its own nearest one
  round_still : (t m : ℕ) → m % 2 ^ t ≡ 0 → rounded t m ≡ m
  unfolding rounded
  round_still t m z =
      ap (λ (x : ℕ). x * 2 ^ t) (nearest_down m (2 ^ t) (rw z (pow_pos t))) ∙ omega (arith, div-add-mod' m (2 ^ t))

  round_part : (k m : ℕ) → 2 ^ F ≤ m → distance (size F m) (size F (rounded (F - k) m)) * 2 ^ (k + 1) < size F m
  round_part k m n = go (ℕ_discrete (m % 2 ^ (F - k)) 0)
    where
      d : ℕ
      d = distance (size F m) (size F (rounded (F - k) m))

      steps : (2 * d ≤ 2 ^ (F - k) * spacing F m) × (d + spacing F m ≤ 2 ^ (F - k) * spacing F m)
      steps = round_step F (F - k) m (sub-le F k)

      go : Dec (m % 2 ^ (F - k) ≡ 0) → d * 2 ^ (k + 1) < size F m
      go (yes z) = rw (round_still (F - k) m z, distance_self (size F m)) (omega (arith, some_size m n))
      go (no z) =
          let r : 1 ≤ m % 2 ^ (F - k) = omega arith in
          omega (arith, half_part k d (spacing F m) steps.1 steps.0, rest_size (F - k) m (sub-le F k) n, mul-le-mul_right (spacing F m) r, spacing_some m)

rounded_next : (t m : ℕ) → rounded t m ≤ shaved t m + 2 ^ t
unfolding rounded shaved
rounded_next t m = omega (arith, mul-le-mul_right (2 ^ t) (nearest_floor m (2 ^ t) (pow_pos t)).1)

module _ (F X : ℕ) where
  -- Where round clips, the reading lies in the last tail below a power of two: j spacings below it, and g - j above S.
  clipped_part : (k m : ℕ) → 2 ^ F ≤ m → m < infinity F X → infinity F X ≤ rounded (F - k) m → distance (size F m) (size F (shaved (F - k) m)) * 2 ^ (k + 1) < size F m
  unfolding infinity distance spacing
  clipped_part k m n f c = go (grid F m (F - k) (sub-le F k)) (dec_le k F)
    where
      g : ℕ
      g = 2 ^ (F - k)

      e : ℕ
      e = spacing_exp F m

      r : ℕ
      r = m % g

      less : r < g
      less = mod-lt m (pow_pos (F - k))

      up : rounded (F - k) m ≤ shaved (F - k) m + g
      up = rounded_next (F - k) m

      above : (b : Grid F m (F - k)) → (e ≡ 0) ⊎ (2 ^ F ≤ b.whole * g) → suc e * 2 ^ F ≤ m
      above b (inl z) = rw z (omega (arith, n))
      above b (inr l) = omega (arith, b.is)

      -- the tail ends at the power of two
      ends : (b : Grid F m (F - k)) → suc b.whole * g ≡ 2 * 2 ^ F
      ends b =
          let l : suc e < 2 ^ X - 1 = lt_of_mul-lt-mul_right (2 ^ F) (omega (arith, above b b.low)) in
          omega (arith, b.top, mul-le-mul_right (2 ^ F) l, up, shaved_is F m (F - k) (sub-le F k) b)

      core : (b : Grid F m (F - k)) → k ≤ F → r * (2 * 2 ^ k) < b.whole * g + r
      core b a =
          let j : ℕ = g - r in
          let split : g * 2 ^ k ≡ (r + j) * 2 ^ k = ap (λ (x : ℕ). x * 2 ^ k) (let z : g ≡ r + j = omega (arith, less) in z) in
          omega (arith, less, ends b, pow_split F k a, le-mul_of_pos_right j (pow_pos k))

      go : Grid F m (F - k) → Dec (k ≤ F) → distance (size F m) (size F (shaved (F - k) m)) * 2 ^ (k + 1) < size F m
      go b (yes a) =
          let low : size F (shaved (F - k) m) ≡ b.whole * g * 2 ^ e = rw (shaved_is F m (F - k) (sub-le F k) b) (size_at F e (b.whole * g) b.low (omega (arith, b.top))) in
          let d : distance (size F m) (size F (shaved (F - k) m)) ≡ r * 2 ^ e = omega (arith, shaved_size F (F - k) m (sub-le F k)) in
          let f : r * 2 ^ e * 2 ^ (k + 1) ≡ r * 2 ^ e * (2 ^ k * 2) = ap (λ (x : ℕ). r * 2 ^ e * x) (pow-add 2 k 1) in
          rw d (omega (arith, low, shaved_size F (F - k) m (sub-le F k), mul-lt-mul_of_pos_right (core b a) (pow_pos e)))
      go b (no a) =
          let z : F - k ≡ 0 = omega arith in
          let o : r ≡ 0 = omega (arith, less, ap (λ (x : ℕ). 2 ^ x) z) in
          let d : distance (size F m) (size F (shaved (F - k) m)) ≡ 0 = omega (arith, shaved_size F (F - k) m (sub-le F k), ap (λ (x : ℕ). x * 2 ^ e) o) in
          rw d (omega (arith, some_size F m n))

  pub round_relative : (k turn m : ℕ) → 2 ^ F ≤ m → m < infinity F X → distance (size F m) (size F (new_magnitude F X (round k) turn m)) * 2 ^ (k + 1) < size F m
  round_relative k turn m n f = go (dec_lt (rounded (F - k) m) (infinity F X))
    where
      go : Dec (rounded (F - k) m < infinity F X) → distance (size F m) (size F (new_magnitude F X (round k) turn m)) * 2 ^ (k + 1) < size F m
      go (yes c) = rw (round_within F X k turn m c) (round_part F k m n)
      go (no c) = rw (round_clipped F X k turn m (omega arith)) (clipped_part k m n f (omega arith))

  pub relative_bounds : RelativeBounds F X
  unfolding unit
  relative_bounds =
      record {
        tail_relative = λ c k mark turn w n.
            lt_of_lt_of_le
            (whole_part F k (moved F X (tail c k) mark turn w) (spacing F (magnitude F X w)) ((unit_bounds F X).tail_moves c k mark turn w)
            (spacing_some F (magnitude F X w)))
            (normal_size F (magnitude F X w) n);
        halfshave_relative = λ k mark turn w n.
            let l : moved F X (tail halfshave k) mark turn w * 2 ^ (k + 1) ≤ 2 ^ F * spacing F (magnitude F X w) =
            half_part F k (moved F X (tail halfshave k) mark turn w) (spacing F (magnitude F X w)) ((unit_bounds F X).tail_moves halfshave k mark turn w) (halfshave_half F X k mark turn w) in
            omega (arith, l, normal_size F (magnitude F X w) n, some_size F (magnitude F X w) n);
        round_relative = λ k mark turn w n.
            moved_has F X (round k) tt turn w mark (λ d. d * 2 ^ (k + 1) < size F (magnitude F X w)) (omega (arith, some_size F (magnitude F X w) n))
            (λ f. round_relative k turn (magnitude F X w) n f);
        unit_part = λ c k w h n.
            let e : 2 ^ (F - k) * spacing F (magnitude F X w) * 2 ^ k ≡ 2 ^ F * spacing F (magnitude F X w) = rw (pow_split F k h) (omega arith) in
            let d : 2 ^ (F - k) * spacing F (magnitude F X w) * 2 ^ (k + 1) ≡ 2 ^ (F - k) * spacing F (magnitude F X w) * (2 ^ k * 2) = ap (λ (x : ℕ). 2 ^ (F - k) * spacing F (magnitude F X w) * x) (pow-add 2 k 1) in
            (omega (arith, normal_size F (magnitude F X w) n), omega (arith, size_below F (magnitude F X w)));
      }
