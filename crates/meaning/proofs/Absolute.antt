-- Method 5 gives exactly the size that document 01 names: the nearest multiple of 2^p, or the largest finite one where that passes the largest finite value. By three
-- cases on the unit beside the spacing, none of which is wider than a pattern: the reading stays, moves within its closed binade, or vanishes.
use mathlib.Core.Path.{◌≡◌, refl, sym, ap, ◌∙◌}
use mathlib.Core.Logic.{◌⊎◌, inl, inr}
use mathlib.Core.Bool.{Bool, true, false, cond}
use Prim.Native.Nat.{ℕ, zero, suc, max, ◌+◌, ◌-◌, ◌*◌, ◌/◌, ◌^◌, ◌≤◌, ◌<◌, zero-le}
use native.Mathlib.Nat.{le-div_iff_mul-le, div-lt_iff_lt-mul, div-mul-le_self, mul-le-mul_right, mul_assoc, div-eq_of_lt-le, div-eq_of_lt, mod-eq_of_lt, le_refl, le_of_lt, le_trans, zero-mul, one-mul}
use native.Mathlib.Decide.{dec_le, dec_lt, ℕ_discrete}
use native.Mathlib.Omega.{arith}
use borrow.Author.Tests.{lt-ltb, le-ltb, ne_eqb}
use lib.Dec.{ltb, eqb}
use lib.Pow.{pow_pos, pow_mono}
use Rattle.meaning.specs.Readings.{exponent_field, spacing_exp, size, infinity, largest, magnitude_of}
use Rattle.meaning.specs.Methods.{absolute, nearest, multiple, absolute_size, new_magnitude}
use Rattle.meaning.proofs.Sizes.{size_small, size_le, size_mono, size_at, size_form, Form, form, encode_size}
use Rattle.meaning.proofs.Patterns.{exponent_room}
use Rattle.meaning.proofs.Nearest.{nearest_down, nearest_between, nearest_floor, nearest_multiple, nearest_scale}
use Rattle.meaning.proofs.Rounding.{cap, absolute_within, absolute_clipped}
use Rattle.meaning.proofs.Powers.{pow_split}

module _ (F X : ℕ) where
  -- the magnitude of the size x * 2 ^ c, for an x in the closed binade
  unfoldable pub point : ℕ → ℕ → ℕ
  point c x = cond (eqb x 0) 0 (c * 2 ^ F + x)

  abbrev pub Fit : ℕ → ℕ → Type 0
  Fit c x = ((x ≡ 0) ⊎ ((c ≡ 0) ⊎ (2 ^ F ≤ x))) × (x ≤ 2 * 2 ^ F)

  point_zero : (c : ℕ) → point c 0 ≡ 0
  unfolding point
  point_zero c = refl

  point_some : (c x : ℕ) → (x ≡ 0 → ⊥) → point c x ≡ c * 2 ^ F + x
  unfolding point
  point_some c x h = rw (ne_eqb x 0 h) refl

  pub size_zero : size F 0 ≡ 0
  size_zero = size_small F 0 (pow_pos F)

  pub point_size : (c x : ℕ) → Fit c x → size F (point c x) ≡ x * 2 ^ c
  point_size c x h = go (ℕ_discrete x 0) h.0
    where
      go : Dec (x ≡ 0) → (x ≡ 0) ⊎ ((c ≡ 0) ⊎ (2 ^ F ≤ x)) → size F (point c x) ≡ x * 2 ^ c
      go (yes z) y = rw (z, point_zero c, size_zero, zero-mul) refl
      go (no z) (inl y) = absurd (z y)
      go (no z) (inr y) = rw (point_some c x z) (size_at F c x y h.1)

  point_exponent : (c x : ℕ) → x ≤ 2 * 2 ^ F → spacing_exp F (point c x) ≤ suc c
  unfolding spacing_exp exponent_field point
  point_exponent c x h = go (eqb x 0)
    where
      go : (b : Bool) → max (cond b 0 (c * 2 ^ F + x) / 2 ^ F) 1 - 1 ≤ suc c
      go true = rw (div-eq_of_lt (pow_pos F)) (omega arith)
      go false = omega (arith, (div-lt_iff_lt-mul {k = 2 ^ F} {x = c * 2 ^ F + x} {y = suc (suc (suc c))} (pow_pos F)).1 (omega (arith, pow_pos F)))

  -- a whole number between the same bounds as the quotient s / g, times g, with g up to 2 ^ (F + 1)
  fit : (c s d y : ℕ) → d ≤ suc F → (c ≡ 0) ⊎ (2 ^ F ≤ s) → s < 2 * 2 ^ F
      → ((a b : ℕ) → a * 2 ^ d ≤ s → s ≤ b * 2 ^ d → (a ≤ y) × (y ≤ b)) → Fit c (y * 2 ^ d)
  fit c s d y l h k bound = go (dec_le d F)
    where
      near : d ≤ F → Fit c (y * 2 ^ d)
      near e = (low h, omega (arith, K, mul-le-mul_right (2 ^ d) (bound 0 (2 * 2 ^ (F - d)) (omega arith) (omega (arith, K))).1))
        where
          K : 2 ^ F ≡ 2 ^ (F - d) * 2 ^ d
          K = pow_split F d e

          low : (c ≡ 0) ⊎ (2 ^ F ≤ s) → (y * 2 ^ d ≡ 0) ⊎ ((c ≡ 0) ⊎ (2 ^ F ≤ y * 2 ^ d))
          low (inl z) = inr (inl z)
          low (inr x) =
              inr (inr (omega (arith, K, mul-le-mul_right (2 ^ d) (bound (2 ^ (F - d)) (2 * 2 ^ (F - d)) (omega (arith, K)) (omega (arith, K))).0)))

      one : (z : ℕ) → y ≡ z → z ≤ 1 → 2 ^ d ≡ 2 * 2 ^ F → Fit c (y * 2 ^ d)
      one zero e x w = rw (e, zero-mul) (inl refl, zero-le)
      one (suc zero) e x w = rw (e, one-mul, w) (inr (inr (omega arith)), le_refl (2 * 2 ^ F))
      one (suc (suc z)) e x w = absurd (omega arith)

      go : Dec (d ≤ F) → Fit c (y * 2 ^ d)
      go (yes e) = near e
      go (no e) =
          let w : 2 ^ d ≡ 2 * 2 ^ F = ap (λ (x : ℕ). 2 ^ x) (let z : d ≡ suc F = omega arith in z) ∙ omega arith in
          one y refl (bound 0 1 (omega arith) (omega arith)).1 w

  -- ---- method 5

  -- v is the magnitude whose size method 5 gives
  pub record Lands (q m v : ℕ) : Type 0 where
    pub is : absolute_size F X q m ≡ size F v
    pub room : spacing_exp F v ≤ 2 ^ X

  pub lands_new : (q turn m v : ℕ) → Lands q m v → new_magnitude F X (absolute q) turn m ≡ v
  unfolding new_magnitude magnitude_of
  lands_new q turn m v l = rw l.is (encode_size F (2 ^ X) v l.room)

  within : (q m r : ℕ) → multiple F q m ≡ r → r ≤ cap F X → absolute_size F X q m ≡ r
  within q m r e h = absolute_within F X q m (rw e h) ∙ e

  beyond : (q m r : ℕ) → multiple F q m ≡ r → cap F X < r → absolute_size F X q m ≡ cap F X / 2 ^ q * 2 ^ q
  beyond q m r e h = absolute_clipped F X q m (rw e h)

  -- the unit is at most the spacing: the reading stays
  pub stays : (q m : ℕ) → m < infinity F X → q ≤ spacing_exp F m → Lands q m m
  unfolding multiple
  stays q m fin h = record { is = within q m (size F m) same (size_le F (omega arith)); room = le_of_lt (exponent_room F X m fin) }
    where
      k : ℕ
      k = (form F m).sig * 2 ^ (spacing_exp F m - q)

      e : size F m ≡ k * 2 ^ q
      e =
          size_form F m (form F m) ∙ ap (λ (x : ℕ). (form F m).sig * x) (pow_split (spacing_exp F m) q h)
          ∙ sym (mul_assoc (form F m).sig (2 ^ (spacing_exp F m - q)) (2 ^ q))

      same : nearest (size F m) (2 ^ q) * 2 ^ q ≡ size F m
      same = rw (e, nearest_multiple k (2 ^ q) (pow_pos q)) refl

  -- otherwise the step is that of a significand of F + 1 bits, by 2 ^ (q - c)
  multiple_is : (q m : ℕ) (f : Form F m) → spacing_exp F m ≤ q
      → multiple F q m ≡ nearest f.sig (2 ^ (q - spacing_exp F m)) * 2 ^ (q - spacing_exp F m) * 2 ^ spacing_exp F m
  unfolding multiple
  multiple_is q m f h =
      rw (size_form F m f, pow_split q (spacing_exp F m) h, nearest_scale f.sig (2 ^ (q - spacing_exp F m)) (2 ^ spacing_exp F m) (pow_pos (q - spacing_exp F m)) (pow_pos (spacing_exp F m)))
      (sym (mul_assoc (nearest f.sig (2 ^ (q - spacing_exp F m))) (2 ^ (q - spacing_exp F m)) (2 ^ spacing_exp F m)))

  -- the unit is more than twice the significand's range: the result is zero
  pub vanishes : (q m : ℕ) → m < infinity F X → suc F < q - spacing_exp F m → Lands q m 0
  vanishes q m fin h =
      record {
        is = within q m 0 (multiple_is q m f (omega arith) ∙ rw (none, zero-mul, zero-mul) refl) zero-le ∙ sym size_zero;
        room = le_of_lt (exponent_room F X 0 (omega arith));
      }
    where
      f : Form F m
      f = form F m

      g : ℕ
      g = 2 ^ (q - spacing_exp F m)

      wide : 2 ^ suc (suc F) ≤ g
      wide = pow_mono h

      none : nearest f.sig g ≡ 0
      none =
          let l : f.sig < g = omega (arith, f.below, wide) in
          nearest_down f.sig g (rw (mod-eq_of_lt l) (omega (arith, f.below, wide))) ∙ div-eq_of_lt l

  -- and between the two: the nearest point of the closed binade, or the one below where that passes the largest finite magnitude
  pub moves : (q m : ℕ) → m < infinity F X → spacing_exp F m ≤ q → q - spacing_exp F m ≤ suc F → (f : Form F m)
      → Lands q m
      (cond (ltb (largest F X) (point (spacing_exp F m) (nearest f.sig (2 ^ (q - spacing_exp F m)) * 2 ^ (q - spacing_exp F m))))
      (point (spacing_exp F m) (f.sig / 2 ^ (q - spacing_exp F m) * 2 ^ (q - spacing_exp F m)))
      (point (spacing_exp F m) (nearest f.sig (2 ^ (q - spacing_exp F m)) * 2 ^ (q - spacing_exp F m))))
  moves q m fin h l f = go (dec_lt (largest F X) (point c x))
    where
      c : ℕ
      c = spacing_exp F m

      d : ℕ
      d = q - spacing_exp F m

      g : ℕ
      g = 2 ^ d

      x : ℕ
      x = nearest f.sig g * g

      y : ℕ
      y = f.sig / g * g

      fit_x : Fit c x
      fit_x = fit c f.sig d (nearest f.sig g) l f.above f.below (λ a b u v. nearest_between a b f.sig g (pow_pos d) u v)

      fit_y : Fit c y
      fit_y =
          fit c f.sig d (f.sig / g) l f.above f.below
          (λ a b u v. ((le-div_iff_mul-le (pow_pos d)).1 u, omega (arith, (div-lt_iff_lt-mul {k = g} {x = f.sig} {y = suc b} (pow_pos d)).1 (omega (arith, pow_pos d)))))

      step : multiple F q m ≡ x * 2 ^ c
      step = multiple_is q m f h

      -- where it clips, the cap F X has the same quotient by the unit as the reading
      quotient : cap F X < x * 2 ^ c → cap F X / 2 ^ q * 2 ^ q ≡ y * 2 ^ c
      quotient k =
          let up : nearest f.sig g ≤ f.sig / g + 1 = (nearest_floor f.sig g (pow_pos d)).1 in
          let a : f.sig / g * (g * 2 ^ c) ≤ cap F X = omega (arith, mul-le-mul_right (2 ^ c) (div-mul-le_self f.sig g), size_form F m f, size_le F {m = m} {n = largest F X} (omega arith)) in
          let b : cap F X < (f.sig / g + 1) * (g * 2 ^ c) = omega (arith, mul-le-mul_right (g * 2 ^ c) up) in
          rw (pow_split q c h, div-eq_of_lt-le (g * 2 ^ c) a b) (sym (mul_assoc (f.sig / g) g (2 ^ c)))

      go : Dec (largest F X < point c x) → Lands q m (cond (ltb (largest F X) (point c x)) (point c y) (point c x))
      go (yes k) =
          let k' : cap F X < x * 2 ^ c = rw (point_size c x fit_x) at (size_mono F k) in
          rw (lt-ltb (largest F X) (point c x) k)
          (record {
            is = beyond q m (x * 2 ^ c) step k' ∙ quotient k' ∙ sym (point_size c y fit_y);
            room = le_trans (point_exponent c y fit_y.1) (exponent_room F X m fin);
          })
      go (no k) =
          let o : point c x ≤ largest F X = omega arith in
          let k' : x * 2 ^ c ≤ cap F X = rw (point_size c x fit_x) at (size_le F o) in
          rw (le-ltb (largest F X) (point c x) o)
          (record {
            is = within q m (x * 2 ^ c) step k' ∙ sym (point_size c x fit_x);
            room = le_trans (point_exponent c x fit_x.1) (exponent_room F X m fin);
          })

  pub lands : (q m : ℕ) → m < infinity F X → (v : ℕ) × Lands q m v
  lands q m fin = go (dec_le q (spacing_exp F m)) (dec_le (q - spacing_exp F m) (suc F))
    where
      go : Dec (q ≤ spacing_exp F m) → Dec (q - spacing_exp F m ≤ suc F) → (v : ℕ) × Lands q m v
      go (yes h) x = (m, stays q m fin h)
      go (no h) (yes l) = (_, moves q m fin (omega arith) l (form F m))
      go (no h) (no l) = (0, vanishes q m fin (omega arith))

  -- the size of method 5's result is exactly that value
  pub absolute_exact : (q turn m : ℕ) → m < infinity F X → size F (new_magnitude F X (absolute q) turn m) ≡ absolute_size F X q m
  absolute_exact q turn m fin = let l = lands q m fin in rw (lands_new q turn m l.0 l.1) (sym l.1.is)
