-- Patterns and magnitudes of a width: a sign and a magnitude make a pattern and come back from it, and sizes lead back to magnitudes.
use mathlib.Core.Path.{◌≡◌, refl, sym, ◌∙◌}
use mathlib.Core.Logic.{◌≢◌}
use mathlib.Core.Bool.{true}
use Prim.Native.Nat.{ℕ, suc, ◌+◌, ◌-◌, ◌*◌, ◌^◌, ◌≤◌, ◌<◌}
use native.Mathlib.Nat.{div-add-mod', div-lt_iff_lt-mul, mul-div_cancel, mul-le-mul_right, mul-le-mul_left, mul-lt-mul_of_pos_right, not-le_of_lt, le_of_lt}
use native.Mathlib.Decide.{dec_lt, ℕ_discrete}
use native.Mathlib.Omega.{arith}
use borrow.Author.Tests.{ltb-true, lt-ltb, eq-eqb, ne_eqb}
use lib.Pow.{pow_pos, pow-add, pow_mono, high, low}
use Rattle.meaning.specs.Readings.{exponent_field, spacing_exp, size, encode, sign, magnitude, pattern, infinity, finite, magnitude_of, origin, position, distance}
use Rattle.meaning.proofs.Sizes.{Form, form, size_form, size_le, size_mono, encode_mono, encode_size, encode_floor}

module _ (F X : ℕ) where
  pub infinity_fits : {m : ℕ} → m < infinity F X → m < 2 ^ (F + X)
  unfolding infinity
  infinity_fits {m} h = omega (arith, h, pow-add 2 F X, mul-le-mul_right {m = 2 ^ X - 1} {n = 2 ^ X} (2 ^ F) (omega arith))

  pub magnitude_pattern : (s m : ℕ) → m < infinity F X → magnitude F X (pattern F X s m) ≡ m
  unfolding magnitude pattern
  magnitude_pattern s m h = low s (F + X) (infinity_fits h)

  pub sign_pattern : (s m : ℕ) → m < infinity F X → sign F X (pattern F X s m) ≡ s
  unfolding sign pattern
  sign_pattern s m h = high s (F + X) (infinity_fits h)

  pub pattern_back : (w : ℕ) → pattern F X (sign F X w) (magnitude F X w) ≡ w
  unfolding pattern sign magnitude
  pattern_back w = div-add-mod' w (2 ^ (F + X))

  -- a pattern of the width has the sign 0 or 1, and so has what is made of it
  pub sign_one : (w : ℕ) → w < 2 ^ suc (F + X) → sign F X w ≤ 1
  unfolding sign
  sign_one w h = omega (arith, (div-lt_iff_lt-mul {k = 2 ^ (F + X)} {x = w} {y = 2} (pow_pos (F + X))).1 (omega (arith, h)))

  pub pattern_fits : (s m : ℕ) → s ≤ 1 → m < infinity F X → pattern F X s m < 2 ^ suc (F + X)
  unfolding pattern
  pattern_fits s m h l = omega (arith, infinity_fits l, mul-le-mul_right {m = s} {n = 1} (2 ^ (F + X)) h)

  -- ---- from sizes back to magnitudes

  pub exponent_room : (m : ℕ) → m < infinity F X → spacing_exp F m < 2 ^ X
  unfolding infinity spacing_exp exponent_field
  exponent_room m h = omega (arith, pow_pos X, (div-lt_iff_lt-mul {k = 2 ^ F} {x = m} {y = 2 ^ X - 1} (pow_pos F)).1 h)

  pub magnitude_of_size : (m : ℕ) → m < infinity F X → magnitude_of F X (size F m) ≡ m
  unfolding magnitude_of
  magnitude_of_size m h = encode_size F (2 ^ X) m (le_of_lt (exponent_room m h))

  pub magnitude_of_mono : (a b : ℕ) → a ≤ b → magnitude_of F X a ≤ magnitude_of F X b
  unfolding magnitude_of
  magnitude_of_mono a b h = encode_mono F (2 ^ X) a b h

  infinity_exponent : spacing_exp F (infinity F X) ≤ 2 ^ X
  unfolding infinity spacing_exp exponent_field
  infinity_exponent = rw (mul-div_cancel (2 ^ X - 1) (pow_pos F)) (omega (arith, pow_pos X))

  -- the largest magnitude whose size is at most n
  pub magnitude_of_floor : (n : ℕ) → n < size F (infinity F X) → (size F (magnitude_of F X n) ≤ n) × (n < size F (suc (magnitude_of F X n)))
  unfolding magnitude_of
  magnitude_of_floor n h = go (form F (infinity F X))
    where
      go : Form F (infinity F X) → (size F (encode F (2 ^ X) n) ≤ n) × (n < size F (suc (encode F (2 ^ X) n)))
      go f =
          let a : f.sig * 2 ^ spacing_exp F (infinity F X) < 2 * 2 ^ F * 2 ^ spacing_exp F (infinity F X) = mul-lt-mul_of_pos_right f.below (pow_pos (spacing_exp F (infinity F X))) in
          let b : 2 * 2 ^ F * 2 ^ spacing_exp F (infinity F X) ≤ 2 * 2 ^ F * 2 ^ (2 ^ X) = mul-le-mul_left (2 * 2 ^ F) (pow_mono infinity_exponent) in
          encode_floor F (2 ^ X) n (omega (arith, size_form F (infinity F X) f, a, b))

  pub magnitude_of_below : (n : ℕ) → n < size F (infinity F X) → magnitude_of F X n < infinity F X
  magnitude_of_below n h = go (dec_lt (magnitude_of F X n) (infinity F X))
    where
      go : Dec (magnitude_of F X n < infinity F X) → magnitude_of F X n < infinity F X
      go (yes l) = l
      go (no l) = absurd (not-le_of_lt h (omega (arith, magnitude_of_floor n h, size_le F {m = infinity F X} {n = magnitude_of F X n} (omega arith))))

  -- ---- finite, as a test and as an order

  pub finite_below : (w : ℕ) → finite F X w ≡ true → magnitude F X w < infinity F X
  unfolding finite
  finite_below w e = ltb-true (magnitude F X w) (infinity F X) e

  pub below_finite : (w : ℕ) → magnitude F X w < infinity F X → finite F X w ≡ true
  unfolding finite
  below_finite w h = lt-ltb (magnitude F X w) (infinity F X) h

  -- ---- positions

  pub size_below : {m : ℕ} → m < infinity F X → size F m < origin F X
  unfolding origin
  size_below h = size_mono F h

  pub position_plus : (w : ℕ) → sign F X w ≡ 0 → position F X w ≡ origin F X + size F (magnitude F X w)
  unfolding position
  position_plus w e = rw (eq-eqb (sign F X w) 0 e) refl

  pub position_minus : (w : ℕ) → sign F X w ≢ 0 → position F X w ≡ origin F X - size F (magnitude F X w)
  unfolding position
  position_minus w e = rw (ne_eqb (sign F X w) 0 e) refl

  -- with one sign, readings lie as far apart as their sizes do
  pub position_distance : (v w : ℕ) → magnitude F X v < infinity F X → magnitude F X w < infinity F X → sign F X w ≡ sign F X v
      → distance (position F X v) (position F X w) ≡ distance (size F (magnitude F X v)) (size F (magnitude F X w))
  unfolding distance
  position_distance v w f g e = go (ℕ_discrete (sign F X v) 0)
    where
      go : Dec (sign F X v ≡ 0) → distance (position F X v) (position F X w) ≡ distance (size F (magnitude F X v)) (size F (magnitude F X w))
      go (yes z) = rw (position_plus v z, position_plus w (e ∙ z)) (omega arith)
      go (no z) = rw (position_minus v z, position_minus w (λ y. z (sym e ∙ y))) (omega (arith, size_below f, size_below g))
