-- Where an exponent e holds the distance of two different values, both sizes are below 2 ^ (e + 41).
use Rattle.std.proofs.Common.{◌≡◌, ℕ, suc, ◌+◌, ◌-◌, ◌*◌, ◌^◌, ◌<◌, ◌≤◌, ◌≢◌, ◌⊎◌, sym, ap, ◌∙◌, inl, inr, mul-le-mul_right, mul_assoc, mul-lt-mul_of_pos_right, arith, pow_pos, pow_mono, pow-add}
use native.Mathlib.Decide.{dec_lt, dec_le, ℕ_discrete}
use Rattle.meaning.specs.Readings.{spacing_exp, size, sign, magnitude, infinity, origin, position}
use Rattle.meaning.proofs.Sizes.{Form, form, size_form}
use Rattle.meaning.proofs.Powers.{pow_split}
use Rattle.meaning.proofs.Rounding.{Mult}
use Rattle.meaning.proofs.Patterns.{size_below, position_plus, position_minus}

-- a size is a multiple of 2 ^ E, or small beside it
coarse : (m E : ℕ) → Mult (2 ^ E) (size 23 m) ⊎ (size 23 m < 2 ^ 23 * 2 ^ E)
coarse m E = go (dec_le E x)
  where
    f : Form 23 m
    f = form 23 m

    x : ℕ
    x = spacing_exp 23 m

    go : Dec (E ≤ x) → Mult (2 ^ E) (size 23 m) ⊎ (size 23 m < 2 ^ 23 * 2 ^ E)
    go (yes l) =
        inl record {
          times = f.sig * 2 ^ (x - E);
          is = size_form 23 m f ∙ ap (λ (y : ℕ). f.sig * y) (pow_split x E l) ∙ sym (mul_assoc f.sig (2 ^ (x - E)) (2 ^ E));
        }
    go (no l) =
        let p : 2 ^ suc x ≤ 2 ^ E = pow_mono {i = suc x} {j = E} (omega arith) in
        let q : f.sig * 2 ^ x < 2 ^ 24 * 2 ^ x = mul-lt-mul_of_pos_right (omega (arith, f.below)) (pow_pos x) in
        inr (omega (arith, size_form 23 m f))

-- a large size lies at least 2 ^ E from every other size
apart_large : (m n E : ℕ) → 2 ^ 24 * 2 ^ E ≤ size 23 m → size 23 m ≢ size 23 n → (size 23 m + 2 ^ E ≤ size 23 n) ⊎ (size 23 n + 2 ^ E ≤ size 23 m)
apart_large m n E h d = go (coarse m E) (coarse n E)
  where
    go : Mult (2 ^ E) (size 23 m) ⊎ (size 23 m < 2 ^ 23 * 2 ^ E) → Mult (2 ^ E) (size 23 n) ⊎ (size 23 n < 2 ^ 23 * 2 ^ E)
        → (size 23 m + 2 ^ E ≤ size 23 n) ⊎ (size 23 n + 2 ^ E ≤ size 23 m)
    go (inr a) b = absurd (omega (arith, pow_pos E))
    go (inl a) (inr b) = inr (omega (arith, pow_pos E))
    go (inl a) (inl b) = tri (dec_lt a.times b.times) (dec_lt b.times a.times)
      where
        tri : Dec (a.times < b.times) → Dec (b.times < a.times) → (size 23 m + 2 ^ E ≤ size 23 n) ⊎ (size 23 n + 2 ^ E ≤ size 23 m)
        tri (yes l) y = inl (omega (arith, a.is, b.is, mul-le-mul_right {m = a.times + 1} {n = b.times} (2 ^ E) (omega arith)))
        tri (no l) (yes k) = inr (omega (arith, a.is, b.is, mul-le-mul_right {m = b.times + 1} {n = a.times} (2 ^ E) (omega arith)))
        tri (no l) (no k) = absurd (d (let e : a.times ≡ b.times = omega arith in a.is ∙ ap (λ (y : ℕ). y * 2 ^ E) e ∙ sym b.is))

module _ (v w e : ℕ) (fv : magnitude 23 8 v < infinity 23 8) (fw : magnitude 23 8 w < infinity 23 8) where
  -- two different values whose distance e holds
  pub two_values : position 23 8 v ≢ position 23 8 w → position 23 8 v ≤ position 23 8 w + 65534 * 2 ^ e → position 23 8 w ≤ position 23 8 v + 65534 * 2 ^ e
      → size 23 (magnitude 23 8 v) < 2 ^ (e + 41)
  two_values d p q = go (dec_lt (size 23 m) (2 ^ (e + 41))) (ℕ_discrete (sign 23 8 v) 0) (ℕ_discrete (sign 23 8 w) 0)
    where
      m : ℕ
      m = magnitude 23 8 v

      n : ℕ
      n = magnitude 23 8 w

      a : size 23 m < origin 23 8
      a = size_below 23 8 fv

      b : size 23 n < origin 23 8
      b = size_below 23 8 fw

      G : ℕ
      G = 2 ^ (e + 17)

      G_is : G ≡ 2 ^ e * 2 ^ 17
      G_is = pow-add 2 e 17

      top : 2 ^ (e + 41) ≡ 2 ^ e * 2 ^ 41
      top = pow-add 2 e 41

      far : ¬ (size 23 m < 2 ^ (e + 41)) → size 23 m ≢ size 23 n → (size 23 m + G ≤ size 23 n) ⊎ (size 23 n + G ≤ size 23 m)
      far l x = apart_large m n (e + 17) (omega (arith, top, G_is)) x

      no_far : (x y : ℕ) → x ≤ y + 65534 * 2 ^ e → y ≤ x + 65534 * 2 ^ e → (x + G ≤ y) ⊎ (y + G ≤ x) → ⊥
      no_far x y s t (inl z) = omega (arith, G_is, pow_pos e)
      no_far x y s t (inr z) = omega (arith, G_is, pow_pos e)

      go : Dec (size 23 m < 2 ^ (e + 41)) → Dec (sign 23 8 v ≡ 0) → Dec (sign 23 8 w ≡ 0) → size 23 m < 2 ^ (e + 41)
      go (yes l) x y = l
      go (no l) (yes x) (yes y) =
          absurd (no_far (size 23 m) (size 23 n) (omega (arith, position_plus 23 8 v x, position_plus 23 8 w y)) (omega (arith, position_plus 23 8 v x, position_plus 23 8 w y))
          (far l (λ z. d (position_plus 23 8 v x ∙ ap (λ (y : ℕ). origin 23 8 + y) z ∙ sym (position_plus 23 8 w y)))))
      go (no l) (no x) (no y) =
          absurd (no_far (size 23 m) (size 23 n) (omega (arith, a, b, position_minus 23 8 v x, position_minus 23 8 w y)) (omega (arith, a, b, position_minus 23 8 v x, position_minus 23 8 w y))
          (far l (λ z. d (position_minus 23 8 v x ∙ ap (λ (y : ℕ). origin 23 8 - y) z ∙ sym (position_minus 23 8 w y)))))
      go (no l) (yes x) (no y) = absurd (omega (arith, a, b, top, pow_pos e, position_plus 23 8 v x, position_minus 23 8 w y))
      go (no l) (no x) (yes y) = absurd (omega (arith, a, b, top, pow_pos e, position_minus 23 8 v x, position_plus 23 8 w y))

-- Every reading of a layer with two different values: l and h are the lowest and the highest.
pub layer_sizes : (l h w e : ℕ) → magnitude 23 8 l < infinity 23 8 → magnitude 23 8 h < infinity 23 8 → magnitude 23 8 w < infinity 23 8
    → position 23 8 l < position 23 8 h → position 23 8 h - position 23 8 l ≤ 65534 * 2 ^ e → position 23 8 l ≤ position 23 8 w → position 23 8 w ≤ position 23 8 h
    → size 23 (magnitude 23 8 w) < 2 ^ (e + 41)
layer_sizes l h w e fl fh fw d s p q = go (ℕ_discrete (position 23 8 w) (position 23 8 l))
  where
    go : Dec (position 23 8 w ≡ position 23 8 l) → size 23 (magnitude 23 8 w) < 2 ^ (e + 41)
    go (no x) = two_values w l e fw fl x (omega arith) (omega arith)
    go (yes x) = two_values w h e fw fh (λ y. omega arith) (omega arith) (omega arith)
