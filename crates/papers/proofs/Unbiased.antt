-- The nearest multiple of g to 2a * g - n is 2a * g less the nearest to n: quotients and remainders are mirrored, and one of two mirrored quotients at a tie is odd.
use mathlib.Core.Path.{◌≡◌, sym, ap, ◌∙◌}
use mathlib.Core.Logic.{◌≢◌}
use Prim.Native.Nat.{ℕ, suc, ◌+◌, ◌-◌, ◌*◌, ◌/◌, ◌%◌, ◌^◌, ◌≤◌, ◌<◌}
use native.Mathlib.Nat.{div-add-mod', mod-lt, mul-div_cancel, add-mul, lt_of_mul-lt-mul_right, le_of_mul-le-mul_right}
use native.Mathlib.Decide.{dec_lt, ℕ_discrete}
use native.Mathlib.Omega.{arith}
use lib.Arith.{digits_div, digits_mod}
use lib.Pow.{pow_pos}
use Rattle.meaning.specs.Methods.{nearest, rounded}
use Rattle.meaning.proofs.Nearest.{nearest_down, nearest_up, nearest_tie}
use Rattle.papers.specs.Unbiased.{Unbiased}

-- ---- the nearest by quotient and remainder

module _ (q r g : ℕ) (l : r < g) where
  below : 2 * r < g → nearest (q * g + r) g ≡ q
  below h = nearest_down (q * g + r) g (rw (digits_mod q l) h) ∙ digits_div q l

  above : g < 2 * r → nearest (q * g + r) g ≡ q + 1
  above h = nearest_up (q * g + r) g (rw (digits_mod q l) h) ∙ ap (λ (x : ℕ). x + 1) (digits_div q l)

  tied : g ≡ 2 * r → nearest (q * g + r) g ≡ q + q % 2
  tied h = nearest_tie (q * g + r) g (rw (digits_mod q l) h) ∙ ap (λ (x : ℕ). x + x % 2) (digits_div q l)

nearest_mirror : (a n g : ℕ) → 0 < g → n ≤ 2 * a * g → nearest (2 * a * g - n) g + nearest n g ≡ 2 * a
nearest_mirror a n g p h = go (ℕ_discrete (n % g) 0) (dec_lt (2 * (n % g)) g) (dec_lt g (2 * (n % g)))
  where
    q : ℕ
    q = n / g

    r : ℕ
    r = n % g

    is : q * g + r ≡ n
    is = div-add-mod' n g

    less : r < g
    less = mod-lt n p

    -- on the grid
    whole : r ≡ 0 → (b : ℕ) → 2 * a ≡ b + q → nearest (2 * a * g - n) g + nearest n g ≡ 2 * a
    whole z b e =
        let m : 2 * a * g - n ≡ b * g + 0 = omega (arith, is, ap (λ (x : ℕ). x * g) e) in
        rw (m, below b 0 g p p, nearest_down n g (rw z p)) (sym e)

    -- between two of its points
    mirrored : (b : ℕ) → 2 * a ≡ b + suc q → 2 * a * g - n ≡ b * g + (g - r)
    mirrored b e = omega (arith, is, less, ap (λ (x : ℕ). x * g) e)

    between : r ≢ 0 → Dec (2 * r < g) → Dec (g < 2 * r) → (b : ℕ) → 2 * a ≡ b + suc q → nearest (2 * a * g - n) g + nearest n g ≡ 2 * a
    between z (yes x) y b e = rw (mirrored b e, above b (g - r) g (omega (arith, less)) (omega (arith, less)), nearest_down n g x) (omega arith)
    between z (no x) (yes y) b e = rw (mirrored b e, below b (g - r) g (omega (arith, less)) (omega (arith, less)), nearest_up n g y) (omega arith)
    between z (no x) (no y) b e =
        rw (mirrored b e, tied b (g - r) g (omega (arith, less)) (omega (arith, less)), nearest_tie n g (omega arith)) (omega arith)

    go : Dec (r ≡ 0) → Dec (2 * r < g) → Dec (g < 2 * r) → nearest (2 * a * g - n) g + nearest n g ≡ 2 * a
    go (yes z) x y = whole z (2 * a - q) (omega (arith, le_of_mul-le-mul_right {m = q} {n = 2 * a} {k = g} (omega (arith, is)) p))
    go (no z) x y = between z x y (2 * a - suc q) (omega (arith, lt_of_mul-lt-mul_right g {m = q} {n = 2 * a} (omega (arith, is))))

pub unbiased : Unbiased
unfolding rounded
unbiased =
    record {
      tie_even = λ t m h. rw (nearest_tie m (2 ^ t) (sym h), mul-div_cancel (m / 2 ^ t + m / 2 ^ t % 2) (pow_pos t)) (omega arith);
      mirror = λ t a m h.
          sym (add-mul (nearest (2 * a * 2 ^ t - m) (2 ^ t)) (nearest m (2 ^ t)) (2 ^ t)) ∙ ap (λ (x : ℕ). x * 2 ^ t) (nearest_mirror a m (2 ^ t) (pow_pos t) h);
    }
