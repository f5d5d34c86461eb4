-- Method 6 for every width. Where its step is a power of two of at least two spacings, the result is the magnitude half-shaved by a tail; otherwise the magnitude stays.
-- And from bounds to the decade and to the step: a number that lies between two neighbouring powers has just one exponent.
use mathlib.Core.Path.{◌≡◌, refl, sym, ap, ◌∙◌}
use mathlib.Core.Logic.{◌⊎◌, inl, inr}
use Prim.Native.Nat.{ℕ, suc, ◌+◌, ◌*◌, ◌/◌, ◌^◌, ◌≤◌, ◌<◌}
use native.Mathlib.Nat.{le-div_iff_mul-le, div-lt_iff_lt-mul, div-eq_of_lt, div-eq_of_lt-le, div-eq_of_eq-mul_left, mul-le-mul_right, mul-le-mul, mul-lt-mul_of_pos_right, lt_of_mul-lt-mul_right, pow-suc, pow-le-pow_right, le_trans, lt_of_le_of_lt, le_antisymm, not-le_of_lt}
use native.Mathlib.Numerals.{sub-one}
use native.Mathlib.Decide.{dec_le}
use native.Mathlib.Omega.{arith}
use borrow.Author.Tests.{eq-eqb, ne_eqb, lt-ltb, le-ltb}
use lib.Pow.{pow_pos, pow-add, pow_mono}
use Rattle.meaning.specs.Readings.{size, spacing, spacing_exp, infinity, magnitude_of, least_exp}
use Rattle.meaning.specs.Methods.{digits, digit_count, decade, digit_step, digit_size, new_magnitude, shaved, halfshave, halfshaved, tail_changed}
use Rattle.meaning.proofs.Sizes.{size_at}
use Rattle.meaning.proofs.Patterns.{magnitude_of_size}
use Rattle.meaning.proofs.Grid.{Grid, grid, shaved_is}
use Rattle.meaning.proofs.Tails.{tail_changed_agree, agree_finite}
use Rattle.meaning.proofs.Digits.{Digits, digit_count_lem, Decade, decade_rule}

pub ten_pos : (i : ℕ) → 0 < 10 ^ i
ten_pos i = pow-le-pow_right {n = 10} (omega arith) {i = 0} {j = i} (omega arith)

-- ---- one exponent

pub exponent_le : (b : ℕ) → 2 ≤ b → {i j x : ℕ} → b ^ i ≤ x → x < b ^ suc j → i ≤ j
exponent_le b two {i} {j} {x} l h = go (dec_le i j)
  where
    go : Dec (i ≤ j) → i ≤ j
    go (yes k) = k
    go (no k) = absurd (not-le_of_lt h (le_trans (pow-le-pow_right {n = b} (omega arith) {i = suc j} {j = i} (omega arith)) l))

-- a number from b^j to below b^(j + 1) has j + 1 digits
count_is : (b : ℕ) → 2 ≤ b → (n j : ℕ) → 0 < n → b ^ j ≤ n → n < b ^ suc j → digit_count b n ≡ suc j
count_is b two n j p l h = go (digit_count_lem b two n p)
  where
    go : Digits b two n (digit_count b n) → digit_count b n ≡ suc j
    go d =
        let u : n < b ^ suc d.one_less = rw d.is at d.below in
        d.is ∙ ap suc (le_antisymm (exponent_le b two d.least h) (exponent_le b two l u))

module _ (F X : ℕ) where
  abbrev B : ℕ
  B = least_exp F X

  -- the size lies from one power of ten to below the next
  pub decade_is : (m D : ℕ) → 0 < m → 10 ^ D * 2 ^ least_exp F X ≤ size F m * 10 ^ least_exp F X → size F m * 10 ^ least_exp F X < 10 ^ suc D * 2 ^ least_exp F X
      → decade F X m ≡ suc D
  decade_is m D p l h = go (decade_rule F X m p)
    where
      go : Decade F X m (decade F X m) → decade F X m ≡ suc D
      go d =
          let u : size F m * 10 ^ B < 10 ^ suc d.one_less * 2 ^ B = rw d.is at d.under in
          let a : 10 ^ d.one_less < 10 ^ suc D = lt_of_mul-lt-mul_right (2 ^ B) (lt_of_le_of_lt d.reaches h) in
          let b : 10 ^ D < 10 ^ suc d.one_less = lt_of_mul-lt-mul_right (2 ^ B) (lt_of_le_of_lt l u) in
          d.is ∙ ap suc (le_antisymm (exponent_le 10 (omega arith) {x = 10 ^ d.one_less} (omega arith) a) (exponent_le 10 (omega arith) {x = 10 ^ D} (omega arith) b))

  -- ---- the step, by where 10^(d - n) lies

  pub step_none : (n m : ℕ) → 2 ^ least_exp F X * 10 ^ decade F X m < 10 ^ (least_exp F X + n) → digit_step F X n m ≡ 0
  unfolding digit_step
  step_none n m h = rw (eq-eqb (2 ^ B * 10 ^ decade F X m / 10 ^ (B + n)) 0 (div-eq_of_lt h)) refl

  pub step_some : (n m j : ℕ) → 2 ^ j * 10 ^ (least_exp F X + n) ≤ 2 ^ least_exp F X * 10 ^ decade F X m → 2 ^ least_exp F X * 10 ^ decade F X m < 2 ^ suc j * 10 ^ (least_exp F X + n)
      → digit_step F X n m ≡ 2 ^ j
  unfolding digit_step
  step_some n m j l h =
      let low : 2 ^ j ≤ power = (le-div_iff_mul-le (ten_pos (B + n))).1 l in
      let high : power < 2 ^ suc j = (div-lt_iff_lt-mul {k = 10 ^ (B + n)} {x = 2 ^ B * 10 ^ decade F X m} {y = 2 ^ suc j} (ten_pos (B + n))).1 h in
      let e : digit_count 2 power ≡ suc j = count_is 2 (omega arith) power j (omega (arith, pow_pos j)) low high in
      rw (ne_eqb power 0 (λ z. omega (arith, pow_pos j)), e, sub-one) refl
    where
      power : ℕ
      power = 2 ^ B * 10 ^ decade F X m / 10 ^ (B + n)

  -- ---- the result

  module _ (n turn m : ℕ) (p : 0 < m) (h : m < infinity F X) where
    pub stays : digit_step F X n m < 2 * spacing F m → new_magnitude F X (digits n) turn m ≡ m
    unfolding new_magnitude digit_size
    stays l = rw (ne_eqb m 0 (λ z. omega arith), lt-ltb (digit_step F X n m) (2 * spacing F m) l) (magnitude_of_size F X m h)

    -- The step is 2 ^ suc t spacings. With c the spacing's exponent and w whole tails in the significand, the size is (w * 2 ^ suc t + rest) * 2 ^ c and the new one
    -- (w * 2 ^ suc t + 2 ^ t) * 2 ^ c, which is that of the tail's zeros with its top bit one.
    pub moves : (t : ℕ) → suc t ≤ F → digit_step F X n m ≡ 2 ^ suc t * spacing F m → new_magnitude F X (digits n) turn m ≡ halfshaved (suc t) m
    unfolding new_magnitude digit_size halfshaved tail_changed spacing
    moves t f q = rw (ne_eqb m 0 some, q, le-ltb step (2 * 2 ^ c) two) (ap (λ (x : ℕ). magnitude_of F X x) (sym (new_size (grid F m (suc t) f))) ∙ magnitude_of_size F X new finite)
      where
        c : ℕ
        c = spacing_exp F m

        step : ℕ
        step = 2 ^ suc t * 2 ^ c

        new : ℕ
        new = shaved (suc t) m + 2 ^ t

        some : m ≡ 0 → ⊥
        some z = omega arith

        two : 2 * 2 ^ c ≤ step
        two = mul-le-mul_right (2 ^ c) (pow_mono {i = 1} {j = suc t} (omega arith))

        finite : new < infinity F X
        finite = agree_finite F X new m (suc t) f (rw (ne_eqb m 0 some) at (tail_changed_agree halfshave turn (suc t) m)) h

        half : step / 2 ≡ 2 ^ t * 2 ^ c
        half = div-eq_of_eq-mul_left {n = 2} {m = step} {k = 2 ^ t * 2 ^ c} (omega arith) (rw (pow-suc 2 t) (omega arith))

        new_size : Grid F m (suc t) → size F new ≡ size F m / step * step + step / 2
        new_size d =
            let g : 2 ^ suc t ≡ 2 ^ t * 2 = pow-suc 2 t in
            let w : ℕ = d.whole * 2 ^ suc t in
            let top : w + 2 ^ suc t ≤ 2 * 2 ^ F = omega (arith, d.top) in
            let old : size F m ≡ (w + d.rest) * 2 ^ c = ap (λ (x : ℕ). size F x) d.is ∙ size_at F c (w + d.rest) (above d d.rest d.low) (omega (arith, d.less)) in
            let is : new ≡ c * 2 ^ F + (w + 2 ^ t) = rw (shaved_is F m (suc t) f d) (omega arith) in
            let here : size F new ≡ (w + 2 ^ t) * 2 ^ c = ap (λ (x : ℕ). size F x) is ∙ size_at F c (w + 2 ^ t) (above d (2 ^ t) d.low) (omega arith) in
            let under : (w + d.rest) * 2 ^ c < (w + 2 ^ suc t) * 2 ^ c = mul-lt-mul_of_pos_right (omega (arith, d.less)) (pow_pos c) in
            let e : size F m / step ≡ d.whole = div-eq_of_lt-le {k = d.whole} step {m = size F m} (rw old (omega arith)) (rw old (omega arith)) in
            rw (here, e, half) (omega arith)
          where
            above : (d : Grid F m (suc t)) (r : ℕ) → (c ≡ 0) ⊎ (2 ^ F ≤ d.whole * 2 ^ suc t) → (c ≡ 0) ⊎ (2 ^ F ≤ d.whole * 2 ^ suc t + r)
            above d r (inl z) = inl z
            above d r (inr l) = inr (omega arith)

-- ---- two widths, of which the second has the finer least spacing, by k halvings

pub decade_finer : (F X E Y k m w : ℕ) → least_exp F X + k ≡ least_exp E Y → size E w ≡ size F m * 2 ^ k → 0 < m → 0 < w → decade E Y w ≡ decade F X m + k
decade_finer F X E Y k m w base same p q = go (decade_rule F X m p)
  where
    a : ℕ
    a = least_exp F X

    two : 2 ^ least_exp E Y ≡ 2 ^ a * 2 ^ k
    two = ap (λ (x : ℕ). 2 ^ x) (sym base) ∙ pow-add 2 a k

    ten : 10 ^ least_exp E Y ≡ 10 ^ a * 10 ^ k
    ten = ap (λ (x : ℕ). 10 ^ x) (sym base) ∙ pow-add 10 a k

    some : 0 < 2 ^ k * 10 ^ k
    some = mul-le-mul {n₁ = 1} {m₁ = 1} (pow_pos k) (ten_pos k)

    go : Decade F X m (decade F X m) → decade E Y w ≡ decade F X m + k
    go d =
        let o : ℕ = d.one_less in
        let l : 10 ^ o * 2 ^ a * (2 ^ k * 10 ^ k) ≤ size F m * 10 ^ a * (2 ^ k * 10 ^ k) = mul-le-mul_right (2 ^ k * 10 ^ k) d.reaches in
        let u : size F m * 10 ^ a < 10 ^ suc o * 2 ^ a = rw d.is at d.under in
        let h : size F m * 10 ^ a * (2 ^ k * 10 ^ k) < 10 ^ suc o * 2 ^ a * (2 ^ k * 10 ^ k) = mul-lt-mul_of_pos_right u some in
        let e : suc (o + k) ≡ suc o + k = omega arith in
        decade_is E Y w (o + k) q (rw (two, ten, same, pow-add 10 o k) (omega arith)) (rw (two, ten, same, e, pow-add 10 (suc o) k) (omega arith))
        ∙ omega (arith, d.is)
