-- Method 6: the decade is the one that document 01 names, the step is at most the size, and so the result never leaves the binade upwards.
use mathlib.Core.Path.{◌≡◌, refl, sym, ◌∙◌}
use mathlib.Core.Logic.{inr}
use Prim.Native.Nat.{ℕ, zero, suc, ◌+◌, ◌-◌, ◌*◌, ◌/◌, ◌^◌, ◌≤◌, ◌<◌}
use native.Mathlib.Nat.{div-add-mod', div-lt_iff_lt-mul, le-div_iff_mul-le, div-lt_self, div-mul-le_self, mod-lt, mul-le-mul_right, mul-le-mul_left, mul-le-mul, pow-suc, pow-zero, pos_of_ne-zero, pow-le-pow_left, pow-le-pow_right, le_trans, le_refl, div-le_of_le-mul}
use native.Mathlib.Decide.{dec_lt, ℕ_discrete}
use native.Mathlib.Omega.{arith}
use borrow.Author.Tests.{eq-eqb, ne_eqb, lt-ltb, le-ltb}
use lib.Pow.{pow_pos, pow-add}
use Rattle.meaning.specs.Readings.{size, spacing, infinity, magnitude_of, least_exp}
use Rattle.meaning.specs.Methods.{digits, digits_from, digit_count, decade, digit_step, digit_size, new_magnitude}
use Rattle.meaning.proofs.Powers.{pow_split, pow_le}
use Rattle.meaning.proofs.Sizes.{size_at, size_mono, size_le}
use Rattle.meaning.proofs.Patterns.{magnitude_of_size, magnitude_of_below}

-- ---- digits to the base b

module _ (b : ℕ) (two : 2 ≤ b) where
  from_below : (f n : ℕ) → n ≤ f → n < b ^ digits_from b f n
  unfolding digits_from
  from_below zero n h = omega (arith, pow-zero b)
  from_below (suc f) n h = go (ℕ_discrete n 0) (from_below f (n / b))
    where
      go : Dec (n ≡ 0) → (n / b ≤ f → n / b < b ^ digits_from b f (n / b)) → n < b ^ digits_from b (suc f) n
      go (yes z) ih = rw (eq-eqb n 0 z) (omega (arith, pow-zero b))
      go (no z) ih =
          let s : n / b < n = div-lt_self (omega arith) two in
          rw (ne_eqb n 0 z, pow-suc b (digits_from b f (n / b))) ((div-lt_iff_lt-mul {k = b} {x = n} {y = b ^ digits_from b f (n / b)} (omega arith)).0 (ih (omega arith)))

  -- n has suc d digits
  pub record Digits (n D : ℕ) : Type 0 where
    pub one_less : ℕ
    pub is : D ≡ suc one_less
    pub least : b ^ one_less ≤ n
    pub below : n < b ^ D

  from_least : (f n : ℕ) → n ≤ f → 0 < n → (d : ℕ) × (digits_from b f n ≡ suc d) × (b ^ d ≤ n)
  unfolding digits_from
  from_least zero n h p = absurd (omega arith)
  from_least (suc f) n h p = rw (ne_eqb n 0 (omega arith)) (go (ℕ_discrete (n / b) 0) (from_least f (n / b)))
    where
      more : ℕ
      more = digits_from b f (n / b)

      none : n / b ≡ 0 → (f : ℕ) → digits_from b f (n / b) ≡ 0
      none z zero = refl
      none z (suc f) = rw (eq-eqb (n / b) 0 z) refl

      go : Dec (n / b ≡ 0) → (n / b ≤ f → 0 < n / b → (d : ℕ) × (more ≡ suc d) × (b ^ d ≤ n / b)) → (d : ℕ) × (suc more ≡ suc d) × (b ^ d ≤ n)
      go (yes z) ih = (more, refl, rw (none z f, pow-zero b) p)
      go (no z) ih =
          let r = ih (omega (arith, div-lt_self p two)) (pos_of_ne-zero z) in
          (more, refl, rw (r.1, pow-suc b r.0) (le_trans (mul-le-mul_right b r.2) (div-mul-le_self n b)))

  pub digit_count_lem : (n : ℕ) → 0 < n → Digits n (digit_count b n)
  unfolding digit_count
  digit_count_lem n p =
      let r = from_least n n (le_refl n) p in
      record { one_less = r.0; is = r.1; least = r.2; below = from_below n n (le_refl n) }

module _ (F X : ℕ) where
  abbrev B : ℕ
  B = least_exp F X

  -- "the whole number with 10^(d-1) ≤ size < 10^d", where d + least_exp is the decade, and the size is counted in 2^-least_exp
  pub record Decade (m D : ℕ) : Type 0 where
    pub one_less : ℕ
    pub is : D ≡ suc one_less
    pub reaches : 10 ^ one_less * 2 ^ least_exp F X ≤ size F m * 10 ^ least_exp F X
    pub under : size F m * 10 ^ least_exp F X < 10 ^ D * 2 ^ least_exp F X

  pub decade_rule : (m : ℕ) → 0 < m → Decade m (decade F X m)
  unfolding decade
  decade_rule m p = go (digit_count_lem 10 (omega arith) scaled some)
    where
      scaled : ℕ
      scaled = size F m * 10 ^ B / 2 ^ B

      some : 0 < scaled
      some =
          (le-div_iff_mul-le (pow_pos B)).1
          (let a : 1 * 2 ^ B ≤ size F m * 10 ^ B = mul-le-mul (omega (arith, size_mono F p)) (pow-le-pow_left {n = 2} {m = 10} (omega arith) B) in a)

      go : Digits 10 (omega arith) scaled (digit_count 10 scaled) → Decade m (digit_count 10 scaled)
      go d =
          record {
            one_less = d.one_less;
            is = d.is;
            reaches = (le-div_iff_mul-le (pow_pos B)).0 d.least;
            under = (div-lt_iff_lt-mul {k = 2 ^ B} {x = size F m * 10 ^ B} {y = 10 ^ digit_count 10 scaled} (pow_pos B)).0 d.below;
          }

  -- 10^(d-n) is at most the size
  power_le : (n m : ℕ) → 1 ≤ n → 0 < m → 2 ^ B * 10 ^ decade F X m / 10 ^ (B + n) ≤ size F m
  power_le n m h p = div-le_of_le-mul (10 ^ (B + n)) (go (decade_rule m p))
    where
      ten : 10 ≤ 10 ^ n
      ten = pow-le-pow_right {n = 10} (omega arith) {i = 1} {j = n} h

      go : Decade m (decade F X m) → 2 ^ B * 10 ^ decade F X m ≤ 10 ^ (B + n) * size F m
      go d =
          rw (d.is, pow-suc 10 d.one_less, pow-add 10 B n)
          (omega (arith, mul-le-mul_right 10 d.reaches, mul-le-mul_left (size F m * 10 ^ B) ten))

  -- the step is 0, or a power of two that is at most the size
  data Step (m : ℕ) : ℕ → Type 0 where
    none : Step m 0
    some : (j : ℕ) → 2 ^ j ≤ size F m → Step m (2 ^ j)

  step : (n m : ℕ) → 1 ≤ n → 0 < m → Step m (digit_step F X n m)
  unfolding digit_step
  step n m h p = go (ℕ_discrete power 0)
    where
      power : ℕ
      power = 2 ^ B * 10 ^ decade F X m / 10 ^ (B + n)

      go : Dec (power ≡ 0) → Step m (digit_step F X n m)
      go (yes z) = rw (eq-eqb power 0 z) none
      go (no z) =
          let d = digit_count_lem 2 (omega arith) power (pos_of_ne-zero z) in
          let e : digit_count 2 power - 1 ≡ d.one_less = omega (arith, d.is) in
          rw (ne_eqb power 0 z, e) (some d.one_less (le_trans d.least (power_le n m h p)))

  -- The next power of two above the size is a multiple of the step, so the result stays below it.
  size_stays : (j m : ℕ) → 2 ^ j ≤ size F m → m < infinity F X → size F m / 2 ^ j * 2 ^ j + 2 ^ j / 2 < size F (infinity F X)
  unfolding infinity
  size_stays j m l h = go
    where
      e : ℕ
      e = m / 2 ^ F

      top : size F (e * 2 ^ F + 2 ^ F) ≡ 2 ^ (F + e)
      top = size_at F e (2 ^ F) (inr (le_refl (2 ^ F))) (omega arith) ∙ sym (pow-add 2 F e)

      under : size F m < 2 ^ (F + e)
      under = rw top at (size_mono F {m = m} {n = e * 2 ^ F + 2 ^ F} (omega (arith, div-add-mod' m (2 ^ F), mod-lt m (pow_pos F))))

      within : 2 ^ (F + e) ≤ size F (infinity F X)
      within =
          rw top at (size_le F {m = e * 2 ^ F + 2 ^ F} {n = infinity F X}
          (omega (arith, mul-le-mul_right (2 ^ F) ((div-lt_iff_lt-mul {k = 2 ^ F} {x = m} {y = 2 ^ X - 1} (pow_pos F)).1 h))))

      split : 2 ^ (F + e) ≡ 2 ^ (F + e - j) * 2 ^ j
      split = pow_split (F + e) j (pow_le (omega (arith, under)))

      quotient : size F m / 2 ^ j < 2 ^ (F + e - j)
      quotient = (div-lt_iff_lt-mul {k = 2 ^ j} {x = size F m} {y = 2 ^ (F + e - j)} (pow_pos j)).1 (omega (arith, split, under))

      go : size F m / 2 ^ j * 2 ^ j + 2 ^ j / 2 < size F (infinity F X)
      go = omega (arith, within, split, mul-le-mul_right (2 ^ j) quotient, pow_pos j)

  pub digits_below : (n turn m : ℕ) → 1 ≤ n → m < infinity F X → new_magnitude F X (digits n) turn m < infinity F X
  unfolding new_magnitude digit_size
  digits_below n turn m l h = go (ℕ_discrete m 0)
    where
      moved : (q : ℕ) → Step m q → magnitude_of F X (size F m / q * q + q / 2) < infinity F X
      moved q none = magnitude_of_below F X (size F m / 0 * 0 + 0 / 2) (omega (arith, size_mono F h))
      moved q (some j k) = magnitude_of_below F X (size F m / 2 ^ j * 2 ^ j + 2 ^ j / 2) (size_stays j m k h)

      by_step : 0 < m → Dec (digit_step F X n m < 2 * spacing F m) → magnitude_of F X (digit_size F X n m) < infinity F X
      by_step p (yes s) = rw (lt-ltb (digit_step F X n m) (2 * spacing F m) s, magnitude_of_size F X m h) h
      by_step p (no s) = rw (le-ltb (digit_step F X n m) (2 * spacing F m) (omega arith)) (moved (digit_step F X n m) (step n m l p))

      go : Dec (m ≡ 0) → new_magnitude F X (digits n) turn m < infinity F X
      go (yes z) = rw (eq-eqb m 0 z) h
      go (no z) = rw (ne_eqb m 0 z) (by_step (pos_of_ne-zero z) (dec_lt (digit_step F X n m) (2 * spacing F m)))
