-- The tail that method 6 changes, for every width, by the place of the decade in a table of powers of ten. Sizes are counted in spacings of 2^-(H + G), which are k
-- halvings finer than the width's least spacing, and the place r stands for the decade with r + G digits before the point.
use mathlib.Core.Path.{◌≡◌, refl, sym, ap, ◌∙◌}
use Prim.Native.Nat.{ℕ, zero, suc, ◌+◌, ◌-◌, ◌*◌, ◌^◌, ◌≤◌, ◌<◌}
use native.Mathlib.Nat.{mul-le-mul_right, mul-le-mul_left, mul-le-mul, mul-lt-mul_of_pos_right, lt_of_mul-lt-mul_right, le_of_mul-le-mul_right, pow-suc, pow-le-pow_right, le_trans, lt_of_lt_of_le}
use native.Mathlib.Decide.{dec_le}
use native.Mathlib.Omega.{arith}
use lib.Pow.{pow_pos, pow-add, pow_mono}
use Rattle.meaning.specs.Readings.{size, spacing, spacing_exp, infinity, least_exp}
use Rattle.meaning.specs.Methods.{digits, decade, digit_step, new_magnitude, halfshaved}
use Rattle.meaning.proofs.Powers.{pow_split}
use Rattle.meaning.proofs.Sizes.{Form, form, size_form}
use Rattle.meaning.proofs.Digits.{Decade, decade_rule}
use Rattle.digit_tails.proofs.Digit.{ten_pos, exponent_le, step_none, step_some, stays, moves}

-- equal sums of exponents
sums : (b i j u v : ℕ) → i + j ≡ u + v → b ^ i * b ^ j ≡ b ^ u * b ^ v
sums b i j u v e = sym (pow-add b i j) ∙ ap (λ (x : ℕ). b ^ x) e ∙ pow-add b u v

module _ (F X k H G r n m : ℕ) (base : least_exp F X + k ≡ H + G) (place : decade F X m + k ≡ r + G) where
  abbrev B : ℕ
  B = least_exp F X

  abbrev D : ℕ
  D = decade F X m

  abbrev scale : ℕ
  scale = 2 ^ k * 10 ^ k

  scale_pos : 0 < 2 ^ k * 10 ^ k
  scale_pos = mul-le-mul {n₁ = 1} {m₁ = 1} (pow_pos k) (ten_pos k)

  base_two : 2 ^ least_exp F X * 2 ^ k ≡ 2 ^ (H + G)
  base_two = sym (pow-add 2 B k) ∙ ap (λ (x : ℕ). 2 ^ x) base

  -- a step of a, and the power of ten, both counted in the finer spacings
  left : (a : ℕ) → a * 10 ^ (least_exp F X + n) * (2 ^ k * 10 ^ k) ≡ a * 2 ^ k * 10 ^ H * 10 ^ (n + G)
  left a =
      let e : 10 ^ (B + n) * 10 ^ k ≡ 10 ^ H * 10 ^ (n + G) = sums 10 (B + n) k H (n + G) (omega arith) in
      omega (arith, ap (λ (x : ℕ). a * 2 ^ k * x) e)

  right : (i : ℕ) → i + n ≡ r → 2 ^ least_exp F X * 10 ^ decade F X m * (2 ^ k * 10 ^ k) ≡ 2 ^ (H + G) * 10 ^ i * 10 ^ (n + G)
  right i s =
      let e : 10 ^ D * 10 ^ k ≡ 10 ^ i * 10 ^ (n + G) = sums 10 D k i (n + G) (omega arith) in
      omega (arith, ap (λ (x : ℕ). 2 ^ B * 2 ^ k * x) e, ap (λ (x : ℕ). x * 10 ^ i * 10 ^ (n + G)) base_two)

  reaches : (a i : ℕ) → i + n ≡ r → a * 2 ^ k * 10 ^ H ≤ 2 ^ (H + G) * 10 ^ i → a * 10 ^ (least_exp F X + n) ≤ 2 ^ least_exp F X * 10 ^ decade F X m
  reaches a i s l = le_of_mul-le-mul_right {k = scale} (rw (left a, right i s) (mul-le-mul_right (10 ^ (n + G)) l)) scale_pos

  under : (a i : ℕ) → i + n ≡ r → 2 ^ (H + G) * 10 ^ i < a * 2 ^ k * 10 ^ H → 2 ^ least_exp F X * 10 ^ decade F X m < a * 10 ^ (least_exp F X + n)
  under a i s l = lt_of_mul-lt-mul_right scale (rw (left a, right i s) (mul-lt-mul_of_pos_right l (ten_pos (n + G))))

  -- the step is at most the size
  step_le : (a : ℕ) → 1 ≤ n → 0 < m → a * 10 ^ (least_exp F X + n) ≤ 2 ^ least_exp F X * 10 ^ decade F X m → a ≤ size F m
  step_le a one p l = go (decade_rule F X m p)
    where
      go : Decade F X m (decade F X m) → a ≤ size F m
      go d =
          let ten : 10 ≤ 10 ^ n = pow-le-pow_right {n = 10} (omega arith) {i = 1} {j = n} one in
          let e : 10 ^ D ≡ 10 ^ d.one_less * 10 = ap (λ (x : ℕ). 10 ^ x) d.is ∙ pow-suc 10 d.one_less in
          let f : 10 ^ (B + n) ≡ 10 ^ B * 10 ^ n = pow-add 10 B n in
          let u : 2 ^ B * 10 ^ D ≤ size F m * 10 ^ (B + n) = rw (e, f) (omega (arith, mul-le-mul_right 10 d.reaches, mul-le-mul_left (size F m * 10 ^ B) ten)) in
          le_of_mul-le-mul_right {k = 10 ^ (B + n)} (le_trans l u) (ten_pos (B + n))

  -- a step of 2 ^ t spacings has at most F bits
  few : (t : ℕ) → 2 ^ (spacing_exp F m + t) ≤ size F m → t ≤ F
  few t l = go (form F m)
    where
      c : ℕ
      c = spacing_exp F m

      go : Form F m → t ≤ F
      go f =
          let a : f.sig * 2 ^ c < 2 * 2 ^ F * 2 ^ c = mul-lt-mul_of_pos_right f.below (pow_pos c) in
          let b : 2 ^ suc (F + c) ≡ 2 * 2 ^ F * 2 ^ c = pow-suc 2 (F + c) ∙ rw (pow-add 2 F c) (omega arith) in
          let e : c + t ≤ F + c = exponent_le 2 (omega arith) {x = size F m} l (omega (arith, size_form F m f)) in
          omega arith

  module _ (one : 1 ≤ n) (p : 0 < m) (finite : m < infinity F X) where
    -- the power of ten is below one of the finer spacings
    pub beyond : 2 ^ (H + G) < 10 ^ suc H → r < n → new_magnitude F X (digits n) 0 m ≡ halfshaved 0 m
    unfolding halfshaved spacing
    beyond small l = stays F X n 0 m p finite (rw (step_none F X n m less) (omega (arith, pow_pos (spacing_exp F m))))
      where
        less : 2 ^ least_exp F X * 10 ^ decade F X m < 10 ^ (least_exp F X + n)
        less =
            let ten : ℕ = 10 ^ r * 10 ^ G in
            let e : 2 ^ B * 10 ^ D * scale ≡ 2 ^ (H + G) * ten = rw (← (sums 10 D k r G place), ← base_two) (omega arith) in
            let f : 10 ^ (B + n) * 10 ^ k ≡ 10 ^ suc H * 10 ^ (n - 1 + G) = sums 10 (B + n) k (suc H) (n - 1 + G) (omega arith) in
            let g : ten ≤ 10 ^ (n - 1 + G) = rw (← (pow-add 10 r G)) (pow-le-pow_right {n = 10} (omega arith) {i = r + G} {j = n - 1 + G} (omega arith)) in
            let u : 2 ^ (H + G) * ten < 10 ^ suc H * ten = mul-lt-mul_of_pos_right small (mul-le-mul {n₁ = 1} {m₁ = 1} (ten_pos r) (ten_pos G)) in
            let v : 10 ^ (B + n) * 10 ^ k * 1 ≤ 10 ^ (B + n) * 10 ^ k * 2 ^ k = mul-le-mul_left (10 ^ (B + n) * 10 ^ k) (pow_pos k) in
            lt_of_mul-lt-mul_right scale (omega (arith, mul-le-mul_left (10 ^ suc H) g))

    -- it lies between the powers of two with the exponents j and j + 1
    module _ (j i : ℕ) (s : i + n ≡ r) (low : 2 ^ j * 10 ^ H ≤ 2 ^ (H + G) * 10 ^ i) (high : 2 ^ (H + G) * 10 ^ i < 2 ^ suc j * 10 ^ H) where
      first : k ≤ j → 2 ^ (j - k) * 10 ^ (least_exp F X + n) ≤ 2 ^ least_exp F X * 10 ^ decade F X m
      first l = reaches (2 ^ (j - k)) i s (rw (← (pow_split j k l)) low)

      step_is : k ≤ j → digit_step F X n m ≡ 2 ^ (j - k)
      step_is l =
          let e : 2 ^ suc j ≡ 2 ^ suc (j - k) * 2 ^ k = pow-suc 2 j ∙ rw (pow_split j k l, pow-suc 2 (j - k)) (omega arith) in
          step_some F X n m (j - k) (first l) (under (2 ^ suc (j - k)) i s (rw (← e) high))

      step_less : j < k → digit_step F X n m ≡ 0
      step_less l =
          let u : 2 ^ suc j * 10 ^ H ≤ 1 * 2 ^ k * 10 ^ H = mul-le-mul_right (10 ^ H) (omega (arith, pow_mono {i = suc j} {j = k} l)) in
          step_none F X n m (omega (arith, under 1 i s (lt_of_lt_of_le high u)))

      pub within : (new_magnitude F X (digits n) 0 m ≡ halfshaved (j - (k + spacing_exp F m)) m) × (j - (k + spacing_exp F m) ≤ F)
      unfolding halfshaved spacing
      within = go (j - (k + c)) refl
        where
          c : ℕ
          c = spacing_exp F m

          short : j ≤ k + c → Dec (k ≤ j) → digit_step F X n m < 2 * 2 ^ c
          short h (yes l) = rw (step_is l) (omega (arith, pow_pos c, pow_mono {i = j - k} {j = c} (omega arith)))
          short h (no l) = rw (step_less (omega arith)) (omega (arith, pow_pos c))

          go : (t : ℕ) → j - (k + c) ≡ t → (new_magnitude F X (digits n) 0 m ≡ halfshaved t m) × (t ≤ F)
          go zero e = (stays F X n 0 m p finite (short (omega arith) (dec_le k j)), omega arith)
          go (suc t) e =
              let l : k ≤ j = omega arith in
              let d : j - k ≡ c + suc t = omega arith in
              let f : suc t ≤ F = few (suc t) (rw d at (step_le (2 ^ (j - k)) one p (first l))) in
              let q : digit_step F X n m ≡ 2 ^ suc t * 2 ^ c = step_is l ∙ ap (λ (x : ℕ). 2 ^ x) d ∙ pow-add 2 c (suc t) ∙ omega arith in
              (moves F X n 0 m p finite t f q, f)
