-- What has room in a word, which has one bit more than its magnitudes. For every width.
use Rattle.std.proofs.Common.{◌≡◌, ℕ, zero, suc, ◌+◌, ◌-◌, ◌*◌, ◌/◌, ◌%◌, ◌^◌, ◌<◌, ◌≤◌, cond, ltb, sym, ap, ◌∙◌, subst, le_refl, arith, pow_pos, div-add-mod'}
use Rattle.std.proofs.Math.Nat.{pow-le-pow_right}
use native.Mathlib.Nat.{mod-eq_of_lt, mul-le-mul_right, div-lt_iff_lt-mul, mul_comm, add_comm, pow-suc}
use native.Mathlib.Numerals.{add-one}
use native.Mathlib.Decide.{dec_lt}
use lib.Pow.{pow_mono, pow-add, mod-pow-add, ones_lt, high_ones}
use lib.Bits.{bit_and}
use Rattle.meaning.specs.Readings.{magnitude, infinity}
use Rattle.meaning.proofs.Powers.{pow_le}
use Rattle.reading.proofs.Tails.{mask_cut}
use Rattle.reading.proofs.Words.{chosen_lt}

-- m cut by a unit's bits
pub cut_is : (t m one unit ones s : ℕ) → one ≡ 1 → unit ≡ 2 ^ t → ones ≡ unit - one → s ≡ m - bit_and m ones → s ≡ m / 2 ^ t * 2 ^ t
cut_is t m one unit ones s o u oo ss = ss ∙ mask_cut t m ones (rw (u, o) at oo)

-- m where it is below i, and a number z below i elsewhere
pub below : (m i z a : ℕ) → z < i → a ≡ cond (ltb m i) m z → a < i
below m i z a h e = subst (λ (x : ℕ). x < i) (sym e) (chosen_lt m z i i (le_refl i) h)

-- the lowest bits of a number, and one more
pub bit_more : (n t b : ℕ) → n / 2 ^ t % 2 ≡ b → n % 2 ^ (t + 1) ≡ b * 2 ^ t + n % 2 ^ t
bit_more n t b e = ap (λ (s : ℕ). n % 2 ^ s) (add_comm t 1) ∙ mod-pow-add n 1 t ∙ ap (λ (x : ℕ). x * 2 ^ t + n % 2 ^ t) e

module _ (n t : ℕ) (one : n / 2 ^ t % 2 ≡ 1) where
  -- a bit that is 1 is a part of the number
  pub bit_part : n % 2 ^ t + 2 ^ t ≤ n
  bit_part =
      let h : 1 ≤ n / 2 ^ t = omega (arith, one) in
      omega (arith, div-add-mod' n (2 ^ t), mul-le-mul_right (2 ^ t) h)

  pub bit_place : (s : ℕ) → n < 2 ^ s → t < s
  bit_place s h = go (dec_lt t s)
    where
      go : Dec (t < s) → t < s
      go (yes l) = l
      go (no l) = absurd (omega (arith, bit_part, pow_mono {i = s} {j = t} (omega arith)))

module _ (F X : ℕ) where
  abbrev T : ℕ
  T = 2 ^ (F + X)

  pub two : 2 ^ (F + X + 1) ≡ 2 * T
  two = rw (add-one, pow-suc) (omega arith)

  pub infinity_le : infinity F X ≤ T
  unfolding infinity
  infinity_le =
      let e : 2 ^ (F + X) ≡ 2 ^ X * 2 ^ F = pow-add 2 F X ∙ mul_comm (2 ^ F) (2 ^ X) in
      let l : (2 ^ X - 1) * 2 ^ F ≤ 2 ^ X * 2 ^ F = mul-le-mul_right (2 ^ F) (omega arith) in
      omega arith

  -- the sign and a new magnitude
  module _ (w m n : ℕ) (short : w < 2 ^ (F + X + 1)) (is : m ≡ magnitude F X w) (fin : n < infinity F X) where
    parts : w / 2 ^ (F + X) * 2 ^ (F + X) + m ≡ w
    unfolding magnitude
    parts = omega (arith, is, div-add-mod' w (2 ^ (F + X)))

    signs : w / 2 ^ (F + X) * 2 ^ (F + X) ≤ T
    signs =
        let e : w / 2 ^ (F + X) < 2 = (div-lt_iff_lt-mul {k = 2 ^ (F + X)} {x = w} {y = 2} (pow_pos (F + X))).1 (omega (arith, two)) in
        omega (arith, mul-le-mul_right (2 ^ (F + X)) (let f : w / 2 ^ (F + X) ≤ 1 = omega (arith, e) in f))

    pub sign_room : w - m + n < 2 ^ (F + X + 1)
    sign_room = omega (arith, parts, signs, two, infinity_le)

  pub magnitude_le : (w m : ℕ) → m ≡ magnitude F X w → m ≤ w
  unfolding magnitude
  magnitude_le w m is = omega (arith, is, div-add-mod' w (2 ^ (F + X)))

  -- a number of 32 bits has room in a word
  pub numbers_fit : 31 ≤ F + X → 2 ^ 32 ≤ 2 ^ (F + X + 1)
  numbers_fit h = pow-le-pow_right {n = 2} (omega arith) {i = 32} {j = F + X + 1} (omega (arith, h))

  -- the counts of a part of an array have room in a word
  pub counts_fit : 31 ≤ F + X → 65536 ≤ 2 ^ (F + X + 1) - 1
  counts_fit h = omega (arith, numbers_fit h)

  -- infinity by a word of ones: without its sign, and without the ones of a fraction
  module _ (z o a f : ℕ) (none : z ≡ 0) (one : o ≡ 1) (ones : a ≡ (z + (2 ^ (F + X + 1) - o)) % 2 ^ (F + X + 1)) (unit : f ≡ 2 ^ F) where
    ones_is : a ≡ 2 ^ (F + X + 1) - 1
    ones_is =
        let e : z + (2 ^ (F + X + 1) - o) ≡ 2 ^ (F + X + 1) - 1 = omega (arith, none, one) in
        ones ∙ ap (λ (x : ℕ). x % 2 ^ (F + X + 1)) e ∙ mod-eq_of_lt (ones_lt (F + X + 1))

    fraction_le : 2 ^ F ≤ T
    fraction_le = pow_mono {i = F} {j = F + X} (omega arith)

    pub ones_room : f - 1 ≤ a / 2
    ones_room = omega (arith, ones_is, two, fraction_le, unit, pow_pos F)

    pub ones_infinity : a / 2 - (f - 1) ≡ infinity F X
    unfolding infinity
    ones_infinity =
        let e : T - 2 ^ F ≡ (2 ^ X - 1) * 2 ^ F = ap (λ (s : ℕ). 2 ^ s - 2 ^ F) (add_comm F X) ∙ high_ones X F in
        omega (arith, e, ones_is, two, fraction_le, unit, pow_pos F)

    -- a word that is a number of 64 bits has room for one bit of the exponent and the sign
    pub fraction_short : a < 2 ^ 64 → 0 < infinity F X → F ≤ 62
    unfolding infinity
    fraction_short h p =
        let l : F + X + 1 ≤ 64 = pow_le {a = F + X + 1} {b = 64} (omega (arith, ones_is)) in
        go X p l
      where
        go : (x : ℕ) → 0 < (2 ^ x - 1) * 2 ^ F → F + x + 1 ≤ 64 → F ≤ 62
        go zero p l = absurd (omega (arith, p))
        go (suc x) p l = omega (arith, l)
