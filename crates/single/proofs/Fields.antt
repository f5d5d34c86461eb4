-- Method 6 on a single that isn't subnormal, by the tables of the exponent fields: the mask's bits become a one and zeros. A zero and what isn't finite have no mask and
-- stay; any other has the tail that the definition gives.
use Rattle.std.proofs.Common.{◌≡◌, ℕ, ◌+◌, ◌-◌, ◌*◌, ◌/◌, ◌%◌, ◌^◌, ◌<◌, ◌≤◌, cond, ltb, ◌≢◌, List, get_or, sym, refl, ap, ◌∙◌, subst, mod-lt, div-add-mod', arith, pow_pos, le-ltb, lt-ltb, ne_eqb}
use native.Mathlib.Decide.{dec_lt, ℕ_discrete}
use lib.Bits.{bit_and, and_mask, and_le_l}
use lib.Pow.{pow-lt}
use Rattle.meaning.specs.Readings.{magnitude, infinity}
use Rattle.meaning.specs.Methods.{digits, halfshaved, new_magnitude}
use Rattle.digit_tables.specs.Fields.{field_limit, field_tail, Limits, Masks}
use Rattle.digit_tables.proofs.Fields.{tail_zero, tail_last, tail_short, field_tail_lem}
use Rattle.reading.proofs.Tails.{half_of, half_positive}
use Rattle.reading.proofs.Words.{cond_lt, floor_room, halfshaved_none, halfshaved_word, digits_zero}
use Rattle.single.specs.Left.{subnormal}

-- half a tail's unit
half_unit_lem : (t : ℕ) → t ≢ 0 → 2 ^ t / 2 ≡ 2 ^ (t - 1)
half_unit_lem t h = half_of t (2 ^ t) refl ∙ half_positive t (omega arith)

half_less : (t : ℕ) → 2 ^ t / 2 < 2 ^ t
half_less t = omega (arith, pow_pos t)

module _ (n x s : ℕ) (ls ms : List ℕ) (one : 1 ≤ n) (few : n ≤ 7) (limits : Limits ls) (masks : Masks n ms) (short : x < 2 ^ 32)
    (ss : s ≡ cond (ltb (x % 2 ^ 31) (get_or ls (x % 2 ^ 31 / 2 ^ 23) 0)) 0 1) where
  abbrev m : ℕ
  m = x % 2 ^ 31

  abbrev f : ℕ
  f = m / 2 ^ 23

  abbrev t : ℕ
  t = field_tail n f s

  abbrev ones : ℕ
  ones = get_or ms (f * 2 + s) 0

  low : m < 2 ^ 31
  low = mod-lt x (pow_pos 31)

  pub second_few : s < 2
  second_few = subst (λ (y : ℕ). y < 2) (sym ss) (cond_lt (ltb m (get_or ls f 0)) 0 1 2 (omega arith) (omega arith))

  mask : ones ≡ 2 ^ t - 1
  mask =
      let a : (f * 2 + s) / 2 ≡ f = omega (arith, second_few) in
      let b : (f * 2 + s) % 2 ≡ s = omega (arith, second_few) in
      masks (f * 2 + s) (omega (arith, second_few)) ∙ rw (a, b) refl

  tail_less : t < 32
  tail_less = tail_short n f s (omega arith) (omega (arith, second_few)) few

  pub ones_fit : ones + 1 < 2 ^ 32
  ones_fit = omega (arith, mask, pow_pos t, pow-lt {i = t} {j = 32} tail_less)

  rest : bit_and m ones ≡ m % 2 ^ t
  rest = rw mask (and_mask m t)

  half : (ones + 1) / 2 ≡ 2 ^ t / 2
  half = let e : ones + 1 ≡ 2 ^ t = omega (arith, mask, pow_pos t) in ap (λ (y : ℕ). y / 2) e

  pub rest_le : bit_and m ones ≤ x
  rest_le = omega (arith, and_le_l m ones)

  pub new_fits : x - bit_and m ones + (ones + 1) / 2 < 2 ^ 32
  new_fits =
      let room : m / 2 ^ t * 2 ^ t + 2 ^ t / 2 < 2 ^ 31 = floor_room 31 t m (2 ^ t / 2) (omega (arith, tail_less)) low (half_less t) in
      rw (rest, half) (omega (arith, div-add-mod' m (2 ^ t), room))

  -- with no tail the reading stays
  stays : t ≡ 0 → x - bit_and m ones + (ones + 1) / 2 ≡ x
  stays e = rw (rest, half, e) (omega arith)

  moves : m ≢ 0 → x - bit_and m ones + (ones + 1) / 2 ≡ x - m + halfshaved t m
  moves p = go (ℕ_discrete t 0)
    where
      go : Dec (t ≡ 0) → x - bit_and m ones + (ones + 1) / 2 ≡ x - m + halfshaved t m
      go (yes z) = stays z ∙ omega (arith, halfshaved_none t m z)
      go (no z) =
          let h : m / 2 ^ t * 2 ^ t + 2 ^ (t - 1) ≡ halfshaved t m = halfshaved_word t m (2 ^ t) (2 ^ (t - 1)) (m / 2 ^ t * 2 ^ t) z (omega arith) refl refl refl in
          rw (rest, half, half_unit_lem t z) (omega (arith, h, div-add-mod' m (2 ^ t)))

  module _ (plain : subnormal 23 8 x ≡ 0) where
    normal : m ≢ 0 → 2 ^ 23 ≤ m
    unfolding subnormal magnitude
    normal p = go (dec_lt m (2 ^ 23))
      where
        go : Dec (m < 2 ^ 23) → 2 ^ 23 ≤ m
        go (yes l) = absurd (let e : 1 ≡ 0 = sym (rw (ne_eqb m 0 p, lt-ltb m (2 ^ 23) l) refl) ∙ plain in omega arith)
        go (no l) = omega arith

    pub new_is : x - bit_and m ones + (ones + 1) / 2 ≡ cond (ltb m (infinity 23 8)) (x - m + new_magnitude 23 8 (digits n) 0 m) x
    unfolding infinity
    new_is = go (ℕ_discrete m 0) (dec_lt m 0x7f80_0000)
      where
        go : Dec (m ≡ 0) → Dec (m < 0x7f80_0000)
            → x - bit_and m ones + (ones + 1) / 2 ≡ cond (ltb m 0x7f80_0000) (x - m + new_magnitude 23 8 (digits n) 0 m) x
        go d (no l) = stays (tail_last n f s (omega arith)) ∙ rw (le-ltb m 0x7f80_0000 (omega arith)) refl
        go (yes z) (yes l) = stays (tail_zero n f s (omega arith)) ∙ rw (lt-ltb m 0x7f80_0000 l) (omega (arith, digits_zero 23 8 n m z))
        go (no z) (yes l) =
            let e : s ≡ cond (ltb m (field_limit f)) 0 1 = ss ∙ rw (limits f (omega arith)) refl in
            let a = field_tail_lem m (normal z) l n one few in
            moves z ∙ rw (lt-ltb m 0x7f80_0000 l) (ap (λ (y : ℕ). x - m + y) (rw e (sym a.1)))
