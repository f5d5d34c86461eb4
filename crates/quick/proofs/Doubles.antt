-- The code of a reading by doubles: the difference of two readings is exact where it has few digits, and 2 ^ 52 steps added to it round it to whole steps, ties to even,
-- which then stand in the last bits of the pattern.
use mathlib.Core.Path.{◌≡◌, refl, sym, ap, ◌∙◌}
use mathlib.Core.Logic.{inr}
use mathlib.Core.Bool.{Bool, true, false, cond, ◌&&◌, true≢false}
use Prim.Native.Nat.{ℕ, ◌+◌, ◌-◌, ◌*◌, ◌%◌, ◌^◌, ◌≤◌, ◌<◌}
use native.Mathlib.Nat.{lt_of_lt_of_le, mul_assoc, mul-pos, mul-lt-mul_of_pos_right, zero-mul, sub-zero, zero-add}
use native.Mathlib.Decide.{dec_lt}
use native.Mathlib.Omega.{arith}
use borrow.Author.Tests.{lt-ltb, le-ltb}
use lib.Dec.{ltb}
use lib.IntN.{pos}
use lib.Pow.{pow_pos, pow-add, pow_mono, shl_lt}
use lib.Ieee.{Float, nan, inf, fin, Format, binary64, up, down, round, sum, add, sub, neg, to_bits}
use lib.Ieee.Exact.{HasValue, round_exact}
use lib.Ieee.Fits.{down_pos}
use lib.Ieee.Scale.{round_same}
use Rattle.meaning.specs.Readings.{infinity}
use Rattle.meaning.specs.Methods.{nearest}
use Rattle.meaning.proofs.Nearest.{nearest_scale, nearest_between}
use Rattle.meaning.proofs.Sizes.{size_at}
use Rattle.absolute.proofs.NotNan.{neg_value}
use Rattle.absolute.proofs.Values.{value_finer, left_cross, right_cross, minus_cross, less_cross, add_values, sub_values, size_bits}
use Rattle.absolute.proofs.Adding.{sum_value}

-- ---- values with a sign

-- b less a, where a is not above b
minus_plus : (f : Format) (a b c : ℕ) → 0 < c → a ≤ b → (x y : Float) → HasValue x true a c → HasValue y false b c → add f x y ≡ round f false (b - a) c
unfolding add sum
minus_plus f a b c p o nan y h k = absurd h
minus_plus f a b c p o (inf u) y h k = absurd h
minus_plus f a b c p o (fin u m e) nan h k = absurd k
minus_plus f a b c p o (fin u m e) (inf v) h k = absurd k
minus_plus f a b c p o (fin u m e) (fin v n g) h k = rw (h.0, k.0) (go (dec_lt A B) ∙ round_same f false (B - A) C (b - a) c (mul-pos (down_pos e) (down_pos g)) p (minus_cross B A C b a c r l))
  where
    A : ℕ
    A = m * up e * down g

    B : ℕ
    B = n * up g * down e

    C : ℕ
    C = down e * down g

    l : A * c ≡ a * C
    l = left_cross (m * up e) a c (down g) (down e) h.1

    r : B * c ≡ b * C
    r = right_cross (n * up g) b c (down g) (down e) k.1

    below : A ≤ B
    below = less_cross B A C b a c p r l o

    go : Dec (A < B) → cond (ltb A B) (round f false (B - A) C) (round f (true && ltb B A) (A - B) C) ≡ round f false (B - A) C
    go (yes d) = rw (lt-ltb A B d) refl
    go (no d) =
        let z : A - B ≡ B - A = omega (arith, below) in
        rw (le-ltb A B (omega (arith, below)), le-ltb B A below, z) refl

-- -0 and -0
two_zeros : (f : Format) (c : ℕ) → 0 < c → (x y : Float) → HasValue x true 0 c → HasValue y true 0 c → add f x y ≡ round f true 0 c
unfolding add sum
two_zeros f c p nan y h k = absurd h
two_zeros f c p (inf u) y h k = absurd h
two_zeros f c p (fin u m e) nan h k = absurd k
two_zeros f c p (fin u m e) (inf v) h k = absurd k
two_zeros f c p (fin u m e) (fin v n g) h k =
    let l = left_cross (m * up e) 0 c (down g) (down e) h.1 in
    let r = right_cross (n * up g) 0 c (down g) (down e) k.1 in
    rw (h.0, k.0) (round_same f true (m * up e * down g + n * up g * down e) (down e * down g) 0 c (mul-pos (down_pos e) (down_pos g)) p (omega arith))

-- ---- the difference of two readings

-- a whole number of least spacings with few digits
pub record Short (n : ℕ) : Type 0 where
  pub digits : ℕ
  pub shift : ℕ
  pub is : n ≡ digits * 2 ^ shift
  pub few : digits < 2 ^ 53
  pub near : shift ≤ 277

short_exact : (s : Bool) (n : ℕ) → Short n → HasValue (round binary64 s n (2 ^ 149)) s n (2 ^ 149)
short_exact s n h =
    let k = h.digits in
    let j = h.shift in
    round_exact binary64 s n (2 ^ 149) k (925 + j) (pow_pos 149) h.few
    (lt_of_lt_of_le (shl_lt 53 (925 + j) h.few) (pow_mono {i = 53 + (925 + j)} {j = 2098} (omega (arith, h.near))))
    (rw h.is
    (mul_assoc k (2 ^ j) (2 ^ 1074)
    ∙ ap (λ (z : ℕ). k * z) (sym (pow-add 2 j 1074) ∙ ap (λ (n : ℕ). 2 ^ n) {x = j + 1074} {y = 925 + j + 149} (omega arith) ∙ pow-add 2 (925 + j) 149)
    ∙ sym (mul_assoc k (2 ^ (925 + j)) (2 ^ 149))))

-- d is n least spacings of singles, and -0 at most where n is 0
pub record Apart (d : Float) (n : ℕ) : Type 0 where
  pub minus : Bool
  pub value : HasValue d minus n (2 ^ 149)
  pub none : minus ≡ true → n ≡ 0

-- readings with the signs s and t and the sizes a and b, the first n above the second
abbrev pub Gap : Bool → Bool → ℕ → ℕ → ℕ → Type 0
Gap false false a b n = b + n ≡ a
Gap false true a b n = n ≡ a + b
Gap true true a b n = a + n ≡ b
Gap true false a b n = (a ≡ 0) × (b ≡ 0) × (n ≡ 0)

exact_apart : (d : Float) (n : ℕ) → Short n → d ≡ round binary64 false n (2 ^ 149) → Apart d n
exact_apart d n h e = record { minus = false; value = rw e (short_exact false n h); none = λ z. absurd (true≢false (sym z)) }

pub apart : (x y : Float) (s t : Bool) (a b n : ℕ) → HasValue x s a (2 ^ 149) → HasValue y t b (2 ^ 149) → Gap s t a b n → Short n → Apart (sub binary64 x y) n
unfolding sub
apart x y false false a b n v w g h =
    let l : b ≤ a = omega arith in
    let e : a - b ≡ n = omega arith in
    exact_apart (sub binary64 x y) n h (sub_values binary64 a b (2 ^ 149) (pow_pos 149) l x y v w ∙ ap (λ (z : ℕ). round binary64 false z (2 ^ 149)) e)
apart x y false true a b n v w g h =
    exact_apart (sub binary64 x y) n h (add_values binary64 a b (2 ^ 149) (pow_pos 149) x (neg y) v (neg_value y true b (2 ^ 149) w) ∙ ap (λ (z : ℕ). round binary64 false z (2 ^ 149)) (sym g))
apart x y true true a b n v w g h =
    let l : a ≤ b = omega arith in
    let e : b - a ≡ n = omega arith in
    exact_apart (sub binary64 x y) n h (minus_plus binary64 a b (2 ^ 149) (pow_pos 149) l x (neg y) v (neg_value y true b (2 ^ 149) w) ∙ ap (λ (z : ℕ). round binary64 false z (2 ^ 149)) e)
apart x y true false a b n v w g h =
    let z : n ≡ 0 = g.2 in
    record {
      minus = true;
      value = rw (two_zeros binary64 (2 ^ 149) (pow_pos 149) x (neg y) (rw g.0 at v) (rw g.1 at (neg_value y false b (2 ^ 149) w)), z) (short_exact true 0 (rw z at h));
      none = λ _. z;
    }

-- ---- 2 ^ 52 steps added

shifted : (n g u : ℕ) → 0 < g → 0 < u → n ≤ 65534 * g → n * u < 2 ^ 52 * (g * u)
shifted n g u p q h = rw (sym (mul_assoc (2 ^ 52) g u)) (mul-lt-mul_of_pos_right (omega arith) q)

infinity_is : infinity 52 11 ≡ 2047 * 2 ^ 52
unfolding infinity
infinity_is = refl

module _ (e n : ℕ) (few : e ≤ 277) (h : n ≤ 65534 * 2 ^ e) (y : Float) (vy : HasValue y false (2 ^ 52 * 2 ^ (e + 925)) (2 ^ 1074)) where
  abbrev K : ℕ
  K = nearest n (2 ^ e)

  K_most : K ≤ 65534
  K_most = (nearest_between 0 65534 n (2 ^ e) (pow_pos e) (omega arith) h).1

  unit_is : 2 ^ (e + 925) ≡ 2 ^ e * 2 ^ 925
  unit_is = pow-add 2 e 925

  same : nearest (n * 2 ^ 925) (2 ^ (e + 925)) ≡ K
  same = rw unit_is (nearest_scale n (2 ^ e) (2 ^ 925) (pow_pos e) (pow_pos 925))

  below : n * 2 ^ 925 < 2 ^ 52 * 2 ^ (e + 925)
  below = rw unit_is (shifted n (2 ^ e) (2 ^ 925) (pow_pos e) (pow_pos 925) h)

  -- a difference that is not negative
  sum_plus : (x : Float) → HasValue x false n (2 ^ 149) → HasValue (add binary64 x y) false ((K + 2 ^ 52) * 2 ^ (e + 925)) (2 ^ 1074)
  sum_plus x v = rw same at (sum_value binary64 (e + 925) (n * 2 ^ 925) (omega arith) below x y (rw finer at (value_finer x false n (2 ^ 149) (2 ^ 925) v)) vy)
    where
      finer : 2 ^ 149 * 2 ^ 925 ≡ 2 ^ 1074
      finer = sym (pow-add 2 149 925)

  -- the pattern of the sum
  pattern_plus : (x : Float) → HasValue x false n (2 ^ 149) → to_bits binary64 (add binary64 x y) ≡ (e + 925) * 2 ^ 52 + (K + 2 ^ 52)
  pattern_plus x v =
      size_bits binary64 ((e + 925) * 2 ^ 52 + (K + 2 ^ 52)) finite (add binary64 x y)
      (rw (size_at 52 (e + 925) (K + 2 ^ 52) (inr (omega arith)) (omega (arith, K_most))) (sum_plus x v))
    where
      finite : (e + 925) * 2 ^ 52 + (K + 2 ^ 52) < infinity 52 11
      finite = rw infinity_is (omega (arith, K_most))

  last_bits : (e + 925) * 2 ^ 52 + (K + 2 ^ 52) ≡ (e + 926) * 2 ^ 52 + K → ((e + 925) * 2 ^ 52 + (K + 2 ^ 52)) % 65536 ≡ K
  last_bits z = omega (arith, K_most)

  -- +0 for -0
  positive : (d : Float) (s : Bool) → HasValue d s n (2 ^ 149) → (s ≡ true → n ≡ 0) → to_bits binary64 (add binary64 d y) ≡ (e + 925) * 2 ^ 52 + (K + 2 ^ 52)
  positive d false v z = pattern_plus d v
  positive d true v z = ap (to_bits binary64) swap ∙ pattern_plus (fin false 0 (pos 0)) zero_value
    where
      zero_value : HasValue (fin false 0 (pos 0)) false n (2 ^ 149)
      zero_value = rw (z refl) (refl, refl)

      fine : (s : Bool) (x : Float) → HasValue x s n (2 ^ 149) → HasValue x s 0 (2 ^ 1074)
      fine s x u = rw (sym (pow-add 2 149 925)) (rw zero-mul at (value_finer x s 0 (2 ^ 149) (2 ^ 925) (rw (z refl) at u)))

      swap : add binary64 d y ≡ add binary64 (fin false 0 (pos 0)) y
      swap =
          minus_plus binary64 0 (2 ^ 52 * 2 ^ (e + 925)) (2 ^ 1074) (pow_pos 1074) (omega arith) d y (fine true d v) vy
          ∙ ap (λ (x : ℕ). round binary64 false x (2 ^ 1074)) (sub-zero _ ∙ sym (zero-add _))
          ∙ sym (add_values binary64 0 (2 ^ 52 * 2 ^ (e + 925)) (2 ^ 1074) (pow_pos 1074) (fin false 0 (pos 0)) y (fine false (fin false 0 (pos 0)) zero_value) vy)

  pub code_bits : (d : Float) → Apart d n → to_bits binary64 (add binary64 d y) % 65536 ≡ nearest n (2 ^ e)
  code_bits d a = ap (λ (x : ℕ). x % 65536) (positive d a.minus a.value a.none) ∙ last_bits (omega arith)
