-- The double of a code: its magnitude is the nearest to the size of the code's meaning, with the meaning's sign. It is exact where 53 bits hold all, and where they don't it
-- stays within half a step of every single that the meaning lies so near.
use mathlib.Core.Path.{◌≡◌, refl, sym, ap, ap₂, ◌∙◌}
use mathlib.Core.Logic.{◌⊎◌, inl, inr, ◌≢◌}
use mathlib.Core.Bool.{true, cond}
use Prim.Native.Nat.{ℕ, suc, ◌+◌, ◌-◌, ◌*◌, ◌^◌, ◌≤◌, ◌<◌}
use native.Mathlib.Nat.{add-mul, le_refl, le_trans, le_of_lt, lt_of_lt_of_le, lt_of_le_of_lt, mul-le-mul, mul-le-mul_right, mul-le-mul_left, mul_assoc, mul_comm, pow-suc, zero-mul}
use native.Mathlib.Decide.{dec_lt, dec_le, ℕ_discrete}
use native.Mathlib.Omega.{arith}
use borrow.Author.Tests.{le-leb, lt-leb}
use lib.Pow.{pow_pos, pow-add, pow_mono, shl_lt}
use lib.Dec.{leb}
use Rattle.meaning.specs.Readings.{size, spacing, spacing_exp, sign, magnitude, pattern, infinity, finite, least_exp, origin, position, distance}
use Rattle.meaning.specs.Layers.{Layer, missing_code, code_meaning, nearest_magnitude, nearest_double}
use Rattle.meaning.proofs.Powers.{pow_split}
use Rattle.meaning.proofs.Sizes.{Form, form, size_at, size_form, size_small}
use Rattle.meaning.proofs.Patterns.{magnitude_pattern, sign_pattern, finite_below, below_finite, size_below, position_plus, position_minus}
use Rattle.papers.specs.Unpacked.{CodeOf, HeldIn53, double, meaning_size, apart}
use Rattle.papers.proofs.Apart.{distance_self}
use Rattle.papers.proofs.Distances.{apart_up, apart_down, scaled, distance_le, through_less, through_exact, landed, same_up, same_down}
use Rattle.papers.proofs.NearestMagnitude.{v, v_finite, near_is, near_half, near_most, near_least, near_exact}

twice : (k x : ℕ) → x < 2 ^ k → 2 * x < 2 ^ suc k
twice k x h = rw (pow-suc 2 k) (omega arith)

both : (k a b : ℕ) → a < 2 ^ k → b < 2 ^ k → a + b < 2 ^ suc k
both k a b h l = rw (pow-suc 2 k) (omega arith)

room_of : (n : ℕ) → n < 2 ^ 294 → 2 * (n * 2 ^ 925) < size 52 (infinity 52 11)
unfolding infinity
room_of n h =
    rw (size_at 52 2046 (2 ^ 52) (inr (le_refl (2 ^ 52))) (omega arith), ← pow-add 2 52 2046)
    (lt_of_lt_of_le (twice 1219 (n * 2 ^ 925) (shl_lt 294 925 h)) (pow_mono {i = 1220} {j = 52 + 2046} (omega arith)))

near_magnitude : (n : ℕ) (room : 2 * n < size 52 (infinity 52 11)) → nearest_magnitude n ≡ v 52 11 n room
unfolding nearest_magnitude
near_magnitude n room = near_is 52 11 n room

from_zero : (p : ℕ) → origin 23 8 ≤ p → nearest_double p ≡ pattern 52 11 0 (nearest_magnitude (distance p (origin 23 8) * 2 ^ 925))
unfolding nearest_double least_exp
from_zero p o = rw (le-leb (origin 23 8) p o, apart_up p (origin 23 8) o) refl

below_zero : (p : ℕ) → p < origin 23 8 → nearest_double p ≡ pattern 52 11 1 (nearest_magnitude (distance p (origin 23 8) * 2 ^ 925))
unfolding nearest_double least_exp
below_zero p o = rw (lt-leb (origin 23 8) p o, apart_down p (origin 23 8) (le_of_lt o)) refl

-- ---- a code's meaning

-- a code that isn't the missing one is at most 2 ^ b - 2 in b bits, and below 65,535 in any width
pub code_low : (b c : ℕ) → c < missing_code b → c + 2 ≤ 2 ^ b
unfolding missing_code
code_low b c h = omega arith

pub code_small : (l : Layer) (c : ℕ) → CodeOf l c → c < 65535
code_small l c (b, h) = omega (arith, code_low l.width c h, pow_mono {i = l.width} {j = 16} b)

origin_is : origin 23 8 ≡ 2 ^ 277
unfolding origin infinity
origin_is = size_at 23 254 (2 ^ 23) (inr (le_refl (2 ^ 23))) (omega arith)

-- a number of at most 53 bits, shifted
pub record Few (n : ℕ) : Type 0 where
  digits : ℕ
  shift : ℕ
  is : n ≡ digits * 2 ^ shift
  few : digits < 2 ^ 53

module _ (l : Layer) (k : ℕ) (f : finite 23 8 l.reference ≡ true) (e : l.exponent ≤ 277) (h : k < 65535) where
  -- the sizes of the reference, of the code times the step, and of the meaning
  abbrev r : ℕ
  r = magnitude 23 8 l.reference

  abbrev A : ℕ
  A = size 23 r

  abbrev B : ℕ
  B = k * 2 ^ l.exponent

  abbrev pub n : ℕ
  n = distance (code_meaning 23 8 l k) (origin 23 8)

  A_below : A < origin 23 8
  A_below = size_below 23 8 (finite_below 23 8 l.reference f)

  -- the meaning lies above zero by both sizes, or by the second less the first
  place : (code_meaning 23 8 l k ≡ origin 23 8 + (A + B)) ⊎ (code_meaning 23 8 l k + A ≡ origin 23 8 + B)
  unfolding code_meaning
  place = go (ℕ_discrete (sign 23 8 l.reference) 0)
    where
      go : Dec (sign 23 8 l.reference ≡ 0) → (code_meaning 23 8 l k ≡ origin 23 8 + (A + B)) ⊎ (code_meaning 23 8 l k + A ≡ origin 23 8 + B)
      go (yes z) = inl (rw (position_plus 23 8 l.reference z) (omega arith))
      go (no z) = inr (rw (position_minus 23 8 l.reference z) (omega (arith, A_below)))

  either : (n ≡ A + B) ⊎ (n ≡ distance A B)
  unfolding distance
  either = go place
    where
      go : (code_meaning 23 8 l k ≡ origin 23 8 + (A + B)) ⊎ (code_meaning 23 8 l k + A ≡ origin 23 8 + B) → (n ≡ A + B) ⊎ (n ≡ distance A B)
      go (inl z) = inl (omega arith)
      go (inr z) = inr (omega arith)

  B_small : B < 2 ^ 293
  B_small = lt_of_lt_of_le (shl_lt 16 l.exponent (omega arith)) (pow_mono {i = 16 + l.exponent} {j = 293} (omega arith))

  A_small : A < 2 ^ 293
  A_small = lt_of_lt_of_le (rw origin_is at A_below) (pow_mono {i = 277} {j = 293} (omega arith))

  n_small : n < 2 ^ 294
  n_small = go either
    where
      go : (n ≡ A + B) ⊎ (n ≡ distance A B) → n < 2 ^ 294
      go (inl z) = rw z (both 293 A B A_small B_small)
      go (inr z) = rw z (lt_of_le_of_lt (distance_le A B) (both 293 A B A_small B_small))

  pub whole : (x y u : ℕ) → A ≡ x * 2 ^ u → B ≡ y * 2 ^ u → x + y < 2 ^ 53 → Few n
  whole x y u a b s = go either
    where
      go : (n ≡ A + B) ⊎ (n ≡ distance A B) → Few n
      go (inl z) = record { digits = x + y; shift = u; is = omega (arith, z, a, b); few = s }
      go (inr z) = record { digits = distance x y; shift = u; is = z ∙ ap₂ distance a b ∙ scaled x y (2 ^ u); few = lt_of_le_of_lt (distance_le x y) s }

  pub zero_bits : r ≡ 0 → Few n
  zero_bits z = whole 0 k l.exponent (ap (size 23) z ∙ size_small 23 0 (omega arith) ∙ sym (zero-mul (2 ^ l.exponent))) refl (omega arith)

  -- a spacing of the reference is so many steps, or a step so many of its spacings
  pub step_bits : CodeOf l k → l.exponent + l.width ≤ spacing_exp 23 r + 53 → spacing_exp 23 r ≤ l.exponent + 29 → Few n
  step_bits c a b = go (form 23 r) (dec_le l.exponent q)
    where
      q : ℕ
      q = spacing_exp 23 r

      -- the code takes l .width bits, and a step D spacings at most
      D : ℕ
      D = 2 ^ (53 - l.width)

      few : (s : Form 23 r) → s.sig + k * 2 ^ (l.exponent - q) < 2 ^ 53
      few s =
          omega (
            arith,
            s.below,
            mul-le-mul_left k (pow_mono {i = l.exponent - q} {j = 53 - l.width} (omega arith)),
            mul-le-mul_right D (code_low l.width k c.1),
            pow_split 53 l.width (omega arith),
            pow_mono {i = 37} {j = 53 - l.width} (omega arith),
          )

      go : Form 23 r → Dec (l.exponent ≤ q) → Few n
      go s (yes d) =
          whole (s.sig * 2 ^ (q - l.exponent)) k l.exponent
          (size_form 23 r s ∙ ap (λ (x : ℕ). s.sig * x) (pow_split q l.exponent d) ∙ sym (mul_assoc s.sig (2 ^ (q - l.exponent)) (2 ^ l.exponent))) refl
          (let w : s.sig * 2 ^ (q - l.exponent) ≤ 16777215 * 2 ^ 29 = mul-le-mul {n₂ = 16777215} (omega (arith, s.below)) (pow_mono {i = q - l.exponent} {j = 29} (omega arith)) in omega arith)
      go s (no d) =
          whole s.sig (k * 2 ^ (l.exponent - q)) q (size_form 23 r s)
          (ap (λ (x : ℕ). k * x) (pow_split l.exponent q (omega arith)) ∙ sym (mul_assoc k (2 ^ (l.exponent - q)) (2 ^ q)))
          (few s)

  pub held_bits : CodeOf l k → HeldIn53 l → Few n
  held_bits c (inl z) = zero_bits (omega arith)
  held_bits c (inr (a, b)) = step_bits c (omega arith) (omega arith)

  room : 2 * (n * 2 ^ 925) < size 52 (infinity 52 11)
  room = room_of n n_small

  -- the double is the nearest magnitude, with the meaning's sign
  abbrev side : ℕ
  side = cond (leb (origin 23 8) (code_meaning 23 8 l k)) 0 1

  double_is : double l k ≡ pattern 52 11 side (v 52 11 (n * 2 ^ 925) room)
  double_is = go (dec_le (origin 23 8) (code_meaning 23 8 l k)) ∙ ap (pattern 52 11 side) (near_magnitude (n * 2 ^ 925) room)
    where
      go : Dec (origin 23 8 ≤ code_meaning 23 8 l k) → double l k ≡ pattern 52 11 side (nearest_magnitude (n * 2 ^ 925))
      go (yes o) = rw (le-leb (origin 23 8) (code_meaning 23 8 l k) o) (from_zero (code_meaning 23 8 l k) o)
      go (no o) = rw (lt-leb (origin 23 8) (code_meaning 23 8 l k) (omega arith)) (below_zero (code_meaning 23 8 l k) (omega arith))

  double_magnitude : magnitude 52 11 (double l k) ≡ v 52 11 (n * 2 ^ 925) room
  double_magnitude = ap (magnitude 52 11) double_is ∙ magnitude_pattern 52 11 side (v 52 11 (n * 2 ^ 925) room) (v_finite 52 11 (n * 2 ^ 925) room)

  pub double_finite : finite 52 11 (double l k) ≡ true
  double_finite = below_finite 52 11 (double l k) (rw double_magnitude (v_finite 52 11 (n * 2 ^ 925) room))

  pub double_sign : sign 52 11 (double l k) ≡ side
  double_sign = ap (sign 52 11) double_is ∙ sign_pattern 52 11 side (v 52 11 (n * 2 ^ 925) room) (v_finite 52 11 (n * 2 ^ 925) room)

  pub within : 2 * distance (size 52 (magnitude 52 11 (double l k))) (meaning_size l k) ≤ spacing 52 (magnitude 52 11 (double l k))
  within = rw double_magnitude (near_half 52 11 (n * 2 ^ 925) room)

  pub by_bits : Few n → size 52 (magnitude 52 11 (double l k)) ≡ meaning_size l k
  by_bits b =
      ap (size 52) double_magnitude
      ∙ near_exact 52 11 (n * 2 ^ 925) room b.digits (b.shift + 925) b.few
      (ap (λ (x : ℕ). x * 2 ^ 925) b.is ∙ mul_assoc b.digits (2 ^ b.shift) (2 ^ 925) ∙ ap (λ (x : ℕ). b.digits * x) (sym (pow-add 2 b.shift 925)))

  -- the same of signed sizes: the meaning's and zero, in least spacings of doubles
  abbrev P : ℕ
  P = code_meaning 23 8 l k * 2 ^ 925

  abbrev Z : ℕ
  Z = origin 23 8 * 2 ^ 925

  abbrev pub S : ℕ
  S = size 52 (magnitude 52 11 (double l k))

  S_below : S ≤ origin 52 11
  S_below = le_of_lt (rw double_magnitude (size_below 52 11 (v_finite 52 11 (n * 2 ^ 925) room)))

  signed : distance (P + origin 52 11) (position 52 11 (double l k) + Z) ≡ distance S (meaning_size l k)
  signed = go (dec_le (origin 23 8) (code_meaning 23 8 l k))
    where
      size_apart : distance P Z ≡ meaning_size l k
      size_apart = scaled (code_meaning 23 8 l k) (origin 23 8) (2 ^ 925)

      go : Dec (origin 23 8 ≤ code_meaning 23 8 l k) → distance (P + origin 52 11) (position 52 11 (double l k) + Z) ≡ distance S (meaning_size l k)
      go (yes o) =
          let z : sign 52 11 (double l k) ≡ 0 = rw (le-leb (origin 23 8) (code_meaning 23 8 l k) o) at double_sign in
          rw (position_plus 52 11 (double l k) z, same_up P Z (origin 52 11) S (mul-le-mul_right (2 ^ 925) o), size_apart) refl
      go (no o) =
          let z : sign 52 11 (double l k) ≡ 1 = rw (lt-leb (origin 23 8) (code_meaning 23 8 l k) (omega arith)) at double_sign in
          let m : sign 52 11 (double l k) ≢ 0 = λ y. absurd (omega (arith, y, z)) in
          let below : P ≤ Z = mul-le-mul_right {m = code_meaning 23 8 l k} {n = origin 23 8} (2 ^ 925) (omega arith) in
          rw (position_minus 52 11 (double l k) m, same_down P Z (origin 52 11) S below S_below, size_apart) refl

  -- a single w less than u / 2 from the meaning
  pub sent : (w u s : ℕ) → 2 * distance (position 23 8 w) (code_meaning 23 8 l k) < u → spacing 52 (magnitude 52 11 (double l k)) ≤ s → 2 * apart w (double l k) < u * 2 ^ 925 + s
  sent w u s d h =
      through_less (position 23 8 w) (code_meaning 23 8 l k) (position 52 11 (double l k) + Z) (origin 52 11) (2 ^ 925) u s (pow_pos 925) d (rw signed (le_trans within h))

  -- ---- a single w at most half a step from the meaning

  module _ (w : ℕ) (d : 2 * distance (position 23 8 w) (code_meaning 23 8 l k) ≤ 2 ^ l.exponent) where
    pub half_exact : S ≡ meaning_size l k → 2 * apart w (double l k) ≤ 2 ^ l.exponent * 2 ^ 925
    half_exact e =
        through_exact (position 23 8 w) (code_meaning 23 8 l k) (position 52 11 (double l k) + Z) (origin 52 11) (2 ^ 925) (2 ^ l.exponent) d
        (rw (signed, e) (distance_self (meaning_size l k)))

    -- Where the meaning is rounded R is tiny, and w lies at least a quarter of a step above zero. So w and half a step are multiples of Q, a 2 ^ 25th of the step; 53 bits hold
    -- w less half a step and w more half a step, and rounding doesn't pass them.
    module _ (some : 1 ≤ k) (tiny : spacing_exp 23 r + 38 ≤ l.exponent) where
      abbrev u : ℕ
      u = l.exponent - 25

      abbrev Q : ℕ
      Q = 2 ^ u

      step_is : 2 ^ l.exponent ≡ 33554432 * Q
      step_is = pow_split l.exponent 25 (omega arith) ∙ mul_comm Q 33554432

      A_tiny : A ≤ 2048 * Q
      A_tiny =
          let s : Form 23 r = form 23 r in
          let p : 2 ^ (spacing_exp 23 r + 13) ≤ Q = pow_mono {i = spacing_exp 23 r + 13} {j = u} (omega arith) in
          omega (arith, size_form 23 r s, mul-le-mul_right {m = s.sig} {n = 16777216} (2 ^ spacing_exp 23 r) (omega (arith, s.below)), rw (pow-add 2 (spacing_exp 23 r) 13) at p)

      B_least : 33554432 * Q ≤ B
      B_least = omega (arith, step_is, mul-le-mul_right (2 ^ l.exponent) some)

      B_most : B ≤ 65534 * (33554432 * Q)
      B_most = rw (← step_is) (mul-le-mul_right {m = k} {n = 65534} (2 ^ l.exponent) (omega arith))

      near_B : (origin 23 8 + B ≤ code_meaning 23 8 l k + 2048 * Q) × (code_meaning 23 8 l k ≤ origin 23 8 + B + 2048 * Q)
      near_B = go place
        where
          go : (code_meaning 23 8 l k ≡ origin 23 8 + (A + B)) ⊎ (code_meaning 23 8 l k + A ≡ origin 23 8 + B)
              → (origin 23 8 + B ≤ code_meaning 23 8 l k + 2048 * Q) × (code_meaning 23 8 l k ≤ origin 23 8 + B + 2048 * Q)
          go (inl z) = (omega (arith, A_tiny), omega (arith, A_tiny))
          go (inr z) = (omega (arith, A_tiny), omega (arith, A_tiny))

      near_w : (code_meaning 23 8 l k ≤ position 23 8 w + 16777216 * Q) × (position 23 8 w ≤ code_meaning 23 8 l k + 16777216 * Q)
      unfolding distance
      near_w = (omega (arith, step_is), omega (arith, step_is))

      w_plus : sign 23 8 w ≡ 0
      w_plus = go (ℕ_discrete (sign 23 8 w) 0)
        where
          go : Dec (sign 23 8 w ≡ 0) → sign 23 8 w ≡ 0
          go (yes z) = z
          go (no z) = absurd (omega (arith, position_minus 23 8 w z, near_B, near_w, B_least, pow_pos u))

      abbrev W : ℕ
      W = size 23 (magnitude 23 8 w)

      w_is : position 23 8 w ≡ origin 23 8 + W
      w_is = position_plus 23 8 w w_plus

      abbrev q : ℕ
      q = spacing_exp 23 (magnitude 23 8 w)

      abbrev a : ℕ
      a = (form 23 (magnitude 23 8 w)).sig * 2 ^ (q - u)

      W_is : W ≡ a * Q
      W_is = size_form 23 (magnitude 23 8 w) s ∙ ap (λ (x : ℕ). s.sig * x) (pow_split q u (go (dec_le u q))) ∙ sym (mul_assoc s.sig (2 ^ (q - u)) Q)
        where
          s : Form 23 (magnitude 23 8 w)
          s = form 23 (magnitude 23 8 w)

          go : Dec (u ≤ q) → u ≤ q
          go (yes o) = o
          go (no o) =
              let p : 2 ^ suc q ≤ Q = pow_mono {i = suc q} {j = u} (omega arith) in
              let t : s.sig * 2 ^ q ≤ 16777216 * 2 ^ q = mul-le-mul_right (2 ^ q) (omega (arith, s.below)) in
              absurd (omega (arith, size_form 23 (magnitude 23 8 w) s, t, rw (pow-suc 2 q) at p, near_B, near_w, B_least, w_is, pow_pos u))

      few : a + 16777216 < 2 ^ 53
      few = go (dec_lt (a + 16777216) (2 ^ 53))
        where
          go : Dec (a + 16777216 < 2 ^ 53) → a + 16777216 < 2 ^ 53
          go (yes o) = o
          go (no o) = absurd (omega (arith, mul-le-mul_right {m = 2 ^ 53} {n = a + 16777216} Q (omega arith), W_is, w_is, near_B, near_w, B_most, pow_pos u))

      n_is : code_meaning 23 8 l k ≡ origin 23 8 + n
      unfolding distance
      n_is = omega (arith, near_B, B_least)

      abbrev T : ℕ
      T = 2 ^ (u + 925)

      shift : (x : ℕ) → x * Q * 2 ^ 925 ≡ x * T
      shift x = mul_assoc x Q (2 ^ 925) ∙ ap (λ (y : ℕ). x * y) (sym (pow-add 2 u 925))

      S_most : S ≤ (a + 16777216) * T
      S_most =
          rw double_magnitude
          (near_most 52 11 (n * 2 ^ 925) room (a + 16777216) (u + 925) few
          (rw (← shift (a + 16777216)) (mul-le-mul_right (2 ^ 925) (omega (arith, n_is, near_w, w_is, W_is)))))

      S_least : a * T ≤ S + 16777216 * T
      S_least = go (dec_le 16777216 a)
        where
          go : Dec (16777216 ≤ a) → a * T ≤ S + 16777216 * T
          go (yes o) =
              let b : ℕ = a - 16777216 in
              let e' : a ≡ b + 16777216 = omega arith in
              let x : b * Q + 16777216 * Q ≡ a * Q = sym (ap (λ (x : ℕ). x * Q) e' ∙ add-mul b 16777216 Q) in
              let y : b * T + 16777216 * T ≡ a * T = sym (ap (λ (x : ℕ). x * T) e' ∙ add-mul b 16777216 T) in
              let z : b * T ≤ S =
              rw double_magnitude
              (near_least 52 11 (n * 2 ^ 925) room b (u + 925) (omega (arith, few))
              (rw (← shift b) (mul-le-mul_right (2 ^ 925) (omega (arith, n_is, near_w, w_is, W_is))))) in
              omega arith
          go (no o) = omega (arith, mul-le-mul_right {m = a} {n = 16777216} T (omega arith))

      pub half_tiny : 2 * apart w (double l k) ≤ 2 ^ l.exponent * 2 ^ 925
      half_tiny =
          let z : sign 52 11 (double l k) ≡ 0 = rw (le-leb (origin 23 8) (code_meaning 23 8 l k) (omega (arith, n_is))) at double_sign in
          let up : Z ≤ position 23 8 w * 2 ^ 925 = mul-le-mul_right {m = origin 23 8} {n = position 23 8 w} (2 ^ 925) (omega (arith, w_is)) in
          let is : distance (position 23 8 w) (origin 23 8) ≡ a * Q = sym (apart_up (position 23 8 w) (origin 23 8) (omega (arith, w_is))) ∙ omega (arith, w_is, W_is) in
          rw (position_plus 52 11 (double l k) z, same_up (position 23 8 w * 2 ^ 925) Z (origin 52 11) S up, scaled (position 23 8 w) (origin 23 8) (2 ^ 925), is, shift a, step_is, shift 33554432)
          (landed a T S S_most S_least)
