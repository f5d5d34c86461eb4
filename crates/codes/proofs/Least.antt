-- The least exponent that holds a span, by a search downwards.
use Rattle.std.proofs.Common.{◌≡◌, ℕ, ◌+◌, ◌-◌, ◌*◌, ◌/◌, ◌^◌, ◌<◌, ◌≤◌, max, ◌⊎◌, sym, ap, inl, inr, zero-le, le_trans, mul-le-mul_right, mul_comm, div-lt_iff_lt-mul, mul-le-mul_left, mul-lt-mul_of_pos_right, arith, pow_pos, pow_mono, pow-add, le-leb}
use native.Mathlib.Nat.{mul-sub}
use native.Mathlib.Decide.{dec_lt, dec_le}
use Rattle.meaning.specs.Readings.{spacing_exp, size, sign, magnitude, infinity, exponent_field, position}
use Rattle.meaning.specs.Layers.{last_code, holds, least_from}
use Rattle.meaning.proofs.Sizes.{Form, form, size_form}
use Rattle.meaning.proofs.Powers.{pow_split}
use Rattle.meaning.proofs.Packing.{holds_order, least_holds, least_least}
use Rattle.codes.proofs.Reading.{diff_le, shift_bound}
use Rattle.codes.proofs.Wide.{two_values}

-- an exponent that holds n, and is 0 or has a lower neighbour that does not, is the one that the definition finds
pub least_is : (b n e : ℕ) → e ≤ 277 → n ≤ last_code b * 2 ^ e → (e ≡ 0) ⊎ (last_code b * 2 ^ (e - 1) < n) → e ≡ least_from b n 277 0
unfolding holds
least_is b n e h p q = go q (dec_lt e f) (dec_lt f e)
  where
    f : ℕ
    f = least_from b n 277 0

    found : n ≤ last_code b * 2 ^ f
    found = holds_order b n f (least_holds b n 277 0 (le-leb n (last_code b * 2 ^ 277) (le_trans p (mul-le-mul_left (last_code b) (pow_mono {i = e} {j = 277} h)))))

    go : (e ≡ 0) ⊎ (last_code b * 2 ^ (e - 1) < n) → Dec (e < f) → Dec (f < e) → e ≡ f
    go x (yes l) k = absurd (omega (arith, least_least b n 277 0 e zero-le (le-leb n (last_code b * 2 ^ e) p)))
    go (inl x) (no l) (yes k) = absurd (omega arith)
    go (inr x) (no l) (yes k) = absurd (omega (arith, found, mul-le-mul_left (last_code b) (pow_mono {i = f} {j = e - 1} (omega arith))))
    go x (no l) (no k) = omega arith

-- from 26 - width on the steps of a width hold every span of sizes below 2 ^ 24
steps_start : (b : ℕ) → 2 ≤ b → b ≤ 16 → 2 ^ 25 ≤ last_code b * 2 ^ (26 - b)
unfolding last_code
steps_start b l h =
    let P = 2 ^ (26 - b) in
    let whole : P * 2 ^ b ≡ 2 ^ 26 = sym (pow_split 26 b (omega arith)) in
    omega (arith, whole, mul_comm (2 ^ b - 2) P, mul-sub P (2 ^ b) 2, pow_mono {i = 26 - b} {j = 24} (omega arith))

-- a word is wide enough for the units of a span at the exponent below one that holds it
pub lower_small : (n e : ℕ) → n ≤ 65534 * 2 ^ e → n * 2 / 2 ^ (e - 1 - 39) < 2 ^ 60
lower_small n e h = (div-lt_iff_lt-mul {k = 2 ^ (e - 1 - 39)} {x = n * 2} {y = 2 ^ 60} (pow_pos (e - 1 - 39))).1 (omega (arith, grow (dec_le 40 e), pow_pos (e - 1 - 39)))
  where
    grow : Dec (40 ≤ e) → 2 ^ e ≤ 2 ^ 40 * 2 ^ (e - 1 - 39)
    grow (yes l) = let z : e - 40 ≡ e - 1 - 39 = omega arith in omega (arith, pow_split e 40 l, ap (λ (x : ℕ). 2 ^ x) z)
    grow (no l) = omega (arith, pow_mono {i = e} {j = 40} (omega arith), pow_pos (e - 1 - 39))

size_below : (m x : ℕ) → spacing_exp 23 m ≤ x → size 23 m < 2 ^ 24 * 2 ^ x
size_below m x h =
    let f : Form 23 m = form 23 m in
    let q : f.sig * 2 ^ spacing_exp 23 m < 2 ^ 24 * 2 ^ spacing_exp 23 m = mul-lt-mul_of_pos_right (omega (arith, f.below)) (pow_pos (spacing_exp 23 m)) in
    omega (arith, size_form 23 m f, pow_mono h)

pub shift_finite : (m : ℕ) → m < infinity 23 8 → spacing_exp 23 m ≤ 253
unfolding spacing_exp exponent_field infinity
shift_finite m h = omega arith

module _ (lo hi : ℕ) (rs : sign 23 8 lo ≤ 1) (fl : magnitude 23 8 lo < infinity 23 8) (fh : magnitude 23 8 hi < infinity 23 8) (d : position 23 8 lo < position 23 8 hi) where
  -- where the search begins
  pub start_holds : (b x y z : ℕ) → 2 ≤ b → b ≤ 16 → x ≡ spacing_exp 23 (magnitude 23 8 lo) → y ≡ spacing_exp 23 (magnitude 23 8 hi) → z ≡ max x y
      → (position 23 8 hi - position 23 8 lo ≤ last_code b * 2 ^ (z + 26 - b)) × (z + 26 - b ≤ 277)
  start_holds b x y z low high u v c =
      let p : spacing_exp 23 (magnitude 23 8 lo) ≤ z = omega arith in
      let q : spacing_exp 23 (magnitude 23 8 hi) ≤ z = omega arith in
      let n : position 23 8 hi - position 23 8 lo ≤ 2 ^ 25 * 2 ^ z =
      omega (arith, diff_le hi lo rs fh fl (omega arith), size_below (magnitude 23 8 lo) z p, size_below (magnitude 23 8 hi) z q) in
      let i : z + 26 - b ≡ 26 - b + z = omega arith in
      let m : 2 ^ 25 * 2 ^ z ≤ last_code b * 2 ^ (26 - b) * 2 ^ z = mul-le-mul_right (2 ^ z) (steps_start b low high) in (
        rw i (rw (pow-add 2 (26 - b) z) (omega (arith, n, m))),
        omega (arith, shift_finite (magnitude 23 8 lo) fl, shift_finite (magnitude 23 8 hi) fh),
      )

  -- what the test below e asks for
  pub lower_shifts : (e : ℕ) → position 23 8 hi - position 23 8 lo ≤ 65534 * 2 ^ e
      → (spacing_exp 23 (magnitude 23 8 hi) < e - 1 - 39 + 64) × (spacing_exp 23 (magnitude 23 8 lo) < e - 1 - 39 + 64)
  lower_shifts e h =
      let a = shift_bound (magnitude 23 8 hi) e (two_values hi lo e fh fl (λ z. omega arith) (omega arith) (omega arith)) in
      let b = shift_bound (magnitude 23 8 lo) e (two_values lo hi e fl fh (λ z. omega arith) (omega arith) (omega arith)) in
      (omega arith, omega arith)
