-- 001's digits: the relative bound of k keep bits, the decade of the reading and 10 ^ n ≤ 2 ^ (k - 1).
use mathlib.Core.Path.{◌≡◌, refl, ap}
use mathlib.Core.Bool.{Bool, true, ◌&&◌}
use Prim.Native.Nat.{ℕ, zero, suc, ◌+◌, ◌-◌, ◌*◌, ◌^◌, ◌≤◌, ◌<◌}
use native.Mathlib.Nat.{mul-le-mul, mul-le-mul_left, mul-lt-mul_of_pos_right, not-suc-le-zero, one-le-pow}
use native.Mathlib.Decide.{ℕ_discrete}
use native.Mathlib.Omega.{arith}
use borrow.Author.Tests.{leb-true, ltb-true}
use lib.Dec.{leb, ltb}
use lib.Pow.{pow_pos, pow-add}
use Rattle.meaning.specs.Readings.{size, magnitude, least_exp}
use Rattle.meaning.specs.Methods.{TailMethod, tail, round, unit, decade}
use Rattle.meaning.proofs.Powers.{pow_split}
use Rattle.meaning.proofs.Digits.{Decade, decade_rule}
use Rattle.meaning.proofs.Accepted.{and_first, and_second}
use Rattle.papers.specs.Moved.{moved, Normal}
use Rattle.papers.specs.Decimal.{keep_bits_of, KeepBits, HalfDigit, DecimalBounds}
use Rattle.papers.proofs.Bounds.{unit_bounds}
use Rattle.papers.proofs.Relative.{relative_bounds}

-- a test of the numbers below n
below : (ℕ → Bool) → ℕ → Bool
below test zero = true
below test (suc n) = test n && below test n

below_at : (test : ℕ → Bool) (n : ℕ) → below test n ≡ true → (i : ℕ) → i < n → test i ≡ true
unfolding below
below_at test zero e i h = absurd (not-suc-le-zero h)
below_at test (suc n) e i h = go (ℕ_discrete i n) (below_at test n (and_second (test n) (below test n) e) i)
  where
    go : Dec (i ≡ n) → (i < n → test i ≡ true) → test i ≡ true
    go (yes z) ih = rw z (and_first (test n) (below test n) e)
    go (no z) ih = ih (omega arith)

few : ℕ → Bool
few i = leb (2 * 10 ^ suc i) (2 ^ keep_bits_of (suc i))

fewer : ℕ → Bool
fewer i = ltb (2 ^ (keep_bits_of (suc i) - 1)) (2 * 10 ^ suc i)

enough_for : (n : ℕ) → 1 ≤ n → n ≤ 15 → 2 * 10 ^ n ≤ 2 ^ keep_bits_of n
unfolding below few keep_bits_of
enough_for zero a b = absurd (not-suc-le-zero a)
enough_for (suc i) a b = leb-true (2 * 10 ^ suc i) (2 ^ keep_bits_of (suc i)) (below_at few 15 refl i b)

fewest_for : (n : ℕ) → 1 ≤ n → n ≤ 15 → 2 ^ (keep_bits_of n - 1) < 2 * 10 ^ n
unfolding below fewer keep_bits_of
fewest_for zero a b = absurd (not-suc-le-zero a)
fewest_for (suc i) a b = ltb-true (2 ^ (keep_bits_of (suc i) - 1)) (2 * 10 ^ suc i) (below_at fewer 15 refl i b)

pub keep_bits : KeepBits
unfolding keep_bits_of
keep_bits = record { table = refl; enough = enough_for; fewest = fewest_for }

module _ (F X : ℕ) where
  abbrev B : ℕ
  B = least_exp F X

  -- a distance of less than 2 ^ -k of the reading
  kept : (n k w d : ℕ) → Normal F X w → 2 * 10 ^ n ≤ 2 ^ k → d * 2 ^ k < size F (magnitude F X w) → HalfDigit F X n w d
  kept n k w d h l m = go (decade_rule F X (magnitude F X w) (omega (arith, pow_pos F)))
    where
      A : ℕ
      A = 10 ^ B

      go : Decade F X (magnitude F X w) (decade F X (magnitude F X w)) → HalfDigit F X n w d
      go r =
          let a : d * A * (2 * 10 ^ n) ≤ d * A * 2 ^ k = mul-le-mul_left (d * A) l in
          let b : d * 2 ^ k * A < size F (magnitude F X w) * A = mul-lt-mul_of_pos_right m (one-le-pow B 10 (omega arith)) in
          let e : 2 * d * 10 ^ (B + n) ≡ 2 * d * (A * 10 ^ n) = ap (λ (x : ℕ). 2 * d * x) (pow-add 10 B n) in
          omega (arith, r.under)

  tail_kept : (c : TailMethod) (n k mark turn w : ℕ) → Normal F X w → 2 * 10 ^ n ≤ 2 ^ k → HalfDigit F X n w (moved F X (tail c k) mark turn w)
  tail_kept c n k mark turn w h l = kept n k w _ h l ((relative_bounds F X).tail_relative c k mark turn w h)

  -- round moves by half of what shave may
  round_less : (k mark turn w : ℕ) → Normal F X w → moved F X (round k) mark turn w * 2 ^ k < size F (magnitude F X w)
  round_less k mark turn w h =
      let d : ℕ = moved F X (round k) mark turn w in
      let e : d * 2 ^ (k + 1) ≡ d * (2 ^ k * 2) = ap (λ (x : ℕ). d * x) (pow-add 2 k 1) in
      omega (arith, (relative_bounds F X).round_relative k mark turn w h, e)

  pub decimal_bounds : DecimalBounds F X
  unfolding unit
  decimal_bounds =
      record {
        digits_kept = λ c n k mark turn w h l. tail_kept c n k mark turn w h (omega arith);
        nsd_kept = λ c n mark turn w h a b. tail_kept c n (keep_bits_of n) mark turn w h (keep_bits.enough n a b);
        round_kept = λ n mark turn w h a b. kept n (keep_bits_of n) w _ h (keep_bits.enough n a b) (round_less (keep_bits_of n) mark turn w h);
        places_kept = λ r s mark turn w h l c.
            let e : 2 ^ B ≡ 2 ^ (B - s) * 2 ^ s = pow_split B s h in
            rw e (mul-le-mul ((unit_bounds F X).absolute_moves (B - s) mark turn w c) l);
      }
