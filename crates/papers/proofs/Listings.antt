-- 003's listings on patterns: a multiple of 2 ^ t, such as the sign, stays out of the mask, and twice one out of the lowest keep bit.
use mathlib.Core.Path.{◌≡◌, sym, ap, ◌∙◌}
use mathlib.Core.Logic.{◌≢◌}
use Prim.Native.Nat.{ℕ, zero, suc, ◌+◌, ◌-◌, ◌*◌, ◌/◌, ◌%◌, ◌^◌, ◌≤◌, ◌<◌}
use native.Mathlib.Nat.{mul-add-div_right, mul-add-mod_self_right, sub-le, pow-suc, mul_assoc, add-mul, add_assoc, not-suc-le-zero}
use native.Mathlib.Omega.{arith}
use borrow.Author.Tests.{leb-false}
use lib.Pow.{pow_pos}
use Rattle.meaning.specs.Readings.{magnitude, sign, pattern, infinity}
use Rattle.meaning.specs.Methods.{Method, tail, shave, halfshave, round, rounded, tail_changed, clips, new_magnitude, result}
use Rattle.meaning.proofs.Powers.{pow_split}
use Rattle.meaning.proofs.Patterns.{pattern_back}
use Rattle.meaning.proofs.Nearest.{nearest_add}
use Rattle.meaning.proofs.Rounding.{round_within}
use Rattle.meaning.proofs.Accepted.{Ready}
use Rattle.papers.specs.Listings.{masked, masked_half, added_masked, Listings}
use Rattle.papers.proofs.TailValues.{tail_new, shave_is, halfshave_some}
use Rattle.papers.proofs.Apart.{result_is}

-- a multiple of 2 ^ t passes the mask
masked_multiple : (t a y : ℕ) → masked t (a * 2 ^ t + y) ≡ a * 2 ^ t + masked t y
unfolding masked
masked_multiple t a y = rw (mul-add-div_right (pow_pos t) a y) (add-mul a (y / 2 ^ t) (2 ^ t))

-- an even one leaves the lowest keep bit
lowest_even : (t a y : ℕ) → (a * 2 * 2 ^ t + y) / 2 ^ t % 2 ≡ y / 2 ^ t % 2
lowest_even t a y = rw (mul-add-div_right (pow_pos t) (a * 2) y) (mul-add-mod_self_right a 2 (y / 2 ^ t))

added_multiple : (t a y : ℕ) → added_masked t (a * 2 * 2 ^ t + y) ≡ a * 2 * 2 ^ t + added_masked t y
unfolding added_masked
added_multiple t a y = rw (lowest_even t a y, add_assoc (a * 2 * 2 ^ t) y (y / 2 ^ t % 2 + (2 ^ (t - 1) - 1))) (masked_multiple t (a * 2) (y + (y / 2 ^ t % 2 + (2 ^ (t - 1) - 1))))

added_rounds : (t m : ℕ) → 0 < t → added_masked t m ≡ rounded t m
unfolding added_masked masked rounded
added_rounds zero m h = absurd (not-suc-le-zero h)
added_rounds (suc t) m h =
    let two : 2 ^ suc t ≡ 2 * 2 ^ t = omega arith in
    let i : suc t - 1 ≡ t = omega arith in
    rw (i, two, nearest_add m (2 ^ t) (pow_pos t))
    (ap (λ (x : ℕ). x / (2 * 2 ^ t) * (2 * 2 ^ t)) (let e : m + (m / (2 * 2 ^ t) % 2 + (2 ^ t - 1)) ≡ m + (2 ^ t - 1) + m / (2 * 2 ^ t) % 2 = omega arith in e))

half_halfshaves : (turn t m : ℕ) → 0 < t → m ≢ 0 → tail_changed halfshave turn t m ≡ masked_half t m
unfolding masked_half masked
half_halfshaves turn zero m h z = absurd (not-suc-le-zero h)
half_halfshaves turn (suc t) m h z = let i : suc t - 1 ≡ t = omega arith in rw i (halfshave_some turn t m z)

mask_shaves : (turn t m : ℕ) → tail_changed shave turn t m ≡ masked t m
unfolding masked
mask_shaves turn t m = shave_is turn t m

module _ (F X : ℕ) where
  -- the sign as a multiple
  sign_multiple : (t s : ℕ) → t ≤ F + X → s * 2 ^ (F + X) ≡ s * 2 ^ (F + X - t) * 2 ^ t
  sign_multiple t s h = ap (λ (x : ℕ). s * x) (pow_split (F + X) t h) ∙ sym (mul_assoc s (2 ^ (F + X - t)) (2 ^ t))

  module _ (t s m : ℕ) (h : t ≤ F) where
    masked_pattern : masked t (pattern F X s m) ≡ pattern F X s (masked t m)
    unfolding pattern
    masked_pattern = rw (sign_multiple t s (omega arith)) (masked_multiple t (s * 2 ^ (F + X - t)) m)

    half_pattern : masked_half t (pattern F X s m) ≡ pattern F X s (masked_half t m)
    unfolding masked_half pattern
    half_pattern = omega (arith, masked_pattern)

    added_pattern : 1 ≤ X → added_masked t (pattern F X s m) ≡ pattern F X s (added_masked t m)
    unfolding pattern
    added_pattern x =
        let e : s * 2 ^ (F + X) ≡ s * 2 ^ (F + X - suc t) * 2 * 2 ^ t = sign_multiple (suc t) s (omega arith) ∙ rw (pow-suc 2 t) (omega arith) in
        rw e (added_multiple t (s * 2 ^ (F + X - suc t)) m)

  -- a listing that does to magnitudes what the method does, and leaves the sign, does to patterns what the method does
  lifts : (x : Method) (r : Ready x) (turn w : ℕ) (f : ℕ → ℕ) → new_magnitude F X x turn (magnitude F X w) ≡ f (magnitude F X w)
      → f (pattern F X (sign F X w) (magnitude F X w)) ≡ pattern F X (sign F X w) (f (magnitude F X w)) → result F X x turn w ≡ f w
  lifts x r turn w f e p = result_is F X x r turn w ∙ ap (pattern F X (sign F X w)) e ∙ sym p ∙ ap f (pattern_back F X w)

  pub listings : Listings F X
  unfolding clips
  listings =
      record {
        A1_shaves = λ k turn w.
            lifts (tail shave k) tt turn w (masked (F - k)) (tail_new F X shave k turn (magnitude F X w) ∙ mask_shaves turn (F - k) (magnitude F X w))
            (masked_pattern (F - k) (sign F X w) (magnitude F X w) (sub-le F k));
        A2_halfshaves = λ k turn w h z.
            lifts (tail halfshave k) tt turn w (masked_half (F - k))
            (tail_new F X halfshave k turn (magnitude F X w) ∙ half_halfshaves turn (F - k) (magnitude F X w) (omega arith) z)
            (half_pattern (F - k) (sign F X w) (magnitude F X w) (sub-le F k));
        A4_rounds = λ x k turn w h c.
            lifts (round k) tt turn w (added_masked (F - k))
            (round_within F X k turn (magnitude F X w) (leb-false (infinity F X) (rounded (F - k) (magnitude F X w)) c)
            ∙ sym (added_rounds (F - k) (magnitude F X w) (omega arith)))
            (added_pattern (F - k) (sign F X w) (magnitude F X w) (sub-le F k) x);
      }
