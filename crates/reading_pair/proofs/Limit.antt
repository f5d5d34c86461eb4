-- The limit's magnitude is finite, and its size is at most 2 ^ q: that of 2 ^ q itself, or 0.
use mathlib.Core.Path.{◌≡◌, sym, ap, ◌∙◌}
use mathlib.Core.Logic.{inr}
use Prim.Native.Nat.{ℕ, suc, ◌+◌, ◌-◌, ◌*◌, ◌^◌, ◌≤◌, ◌<◌, zero-le}
use native.Mathlib.Nat.{le_of_eq, mul_comm, mul-lt-mul_of_pos_right, zero-mul}
use native.Mathlib.Decide.{dec_lt}
use native.Mathlib.Omega.{arith}
use lib.Pow.{pow_pos}
use Rattle.meaning.specs.Readings.{size, infinity}
use Rattle.meaning.proofs.Powers.{pow_split}
use Rattle.meaning.proofs.Sizes.{size_at}
use Rattle.meaning.proofs.Absolute.{size_zero}
use Rattle.reading_pair.specs.Limit.{limit_for}

module _ (F q : ℕ) where
  power_size : F ≤ q → size F ((suc q - F) * 2 ^ F) ≡ 2 ^ q
  power_size h =
      ap (λ (m : ℕ). size F m) {x = (suc q - F) * 2 ^ F} {y = (q - F) * 2 ^ F + 2 ^ F} (let e : suc q - F ≡ suc (q - F) = omega arith in rw e (omega arith))
      ∙ size_at F (q - F) (2 ^ F) (inr (omega arith)) (omega (arith, pow_pos F))
      ∙ mul_comm (2 ^ F) (2 ^ (q - F))
      ∙ sym (pow_split q F h)

  limit_size : size F (limit_for F q) ≤ 2 ^ q
  unfolding limit_for
  limit_size = go (dec_lt q F)
    where
      go : Dec (q < F) → size F ((suc q - F) * 2 ^ F) ≤ 2 ^ q
      go (yes h) = let e : suc q - F ≡ 0 = omega arith in rw (e, zero-mul (2 ^ F), size_zero F) zero-le
      go (no h) = le_of_eq (power_size (omega arith))

  -- the same of a number that is the limit's magnitude
  pub limit_small : (limit : ℕ) → limit ≡ limit_for F q → size F limit ≤ 2 ^ q
  limit_small limit e = rw e limit_size

  pub limit_finite : (X : ℕ) → q + 2 < 2 ^ X + F → 1 < 2 ^ X → limit_for F q < infinity F X
  unfolding limit_for infinity
  limit_finite X h o = mul-lt-mul_of_pos_right (omega arith) (pow_pos F)
