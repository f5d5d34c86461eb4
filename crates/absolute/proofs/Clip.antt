-- Where method 5 never clips: with a unit of at most the spacing at the largest finite magnitude, whose size is then a multiple of the unit. So the nearest multiple
-- to a finite size can't pass it. For singles that is every q up to 253, for doubles up to 2045.
use mathlib.Core.Path.{◌≡◌, sym, ap, ◌∙◌}
use mathlib.Core.Logic.{inr}
use mathlib.Core.Bool.{false}
use Prim.Native.Nat.{ℕ, ◌+◌, ◌-◌, ◌*◌, ◌^◌, ◌≤◌, ◌<◌}
use native.Mathlib.Nat.{le_refl, le_trans, mul_assoc, mul-le-mul_right}
use native.Mathlib.Omega.{arith}
use borrow.Author.Tests.{le-ltb}
use lib.Pow.{pow_pos}
use Rattle.meaning.specs.Readings.{spacing_exp, size, infinity, largest}
use Rattle.meaning.specs.Methods.{absolute, multiple, clips}
use Rattle.meaning.proofs.Nearest.{nearest_between}
use Rattle.meaning.proofs.Powers.{pow_split}
use Rattle.meaning.proofs.Rounding.{cap}
use Rattle.meaning.proofs.Sizes.{form, size_form, size_le, spacing_at_lem, spacing_mono}

-- the magnitudes from 2 ^ (F + q) least spacings on have a spacing of at least 2 ^ q
pub spacing_from : (F q m : ℕ) → (q + 1) * 2 ^ F ≤ m → q ≤ spacing_exp F m
spacing_from F q m h = le_trans (spacing_at_lem F q (2 ^ F) (inr (le_refl (2 ^ F)))) (spacing_mono F {m = q * 2 ^ F + 2 ^ F} {n = m} (omega arith))

module _ (F X q m : ℕ) (room : q + 2 < 2 ^ X) (fin : m < infinity F X) where
  pub multiple_cap : multiple F q m ≤ cap F X
  unfolding multiple infinity
  multiple_cap =
      let e = spacing_exp F (largest F X) in
      let s = form F (largest F X) in
      let k = s.sig * 2 ^ (e - q) in
      let up : (q + 2) * 2 ^ F ≤ (2 ^ X - 1) * 2 ^ F = mul-le-mul_right (2 ^ F) (omega arith) in
      let o : q ≤ e = spacing_from F q (largest F X) (omega (arith, pow_pos F)) in
      let w : cap F X ≡ k * 2 ^ q = size_form F (largest F X) s ∙ ap (λ (x : ℕ). s.sig * x) (pow_split e q o) ∙ sym (mul_assoc s.sig (2 ^ (e - q)) (2 ^ q)) in
      let n : size F m ≤ cap F X = size_le F {m = m} {n = largest F X} (omega arith) in
      rw w (mul-le-mul_right (2 ^ q) (nearest_between 0 k (size F m) (2 ^ q) (pow_pos q) (omega arith) (omega arith)).1)

  pub never_clips : clips F X (absolute q) m ≡ false
  unfolding clips
  never_clips = le-ltb (cap F X) (multiple F q m) multiple_cap
