-- A magnitude beside the grid of its tail: its significand is some whole tails and a rest, and both neighbours on the grid lie in its closed binade, where one size
-- formula serves.
use mathlib.Core.Path.{◌≡◌, sym, ap, ◌∙◌}
use mathlib.Core.Logic.{◌⊎◌, inl, inr}
use Prim.Native.Nat.{ℕ, suc, ◌+◌, ◌-◌, ◌*◌, ◌/◌, ◌%◌, ◌^◌, ◌≤◌, ◌<◌}
use native.Mathlib.Nat.{div-add-mod', mod-lt, le-div_iff_mul-le, div-lt_iff_lt-mul, div-eq_of_lt-le, mul-le-mul_right}
use native.Mathlib.Omega.{arith}
use lib.Pow.{pow_pos}
use Rattle.meaning.specs.Readings.{spacing_exp, spacing, size}
use Rattle.meaning.specs.Methods.{shaved}
use Rattle.meaning.proofs.Sizes.{Form, form, size_at}
use Rattle.meaning.proofs.Powers.{pow_split}

pub record Grid (F m t : ℕ) : Type 0 where
  pub whole : ℕ
  pub rest : ℕ
  pub is : m ≡ spacing_exp F m * 2 ^ F + (whole * 2 ^ t + rest)
  pub less : rest < 2 ^ t
  pub low : (spacing_exp F m ≡ 0) ⊎ (2 ^ F ≤ whole * 2 ^ t)
  pub high : (spacing_exp F m ≡ 0) ⊎ (2 ^ F ≤ suc whole * 2 ^ t)
  pub top : suc whole * 2 ^ t ≤ 2 * 2 ^ F

module _ (F m t : ℕ) (h : t ≤ F) where
  pub grid : Grid F m t
  grid = go (form F m)
    where
      g : ℕ
      g = 2 ^ t

      K : 2 ^ F ≡ 2 ^ (F - t) * g
      K = pow_split F t h

      low_of : (f : Form F m) → (spacing_exp F m ≡ 0) ⊎ (2 ^ F ≤ f.sig) → (spacing_exp F m ≡ 0) ⊎ (2 ^ F ≤ f.sig / g * g)
      low_of f (inl z) = inl z
      low_of f (inr l) =
          inr (omega (arith, K, mul-le-mul_right g ((le-div_iff_mul-le {k = g} {x = 2 ^ (F - t)} {y = f.sig} (pow_pos t)).1 (omega (arith, K)))))

      high_of : (j : ℕ) → (spacing_exp F m ≡ 0) ⊎ (2 ^ F ≤ j * g) → (spacing_exp F m ≡ 0) ⊎ (2 ^ F ≤ suc j * g)
      high_of j (inl z) = inl z
      high_of j (inr l) = inr (omega arith)

      go : Form F m → Grid F m t
      go f =
          record {
            whole = f.sig / g;
            rest = f.sig % g;
            is = f.is ∙ ap (λ (x : ℕ). spacing_exp F m * 2 ^ F + x) (sym (div-add-mod' f.sig g));
            less = mod-lt f.sig (pow_pos t);
            low = low_of f f.above;
            high = high_of (f.sig / g) (low_of f f.above);
            top =
                omega (arith, K, mul-le-mul_right g ((div-lt_iff_lt-mul {k = g} {x = f.sig} {y = 2 * 2 ^ (F - t)} (pow_pos t)).1 (omega (arith, K, f.below))));
          }

  -- S is the lower neighbour
  pub shaved_is : (d : Grid F m t) → shaved t m ≡ spacing_exp F m * 2 ^ F + d.whole * 2 ^ t
  unfolding shaved
  shaved_is d =
      let c : ℕ = spacing_exp F m in
      let K : 2 ^ F ≡ 2 ^ (F - t) * 2 ^ t = pow_split F t h in
      let e : c * 2 ^ F ≡ c * 2 ^ (F - t) * 2 ^ t = rw K (omega arith) in
      let q : m / 2 ^ t ≡ c * 2 ^ (F - t) + d.whole = div-eq_of_lt-le (2 ^ t) (omega (arith, d.is, e)) (omega (arith, d.is, d.less, e)) in
      rw q (omega (arith, e))

  -- S and S + 2^t, taken as patterns, stand one unit apart
  pub unit_apart : size F (shaved t m + 2 ^ t) ≡ size F (shaved t m) + 2 ^ t * spacing F m
  unfolding spacing
  unit_apart =
      let d = grid in
      let c : ℕ = spacing_exp F m in
      let e : c * 2 ^ F + d.whole * 2 ^ t + 2 ^ t ≡ c * 2 ^ F + suc d.whole * 2 ^ t = omega arith in
      rw (shaved_is d, e, size_at F c (d.whole * 2 ^ t) d.low (omega (arith, d.top)), size_at F c (suc d.whole * 2 ^ t) d.high d.top) (omega arith)
