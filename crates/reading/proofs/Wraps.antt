-- Sums and differences of words that wrap around: below W, and below 2 * A, where the top bit is a word's quotient by A.
use mathlib.Core.Path.{◌≡◌, refl, sym, ap, ◌∙◌}
use mathlib.Core.Logic.{◌⊎◌, inl, inr}
use mathlib.Core.Bool.{cond}
use Prim.Native.Nat.{ℕ, ◌+◌, ◌-◌, ◌*◌, ◌/◌, ◌%◌, ◌<◌, ◌≤◌}
use native.Mathlib.Nat.{mod-add-mod, add-mod_right, mod-eq_of_lt, div-add-mod', div-eq_of_lt, div-eq_of_lt-le}
use native.Mathlib.Decide.{dec_lt}
use native.Mathlib.Omega.{arith}
use borrow.Author.Tests.{lt-ltb, le-ltb}
use lib.Dec.{eqb, ltb}

-- a difference that wraps around
pub wrapped : (W d p x : ℕ) → d < W → p < W → (d + p) % W ≡ x → d ≡ (x + (W - p)) % W
wrapped W d p x hd hp e =
    let f : d + p + (W - p) ≡ d + W = omega arith in
    sym (ap (λ (y : ℕ). (y + (W - p)) % W) (sym e) ∙ mod-add-mod (d + p) W (W - p) ∙ ap (λ (y : ℕ). y % W) f ∙ add-mod_right d W ∙ mod-eq_of_lt hd)

pub taken_back : (W up back : ℕ) → up < W → back ≤ W → ((up + (W - back)) % W + back) % W ≡ up
taken_back W up back h k =
    let f : up + (W - back) + back ≡ up + W = omega arith in
    mod-add-mod (up + (W - back)) W back ∙ ap (λ (y : ℕ). y % W) f ∙ add-mod_right up W ∙ mod-eq_of_lt h

-- a sum of two numbers below W stays or wraps around once
wraps : (W d p x : ℕ) → d < W → p < W → (d + p) % W ≡ x → (d + p ≡ x) ⊎ (d + p ≡ x + W)
wraps W d p x hd hp e = go (dec_lt (d + p) W)
  where
    go : Dec (d + p < W) → (d + p ≡ x) ⊎ (d + p ≡ x + W)
    go (yes l) = inl (sym (mod-eq_of_lt l) ∙ e)
    go (no l) =
        let k = d + p - W in
        let s : d + p ≡ k + W = omega arith in
        let is : x ≡ k = sym e ∙ ap (λ (y : ℕ). y % W) s ∙ add-mod_right k W ∙ mod-eq_of_lt (omega arith) in
        inr (omega (arith, s, is))

-- ---- numbers below 2 * A, by their top bit and the rest

data Half (A n : ℕ) : Type 0 where
  below : n < A → n / A ≡ 0 → n % A ≡ n → Half A n
  above : A ≤ n → n / A ≡ 1 → n % A ≡ n - A → Half A n

half : (A n : ℕ) → n < 2 * A → Half A n
half A n h = go (dec_lt n A)
  where
    go : Dec (n < A) → Half A n
    go (yes l) = below l (div-eq_of_lt l) (mod-eq_of_lt l)
    go (no l) =
        let one : n / A ≡ 1 = div-eq_of_lt-le A (omega arith) (omega arith) in
        let parts = div-add-mod' n A in
        let e : n / A * A ≡ 1 * A = ap (λ (y : ℕ). y * A) one in
        above (omega arith) one (omega (arith, parts, e))

-- d is x - p, wrapped around: its top bit against that of x says whether the rest of p is the larger, turned round where p has the top bit
module _ (A x p d : ℕ) (hx : x < 2 * A) (hp : p < 2 * A) (hd : d < 2 * A) (sum : (d + p) % (2 * A) ≡ x) where
  either : {T : Type 0} → (d + p ≡ x → T) → (d + p ≡ x + 2 * A → T) → T
  either {T = T} f g = go (wraps (2 * A) d p x hd hp sum)
    where
      go : (d + p ≡ x) ⊎ (d + p ≡ x + 2 * A) → T
      go (inl e) = f e
      go (inr e) = g e

  low : d < A → d / A ≡ 0
  low = div-eq_of_lt

  top : A ≤ d → d / A ≡ 1
  top l = div-eq_of_lt-le A (omega arith) (omega arith)

  pub top_bit : ◌≡◌ {A = ℕ} (cond (eqb (x / A) (d / A)) 0 1) (cond (eqb (p / A) 0) (cond (ltb (x % A) (p % A)) 1 0) (cond (ltb (x % A) (p % A)) 0 1))
  top_bit = go (half A x hx) (half A p hp) (dec_lt (x % A) (p % A))
    where
      go : Half A x → Half A p → Dec (x % A < p % A)
          → ◌≡◌ {A = ℕ} (cond (eqb (x / A) (d / A)) 0 1) (cond (eqb (p / A) 0) (cond (ltb (x % A) (p % A)) 1 0) (cond (ltb (x % A) (p % A)) 0 1))
      go (below a ax am) (below b bx bm) (yes l) =
          let g = top (either (λ k. omega (arith, k, am, bm)) (λ k. omega (arith, k, am, bm))) in
          rw (ax, bx, g, lt-ltb (x % A) (p % A) l) refl
      go (below a ax am) (below b bx bm) (no l) =
          let g = low (either (λ k. omega (arith, k, am, bm)) (λ k. omega (arith, k, am, bm))) in
          rw (ax, bx, g, le-ltb (x % A) (p % A) (omega arith)) refl
      go (below a ax am) (above b bx bm) (yes l) =
          let g = low (either (λ k. omega (arith, k, am, bm)) (λ k. omega (arith, k, am, bm))) in
          rw (ax, bx, g, lt-ltb (x % A) (p % A) l) refl
      go (below a ax am) (above b bx bm) (no l) =
          let g = top (either (λ k. omega (arith, k, am, bm)) (λ k. omega (arith, k, am, bm))) in
          rw (ax, bx, g, le-ltb (x % A) (p % A) (omega arith)) refl
      go (above a ax am) (below b bx bm) (yes l) =
          let g = low (either (λ k. omega (arith, k, am, bm)) (λ k. omega (arith, k, am, bm))) in
          rw (ax, bx, g, lt-ltb (x % A) (p % A) l) refl
      go (above a ax am) (below b bx bm) (no l) =
          let g = top (either (λ k. omega (arith, k, am, bm)) (λ k. omega (arith, k, am, bm))) in
          rw (ax, bx, g, le-ltb (x % A) (p % A) (omega arith)) refl
      go (above a ax am) (above b bx bm) (yes l) =
          let g = top (either (λ k. omega (arith, k, am, bm)) (λ k. omega (arith, k, am, bm))) in
          rw (ax, bx, g, lt-ltb (x % A) (p % A) l) refl
      go (above a ax am) (above b bx bm) (no l) =
          let g = low (either (λ k. omega (arith, k, am, bm)) (λ k. omega (arith, k, am, bm))) in
          rw (ax, bx, g, le-ltb (x % A) (p % A) (omega arith)) refl
