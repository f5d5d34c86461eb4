-- The law of the tail with the table's numbers, for doubles (k = 0) and for singles, whose least spacing is 2^925 times that of doubles (k = 925).
use mathlib.Core.Path.{◌≡◌, refl, sym, ap, ◌∙◌}
use Prim.Native.Nat.{ℕ, ◌+◌, ◌-◌, ◌*◌, ◌/◌, ◌^◌, ◌≤◌, ◌<◌}
use native.Mathlib.Nat.{zero-add}
use native.Mathlib.Numerals.{add-one}
use native.Mathlib.Omega.{arith}
use lib.Dec.{lit<}
use Rattle.meaning.specs.Readings.{exponent_field, size, spacing_exp, infinity, least_exp}
use Rattle.meaning.specs.Methods.{digits, decade, new_magnitude, halfshaved}
use Rattle.digit_tails.proofs.Digit.{decade_finer}
use Rattle.digit_tails.proofs.Tail.{beyond, within}

-- what a tail function ensures of its result
abbrev pub Tail : ℕ → ℕ → ℕ → ℕ → ℕ → Type 0
Tail F X n m r = (r ≤ F) × (new_magnitude F X (digits n) 0 m ≡ halfshaved r m)

field_less : (F m : ℕ) → m / 2 ^ F - 1 ≡ spacing_exp F m
unfolding spacing_exp exponent_field
field_less F m = omega arith

small : 2 ^ 1074 < 10 ^ 324
small = lit< tt

module _ (F X k r n m : ℕ) (base : least_exp F X + k ≡ 1074) (place : decade F X m + k ≡ r + 751) (one : 1 ≤ n) (p : 0 < m) (f : m < infinity F X) where
  none : r < n → Tail F X n m 0
  none l = (omega arith, beyond F X k 323 751 r n m base place one p f small l)

  some : (j i c : ℕ) → i + n ≡ r → 2 ^ j * 10 ^ 323 ≤ 2 ^ 1074 * 10 ^ i → 2 ^ 1074 * 10 ^ i < 2 ^ (j + 1) * 10 ^ 323 → c ≡ k + spacing_exp F m → Tail F X n m (j - c)
  some j i c s low high e =
      let w = within F X k 323 751 r n m base place one p f j i s low (rw (add-one j) at high) in
      rw e (w.1, w.0)

module _ (r n m : ℕ) (place : decade 52 11 m ≡ r + 751) (one : 1 ≤ n) (p : 0 < m) (f : m < 0x7ff0_0000_0000_0000) where
  pub double_none : r < n → Tail 52 11 n m 0
  unfolding least_exp infinity
  double_none l = none 52 11 0 r n m refl (omega (arith, place)) one p f l

  pub double_some : (j i c : ℕ) → i + n ≡ r → (2 ^ j * 10 ^ 323 ≤ 2 ^ 1074 * 10 ^ i) × (2 ^ 1074 * 10 ^ i < 2 ^ (j + 1) * 10 ^ 323) → c ≡ m / 2 ^ 52 - 1 → Tail 52 11 n m (j - c)
  unfolding least_exp infinity
  double_some j i c s b e = some 52 11 0 r n m refl (omega (arith, place)) one p f j i c s b.0 b.1 (e ∙ field_less 52 m ∙ sym (zero-add (spacing_exp 52 m)))

module _ (r n m w : ℕ) (place : decade 52 11 w ≡ r + 751) (same : size 52 w ≡ size 23 m * 2 ^ (least_exp 52 11 - least_exp 23 8)) (one : 1 ≤ n) (p : 0 < m) (f : m < 0x7f80_0000) (q : 0 < w) where
  place_of : decade 23 8 m + 925 ≡ r + 751
  unfolding least_exp
  place_of = sym (decade_finer 23 8 52 11 925 m w refl same p q) ∙ place

  pub single_none : r < n → Tail 23 8 n m 0
  unfolding least_exp infinity
  single_none l = none 23 8 925 r n m refl place_of one p f l

  pub single_some : (j i c : ℕ) → i + n ≡ r → (2 ^ j * 10 ^ 323 ≤ 2 ^ 1074 * 10 ^ i) × (2 ^ 1074 * 10 ^ i < 2 ^ (j + 1) * 10 ^ 323) → c ≡ m / 2 ^ 23 - 1 → Tail 23 8 n m (j - (925 + c))
  unfolding least_exp infinity
  single_some j i c s b e = some 23 8 925 r n m refl place_of one p f j i (925 + c) s b.0 b.1 (ap (λ (x : ℕ). 925 + x) (e ∙ field_less 23 m))
