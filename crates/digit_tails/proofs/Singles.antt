-- The double of the same size as a single. The least spacing of singles is 2^925 times that of doubles, and a single's significand stands 29 bits higher in a double.
use mathlib.Core.Path.{◌≡◌, sym, ap, ◌∙◌}
use mathlib.Core.Logic.{◌⊎◌, inl, inr}
use Prim.Native.Nat.{ℕ, zero, suc, ◌+◌, ◌-◌, ◌*◌, ◌^◌, ◌≤◌, ◌<◌}
use native.Mathlib.Nat.{pow-suc, mul-one, mul_assoc, zero-mul}
use native.Mathlib.Omega.{arith}
use lib.Pow.{pow-add}
use Rattle.meaning.specs.Readings.{size, spacing_exp, least_exp}
use Rattle.meaning.proofs.Powers.{pow_split}
use Rattle.meaning.proofs.Sizes.{Form, form, size_form, size_at, size_small}
use Rattle.digit_tails.proofs.Digit.{exponent_le}

-- K stands for 896, so that nothing here computes a number of that many bits
placed : (K f x s : ℕ) → 2 ^ 23 ≤ x → x < 2 ^ 24 → x * 2 ^ f ≡ s * 2 ^ K → size 52 (f * 2 ^ 52 + x * 2 ^ 29) ≡ s * 2 ^ (K + 29)
placed K f x s l h e = size_at 52 f (x * 2 ^ 29) (inr (omega arith)) (omega arith) ∙ rw (pow-add 2 K 29) (omega (arith, ap (λ (y : ℕ). y * 2 ^ 29) e))

normal : (K m : ℕ) → 2 ^ 23 ≤ m → size 52 (m * 2 ^ 29 + K * 2 ^ 52) ≡ size 23 m * 2 ^ (K + 29)
normal K m h = go (form 23 m) (form 23 m).above
  where
    c : ℕ
    c = spacing_exp 23 m

    at : (f : Form 23 m) → 2 ^ 23 ≤ f.sig → size 52 (m * 2 ^ 29 + K * 2 ^ 52) ≡ size 23 m * 2 ^ (K + 29)
    at f l =
        let e : m * 2 ^ 29 + K * 2 ^ 52 ≡ (c + K) * 2 ^ 52 + f.sig * 2 ^ 29 = omega (arith, f.is) in
        let s : f.sig * 2 ^ (c + K) ≡ size 23 m * 2 ^ K = rw (pow-add 2 c K, size_form 23 m f) (sym (mul_assoc f.sig (2 ^ c) (2 ^ K))) in
        rw e (placed K (c + K) f.sig (size 23 m) l (omega (arith, f.below)) s)

    go : (f : Form 23 m) → (c ≡ 0) ⊎ (2 ^ 23 ≤ f.sig) → size 52 (m * 2 ^ 29 + K * 2 ^ 52) ≡ size 23 m * 2 ^ (K + 29)
    go f (inl z) = at f (omega (arith, f.is, z))
    go f (inr l) = at f l

pub normal_widened : (m : ℕ) → 2 ^ 23 ≤ m → size 52 (m * 2 ^ 29 + 0x3800_0000_0000_0000) ≡ size 23 m * 2 ^ (least_exp 52 11 - least_exp 23 8)
unfolding least_exp
normal_widened m h = normal 896 m h

-- m doubled, and the exponent field lowered by one as often
pub record Doubled (m x f : ℕ) : Type 0 where
  pub is : x ≡ m * 2 ^ (896 - f)
  pub short : x < 2 ^ 24
  pub high : f ≤ 896
  pub some : 0 < x

pub start : (m : ℕ) → 0 < m → m < 2 ^ 23 → Doubled m m 896
start m p h = record { is = sym (mul-one m); short = omega arith; high = omega arith; some = p }

-- after at most 23 times the significand is normal
pub room : (m x f : ℕ) → Doubled m x f → 873 ≤ f
room m x f d = go m d.is
  where
    go : (n : ℕ) → x ≡ n * 2 ^ (896 - f) → 873 ≤ f
    go zero e = absurd (omega (arith, d.some, zero-mul (2 ^ (896 - f))))
    go (suc n) e = omega (arith, exponent_le 2 (omega arith) {i = 896 - f} {j = 23} {x = x} (omega arith) d.short)

pub turn : (m x f : ℕ) → x < 2 ^ 23 → Doubled m x f → Doubled m (x * 2) (f - 1)
turn m x f h d =
    let r : 873 ≤ f = room m x f d in
    let e : 896 - (f - 1) ≡ suc (896 - f) = omega (arith, d.high) in
    record {
      is = rw (e, pow-suc 2 (896 - f)) (omega (arith, d.is));
      short = omega arith;
      high = omega (arith, d.high);
      some = omega (arith, d.some);
    }

finish_at : (K m x f : ℕ) → f ≤ K → x ≡ m * 2 ^ (K - f) → 2 ^ 23 ≤ x → x < 2 ^ 24 → m < 2 ^ 23 → size 52 (f * 2 ^ 52 + x * 2 ^ 29) ≡ size 23 m * 2 ^ (K + 29)
finish_at K m x f l e h k s =
    rw (size_small 23 m s)
    (placed K f x m h k (rw (pow_split K f l, e) (mul_assoc m (2 ^ (K - f)) (2 ^ f))))

pub finish : (m x f : ℕ) → m < 2 ^ 23 → 2 ^ 23 ≤ x → Doubled m x f → size 52 (f * 2 ^ 52 + x * 2 ^ 29) ≡ size 23 m * 2 ^ (least_exp 52 11 - least_exp 23 8)
unfolding least_exp
finish m x f s h d = finish_at 896 m x f d.high d.is h d.short s
