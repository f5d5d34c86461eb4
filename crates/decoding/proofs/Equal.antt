-- Two doubles that are not negative are equal exactly where their values are.
use mathlib.Core.Path.{◌≡◌, refl, sym, ap, ◌∙◌}
use Prim.Native.Nat.{ℕ, ◌*◌, ◌^◌, ◌≤◌, ◌<◌}
use native.Mathlib.Nat.{mul-pos, mul_assoc, mul_comm, mul_right_comm, eq_of_mul-eq-mul_right}
use native.Mathlib.Decide.{ℕ_discrete}
use borrow.Author.Tests.{eq-eqb, ne_eqb}
use mathlib.Core.Logic.{◌≢◌}
use mathlib.Core.Bool.{false}
use lib.Dec.{eqb}
use lib.IntN.{pos}
use lib.Pow.{pow_pos}
use lib.Ieee.{Float, nan, inf, fin, binary64, up, down, level, eq, of_int}
use lib.Ieee.Back.{round_whole}
use lib.Ieee.Exact.{HasValue}
use lib.Ieee.Fits.{down_pos}

pub values_equal : (x y : Float) (a b c : ℕ) → 0 < c → HasValue x false a c → HasValue y false b c → eq x y ≡ eqb a b
unfolding eq
values_equal nan y a b c p h k = absurd h
values_equal (inf s) y a b c p h k = absurd h
values_equal (fin s m e) nan a b c p h k = absurd k
values_equal (fin s m e) (inf t) a b c p h k = absurd k
values_equal (fin s m e) (fin t n d) a b c p h k = rw (h.0, k.0) (go (ℕ_discrete a b))
  where
    A : ℕ
    A = m * up e * down d

    B : ℕ
    B = n * up d * down e

    A_is : m * up e * down d * c ≡ a * (down e * down d)
    A_is = mul_right_comm (m * up e) (down d) c ∙ ap (λ (x : ℕ). x * down d) h.1 ∙ mul_assoc a (down e) (down d)

    B_is : n * up d * down e * c ≡ b * (down e * down d)
    B_is = mul_right_comm (n * up d) (down e) c ∙ ap (λ (x : ℕ). x * down e) k.1 ∙ mul_assoc b (down d) (down e) ∙ ap (λ (x : ℕ). b * x) (mul_comm (down d) (down e))

    go : Dec (a ≡ b) → level false A false B ≡ eqb a b
    go (yes z) =
        let same = eq_of_mul-eq-mul_right c p (m * up e * down d) (n * up d * down e) (A_is ∙ ap (λ (x : ℕ). x * (down e * down d)) z ∙ sym B_is) in
        rw (eq-eqb (m * up e * down d) (n * up d * down e) same, eq-eqb a b z) refl
    go (no z) =
        let other : m * up e * down d ≢ n * up d * down e =
        λ w. z (eq_of_mul-eq-mul_right (down e * down d) (mul-pos (down_pos e) (down_pos d)) a b (sym A_is ∙ ap (λ (x : ℕ). x * c) w ∙ B_is)) in
        rw (ne_eqb (m * up e * down d) (n * up d * down e) other, ne_eqb a b z) refl

-- whole numbers that doubles hold
pub codes_equal : (a b : ℕ) → a ≤ 2 ^ 53 → b ≤ 2 ^ 53 → eq (of_int binary64 (pos a)) (of_int binary64 (pos b)) ≡ eqb a b
unfolding of_int
codes_equal a b h k = values_equal _ _ a b 1 (pow_pos 0) (round_whole binary64 false a h) (round_whole binary64 false b k)
