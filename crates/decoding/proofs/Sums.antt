-- Only the addition rounds: a code times the step is exact, so that the float formula gives the double nearest to the exact R plus code times the step.
-- Sizes are counted in least spacings of singles, 2^-149; E is counted from -149.
use mathlib.Core.Path.{◌≡◌, refl, sym, ap, ◌∙◌}
use mathlib.Core.Bool.{Bool, true, false, cond}
use Prim.Native.Nat.{ℕ, suc, ◌+◌, ◌-◌, ◌*◌, ◌^◌, ◌≤◌, ◌<◌}
use native.Mathlib.Nat.{lt_of_lt_of_le, lt_of_not-le, mul_assoc, mul-mul-mul_comm, mul-one, mul-pos, not-le_of_lt, one-mul}
use native.Mathlib.Decide.{dec_lt}
use native.Mathlib.Omega.{arith}
use borrow.Author.Tests.{lt-ltb, le-ltb}
use lib.Dec.{ltb}
use lib.IntN.{ℤ, pos, negsuc}
use lib.Pow.{pow_pos, pow-add, pow_mono, shl_lt}
use lib.Ieee.{Float, nan, inf, fin, Format, binary64, up, down, unlike, round, sum, add, mul, of_int}
use lib.Ieee.Back.{round_whole}
use lib.Ieee.Exact.{HasValue, round_exact}
use lib.Ieee.Fits.{down_pos}
use lib.Ieee.Scale.{round_same}
use Rattle.meaning.specs.Questions.{above, exponent_in_range}
use Rattle.absolute.proofs.Values.{left_cross, right_cross, minus_cross, less_cross, add_values}
use Rattle.decoding.specs.declared.LayerFloats.{LayerFloats}
use Rattle.decoding.specs.Floats.{two_to, unpacked}
use Rattle.decoding.proofs.Steps.{most, least}

-- ---- products and differences by value

mul_values : (f : Format) (s t : Bool) (a c b d : ℕ) → 0 < c → 0 < d → (x y : Float) → HasValue x s a c → HasValue y t b d → mul f x y ≡ round f (unlike s t) (a * b) (c * d)
unfolding mul
mul_values f s t a c b d p q nan y h k = absurd h
mul_values f s t a c b d p q (inf u) y h k = absurd h
mul_values f s t a c b d p q (fin u m e) nan h k = absurd k
mul_values f s t a c b d p q (fin u m e) (inf v) h k = absurd k
mul_values f s t a c b d p q (fin u m e) (fin v n g) h k =
    rw (h.0, k.0)
    (round_same f (unlike s t) (m * up e * (n * up g)) (down e * down g) (a * b) (c * d) (mul-pos (down_pos e) (down_pos g)) (mul-pos p q)
    (mul-mul-mul_comm (m * up e) (n * up g) c d ∙ rw (h.1, k.1) (mul-mul-mul_comm a (down e) b (down g))))

-- a / c less b / c, by its sign
pub add_minus : (f : Format) (a b c : ℕ) → 0 < c → (x y : Float) → HasValue x false a c → HasValue y true b c
    → add f x y ≡ cond (ltb a b) (round f true (b - a) c) (round f false (a - b) c)
unfolding add sum
add_minus f a b c p nan y h k = absurd h
add_minus f a b c p (inf u) y h k = absurd h
add_minus f a b c p (fin u m e) nan h k = absurd k
add_minus f a b c p (fin u m e) (inf v) h k = absurd k
add_minus f a b c p (fin u m e) (fin v n g) h k = rw (h.0, k.0) (go (dec_lt a b))
  where
    A : ℕ
    A = m * up e * down g

    B : ℕ
    B = n * up g * down e

    C : ℕ
    C = down e * down g

    P : 0 < C
    P = mul-pos (down_pos e) (down_pos g)

    l : A * c ≡ a * C
    l = left_cross (m * up e) a c (down g) (down e) h.1

    r : B * c ≡ b * C
    r = right_cross (n * up g) b c (down g) (down e) k.1

    go : Dec (a < b) → cond (ltb A B) (round f true (B - A) C) (round f false (A - B) C) ≡ cond (ltb a b) (round f true (b - a) c) (round f false (a - b) c)
    go (yes o) =
        let o' : A < B = lt_of_not-le (λ (z : B ≤ A). not-le_of_lt o (less_cross a b c A B C P (sym l) (sym r) z)) in
        rw (lt-ltb a b o, lt-ltb A B o') (round_same f true (B - A) C (b - a) c P p (minus_cross B A C b a c r l))
    go (no o) =
        let w : b ≤ a = omega arith in
        rw (le-ltb a b w, le-ltb A B (less_cross A B C a b c p l r w)) (round_same f false (A - B) C (a - b) c P p (minus_cross A B C a b c l r))

-- ---- the product

-- 2^e is 2 ^ (above 149 e) least spacings
step_value : (e : ℤ) → exponent_in_range e ≡ true → HasValue (two_to e) false (2 ^ above 149 e) (2 ^ 149)
unfolding above
step_value (pos k) t = (refl, rw one-mul (sym (pow-add 2 k 149) ∙ ap (λ (n : ℕ). 2 ^ n) {x = k + 149} {y = 149 + k} (omega arith) ∙ sym (mul-one (2 ^ (149 + k)))))
step_value (negsuc k) t =
    (refl, one-mul (2 ^ 149) ∙ ap (λ (n : ℕ). 2 ^ n) {x = 149} {y = 149 - suc k + suc k} (omega (arith, least k t)) ∙ pow-add 2 (149 - suc k) (suc k))

pub exponent_most : (e : ℤ) → exponent_in_range e ≡ true → above 149 e ≤ 277
unfolding above
exponent_most (pos k) t = omega (arith, most k t)
exponent_most (negsuc k) t = omega arith

-- c * 2 ^ (E - 149), for a c of 53 bits, is a double
exact : (c E : ℕ) → c < 2 ^ 53 → E ≤ 277 → HasValue (round binary64 false (c * 2 ^ E) (2 ^ 149)) false (c * 2 ^ E) (2 ^ 149)
exact c E h k =
    round_exact binary64 false (c * 2 ^ E) (2 ^ 149) c (925 + E) (pow_pos 149) h
    (lt_of_lt_of_le (shl_lt 53 (925 + E) h) (pow_mono {i = 53 + (925 + E)} {j = 2098} (omega arith)))
    (mul_assoc c (2 ^ E) (2 ^ 1074)
    ∙ ap (λ (z : ℕ). c * z) (sym (pow-add 2 E 1074) ∙ ap (λ (n : ℕ). 2 ^ n) {x = E + 1074} {y = 925 + E + 149} (omega arith) ∙ pow-add 2 (925 + E) 149)
    ∙ sym (mul_assoc c (2 ^ (925 + E)) (2 ^ 149)))

pub product_exact : (code : ℕ) (e : ℤ) → code < 2 ^ 53 → exponent_in_range e ≡ true
    → HasValue (mul binary64 (of_int binary64 (pos code)) (two_to e)) false (code * 2 ^ above 149 e) (2 ^ 149)
unfolding of_int
product_exact code e h t =
    let x = round binary64 false code 1 in
    let v = round_whole binary64 false code (omega arith) in
    rw (
      mul_values binary64 false false code 1 (2 ^ above 149 e) (2 ^ 149) (pow_pos 0) (pow_pos 149) x (two_to e) v (step_value e t),
      one-mul (2 ^ 149),
    )
    (exact code (above 149 e) h (exponent_most e t))

-- ---- the sum: of a reference that is not negative, and of one that is

module _ (l : LayerFloats) (code : ℕ) (e : ℤ) (a : ℕ) (h : code < 2 ^ 16) (t : exponent_in_range e ≡ true) (q : l.step ≡ two_to e) where
  pub unpacked_plus : HasValue l.reference false a (2 ^ 149) → unpacked l code ≡ round binary64 false (code * 2 ^ above 149 e + a) (2 ^ 149)
  unfolding unpacked
  unpacked_plus v = rw q (add_values binary64 (code * 2 ^ above 149 e) a (2 ^ 149) (pow_pos 149) _ l.reference (product_exact code e (omega arith) t) v)

  pub unpacked_minus : HasValue l.reference true a (2 ^ 149)
      → unpacked l code
      ≡ cond (ltb (code * 2 ^ above 149 e) a) (round binary64 true (a - code * 2 ^ above 149 e) (2 ^ 149)) (round binary64 false (code * 2 ^ above 149 e - a) (2 ^ 149))
  unfolding unpacked
  unpacked_minus v = rw q (add_minus binary64 (code * 2 ^ above 149 e) a (2 ^ 149) (pow_pos 149) _ l.reference (product_exact code e (omega arith) t) v)
