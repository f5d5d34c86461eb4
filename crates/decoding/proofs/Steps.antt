-- 2^E by its double pattern, (E + 1023) * 2^52, for every E that a step has.
use mathlib.Core.Path.{◌≡◌, refl, sym, ap, ◌∙◌, subst}
use mathlib.Core.Bool.{Bool, true, false, cond}
use Prim.Native.Nat.{ℕ, suc, ◌+◌, ◌-◌, ◌*◌, ◌/◌, ◌%◌, ◌^◌, ◌≤◌, ◌<◌}
use native.Mathlib.Omega.{arith}
use borrow.Author.Tests.{leb-true, lt-leb, le-leb, ne_eqb, le-ltb}
use lib.Dec.{leb, eqb}
use lib.IntN.{ℤ, pos, negsuc, ◌+ℤ◌}
use lib.Signed.{lt_z, mag}
use lib.Ieee.{nan, inf, fin, binary64, of_bits, of_fields, odd, minus}
use mir.Facts.{to_z-of_z}
use mir.Syntax.{w32}
use mir.Val.{SFits, to_z, of_z}
use Rattle.meaning.specs.Questions.{above, exponent_in_range}
use Rattle.meaning.proofs.Accepted.{and_first}
use Rattle.asking.proofs.Signs.{add_above}
use Rattle.decoding.specs.Floats.{two_to}

-- the field x + 1, and no digits
fields : (x : ℕ) → x < 2000 → of_bits binary64 (suc x * 2 ^ 52) ≡ of_fields binary64 false (suc x) 0
unfolding of_bits
fields x h =
    let b : suc x * 2 ^ 52 % 2 ^ 63 / 2 ^ 52 ≡ suc x = omega arith in
    let d : suc x * 2 ^ 52 % 2 ^ 52 ≡ 0 = omega arith in
    rw (lt-leb (2 ^ 63) (suc x * 2 ^ 52) (omega arith), b, d) refl

value : (x : ℕ) → x < 2000 → of_fields binary64 false (suc x) 0 ≡ fin false 1 (minus (x + 52) 1074)
unfolding of_fields odd
value x h = ap (λ (t : Bool). cond t (cond (eqb 0 0) (inf false) nan) (odd 53 false (2 ^ 52 + 0) x 1074)) (ne_eqb (suc x) 2047 (λ e. no e))
  where
    no : suc x ≡ 2047 → ⊥
    no e = omega arith

pub most : (k : ℕ) → exponent_in_range (pos k) ≡ true → k ≤ 128
most k t = leb-true k 128 t

pub least : (k : ℕ) → exponent_in_range (negsuc k) ≡ true → k ≤ 148
least k t = leb-true k 148 (and_first (leb k 148) true t)

pub small : (e : ℤ) → exponent_in_range e ≡ true → (874 ≤ above 1023 e) × (above 1023 e ≤ 1151)
unfolding above
small (pos k) t = (omega arith, omega (arith, most k t))
small (negsuc k) t = (omega (arith, least k t), omega arith)

exponent : (e : ℤ) → exponent_in_range e ≡ true → minus (above 1023 e - 1 + 52) 1074 ≡ e
unfolding above
exponent (pos k) t = rw (le-leb 1074 (1023 + k - 1 + 52) (omega arith)) (ap pos (omega arith))
exponent (negsuc k) t = let h = least k t in rw (lt-leb 1074 (1023 - suc k - 1 + 52) (omega arith)) (ap negsuc (omega arith))

low : (e : ℤ) → exponent_in_range e ≡ true → lt_z e (negsuc 1022) ≡ false
low (pos k) t = refl
low (negsuc k) t = le-ltb 1022 k (omega (arith, least k t))

module _ (e : ℤ) (t : exponent_in_range e ≡ true) where
  pub step_is : of_bits binary64 (above 1023 e * 2 ^ 52) ≡ two_to e
  step_is =
      let b = small e t in
      let x = above 1023 e - 1 in
      let s : above 1023 e ≡ suc x = omega arith in
      ap (λ (n : ℕ). of_bits binary64 (n * 2 ^ 52)) s ∙ fields x (omega arith) ∙ value x (omega arith) ∙ ap (fin false 1) (exponent e t)

  -- the sum as the code has it
  module _ (f : SFits w32 e) where
    sum_is : to_z w32 (of_z w32 e) +ℤ pos 1023 ≡ pos (above 1023 e)
    sum_is = ap (λ (y : ℤ). y +ℤ pos 1023) (to_z-of_z f) ∙ add_above 1022 e (low e t)

    pub sum_fits : SFits w32 (to_z w32 (of_z w32 e) +ℤ pos 1023)
    sum_fits = record { sfits = subst (λ (y : ℤ). mag y < 2147483648) (sym sum_is) (omega (arith, small e t)) }

    pub sum_back : to_z w32 (of_z w32 (to_z w32 (of_z w32 e) +ℤ pos 1023)) ≡ pos (above 1023 e)
    sum_back = to_z-of_z sum_fits ∙ sum_is
