-- A row's bit of a word: what an exclusive or does to it, the bit of one row alone, and how the code asks for it.
use mathlib.Core.Path.{◌≡◌, refl, sym, ap, ◌∙◌}
use mathlib.Core.Logic.{◌≢◌, ⊎_elim}
use mathlib.Core.Bool.{Bool, true, false, cond}
use Prim.Native.Nat.{ℕ, suc, ◌+◌, ◌-◌, ◌*◌, ◌/◌, ◌%◌, ◌^◌, ◌<◌}
use native.Mathlib.Nat.{zero-div, one-mul, zero-mul, mod-lt, div-eq_of_lt}
use native.Mathlib.Decide.{dec_lt, ℕ_discrete}
use native.Mathlib.Omega.{arith}
use borrow.Author.Tests.{eq-eqb, ne_eqb}
use lib.Bits.{bit_and, bit_xor, and_high, xor_shr, xor_mod}
use lib.Dec.{eqb}
use lib.Pow.{pow-lt, pow_pos, pow-add, shl-shr}
use Rattle.meaning.specs.Methods.{trimmable}
use Rattle.meaning.proofs.Powers.{pow_split}
use Rattle.reading.specs.Left.{takes}
use Rattle.loops.specs.Methods.{Filling}
use Rattle.rows.specs.Rows.{bit_of}

pub bit_xor_lem : (r a b : ℕ) → bit_of r (bit_xor a b) ≡ bit_xor (bit_of r a) (bit_of r b)
unfolding bit_of
bit_xor_lem r a b = ap (λ (n : ℕ). n % 2) (xor_shr a b r) ∙ xor_mod (a / 2 ^ r) (b / 2 ^ r) 1

pub bit_few : (r a : ℕ) → bit_of r a < 2
unfolding bit_of
bit_few r a = mod-lt (a / 2 ^ r) (omega arith)

pub bit_zero : (r : ℕ) → bit_of r 0 ≡ 0
unfolding bit_of
bit_zero r = rw (zero-div (2 ^ r)) refl

-- ---- the bit of one row alone

own : (r : ℕ) → bit_of r (2 ^ r) ≡ 1
unfolding bit_of
own r = ap (λ (n : ℕ). n % 2) (ap (λ (n : ℕ). n / 2 ^ r) (sym (one-mul (2 ^ r))) ∙ shl-shr 1 r)

other : (r q : ℕ) → r ≢ q → bit_of r (2 ^ q) ≡ 0
unfolding bit_of
other r q d = go (dec_lt q r)
  where
    go : Dec (q < r) → 2 ^ q / 2 ^ r % 2 ≡ 0
    go (yes l) = rw (div-eq_of_lt (pow-lt l)) refl
    go (no l) =
        let e : q - r ≡ suc (q - r - 1) = omega arith in
        rw (pow_split q r (omega arith), shl-shr (2 ^ (q - r)) r, e) (omega arith)

pub bit_takes : (F X mark w r q : ℕ) → bit_of r (takes F X (2 ^ q) mark w) ≡ cond (eqb r q) (takes F X 1 mark w) 0
unfolding takes
bit_takes F X mark w r q = go (trimmable F X mark w) (ℕ_discrete r q)
  where
    go : (b : Bool) → Dec (r ≡ q) → bit_of r (cond b (2 ^ q) 0) ≡ cond (eqb r q) (cond b 1 0) 0
    go true (yes e) = rw (eq-eqb r q e, e) (own q)
    go true (no d) = rw (ne_eqb r q d) (other r q d)
    go false (yes e) = rw (eq-eqb r q e) (bit_zero r)
    go false (no d) = rw (ne_eqb r q d) (bit_zero r)

-- ---- asked by a mask

mask_is : (r a : ℕ) → bit_and a (2 ^ r) ≡ bit_of r a * 2 ^ r
unfolding bit_of
mask_is r a =
    let e : 2 ^ r ≡ 2 ^ (1 + r) - 2 ^ r = omega (arith, pow-add 2 1 r) in
    ap (bit_and a) e ∙ and_high a 1 r

-- nothing at an even turn and all ones at an odd one, or the other way round: the bit that gets nothing is 0 or 1 by what the first turn gets
pub asked : (r a ones first want : ℕ) → Filling ones first → want ≡ cond (eqb first 0) 0 (2 ^ r) → cond (eqb (bit_and a (2 ^ r)) want) 0 ones ≡ cond (eqb (bit_of r a % 2) 0) first (ones - first)
asked r a ones first want h e = go (ℕ_discrete first 0) (ℕ_discrete (bit_of r a) 0)
  where
    some : 2 ^ r ≢ 0
    some z = omega (arith, pow_pos r)

    one : bit_of r a ≢ 0 → bit_of r a ≡ 1
    one z = omega (arith, bit_few r a)

    full : first ≢ 0 → first ≡ ones
    full d = ⊎_elim (λ z. absurd (d z)) (λ y. y) h

    go : Dec (first ≡ 0) → Dec (bit_of r a ≡ 0) → cond (eqb (bit_and a (2 ^ r)) want) 0 ones ≡ cond (eqb (bit_of r a % 2) 0) first (ones - first)
    go (yes d) (yes z) = rw (e, eq-eqb first 0 d, mask_is r a, z, zero-mul) (sym d)
    go (yes d) (no z) = rw (e, eq-eqb first 0 d, mask_is r a, one z, one-mul, ne_eqb (2 ^ r) 0 some) (omega arith)
    go (no d) (yes z) = rw (e, ne_eqb first 0 d, mask_is r a, z, zero-mul, ne_eqb 0 (2 ^ r) (λ y. some (sym y))) (sym (full d))
    go (no d) (no z) = rw (e, ne_eqb first 0 d, mask_is r a, one z, one-mul, eq-eqb (2 ^ r) (2 ^ r) refl) (omega (arith, full d))
