-- E and its count from -149: each other's inverse on the documents' range, and in one order.
use mathlib.Core.Path.{◌≡◌, refl, ap, ◌∙◌}
use mathlib.Core.Bool.{true}
use Prim.Native.Nat.{ℕ, suc, ◌+◌, ◌-◌, ◌≤◌, ◌<◌}
use native.Mathlib.Decide.{dec_lt}
use native.Mathlib.Omega.{arith}
use borrow.Author.Tests.{lt-ltb, le-leb, leb-true}
use lib.IntN.{ℤ, pos, negsuc, neg_ℤ, sub_ℕ}
use lib.Signed.{le_z, lt_z}
use Rattle.meaning.specs.Questions.{above, exponent_in_range}
use Rattle.meaning.proofs.Differences.{below, from}

pub count_back : (e : ℕ) → above 149 (sub_ℕ e 149) ≡ e
unfolding above
count_back e = go (dec_lt e 149)
  where
    go : Dec (e < 149) → above 149 (sub_ℕ e 149) ≡ e
    go (yes h) = rw (below e 149 h) (omega arith)
    go (no h) = rw (from e 149 (omega arith)) (omega arith)

pub exponent_back : (d : ℤ) → le_z (neg_ℤ (pos 149)) d ≡ true → sub_ℕ (above 149 d) 149 ≡ d
unfolding above
exponent_back (pos k) r = from (149 + k) 149 (omega arith) ∙ ap pos (let e : 149 + k - 149 ≡ k = omega arith in e)
exponent_back (negsuc k) r =
    let l : k ≤ 148 = leb-true k 148 r in
    below (149 - suc k) 149 (omega arith) ∙ ap negsuc (let e : 149 - suc (149 - suc k) ≡ k = omega arith in e)

pub exponent_range : (e : ℕ) → e ≤ 277 → exponent_in_range (sub_ℕ e 149) ≡ true
exponent_range e l = go (dec_lt e 149)
  where
    go : Dec (e < 149) → exponent_in_range (sub_ℕ e 149) ≡ true
    go (yes h) = rw (below e 149 h, le-leb (149 - suc e) 148 (omega arith)) refl
    go (no h) = rw (from e 149 (omega arith), le-leb (e - 149) 128 (omega arith)) refl

pub exponent_order : (e n : ℕ) → e < n → lt_z (sub_ℕ e 149) (sub_ℕ n 149) ≡ true
exponent_order e n l = go (dec_lt e 149) (dec_lt n 149)
  where
    go : Dec (e < 149) → Dec (n < 149) → lt_z (sub_ℕ e 149) (sub_ℕ n 149) ≡ true
    go (yes h) (yes k) = rw (below e 149 h, below n 149 k) (lt-ltb (149 - suc n) (149 - suc e) (omega arith))
    go (yes h) (no k) = rw (below e 149 h, from n 149 (omega arith)) refl
    go (no h) (yes k) = absurd (omega arith)
    go (no h) (no k) = rw (from e 149 (omega arith), from n 149 (omega arith)) (lt-ltb (e - 149) (n - 149) (omega arith))
