-- Finite patterns of singles and their floats.
use mathlib.Core.Path.{◌≡◌, refl, sym, ◌∙◌, subst}
use mathlib.Core.Bool.{Bool, not}
use Prim.Native.Nat.{ℕ, ◌*◌, ◌%◌, ◌≤◌, ◌<◌}
use native.Mathlib.Omega.{arith}
use borrow.Author.Tests.{le-ltb}
use lib.Dec.{T}
use lib.Ieee.{Float, nan, inf, fin, is_nan, Format, binary32, nan_bits, ones, hid, top, of_bits, to_bits}
use lib.Ieee.Bits.{nan_bits_above, nan_bits_is, to_bits-of_bits}
use Rattle.meaning.specs.Readings.{magnitude, infinity}
use Rattle.summary.specs.Keys.{Key, unkey}
use Rattle.summary.proofs.Keys.{unkey_finite}

-- a pattern whose magnitude is at most an infinity's is no NaN's
pub no_nan : (f : Format) (n : ℕ) → n % top f ≤ ones f * hid f → T (not (nan_bits f n))
no_nan f n h = subst (λ (b : Bool). T (not b)) (sym (nan_bits_above f n ∙ le-ltb (ones f * hid f) (n % top f) h)) tt

pub key_number : (k w : ℕ) → Key k → w ≡ unkey k → T (not (nan_bits binary32 w))
key_number k w f e = rw e (no_nan binary32 (unkey k) (omega (arith, (unkey_finite k f).0)))

pub key_back : (k w : ℕ) → Key k → w ≡ unkey k → to_bits binary32 (of_bits binary32 w) ≡ unkey k
key_back k w f e = rw e (to_bits-of_bits binary32 (unkey k) (unkey_finite k f).1 (subst (λ (b : Bool). T (not b)) (nan_bits_is binary32 (unkey k)) (key_number k (unkey k) f refl)))

-- a float whose pattern's magnitude is finite is no NaN
pub bits_number : (x : Float) → magnitude 23 8 (to_bits binary32 x) < infinity 23 8 → T (not (is_nan x))
unfolding is_nan to_bits magnitude infinity
bits_number nan h = absurd (omega arith)
bits_number (inf s) h = tt
bits_number (fin s m e) h = tt
