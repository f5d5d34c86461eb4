-- x - x == 0.0 is true of the finite values and of nothing else.
use mathlib.Core.Path.{◌≡◌, refl, sym, ◌∙◌, subst}
use mathlib.Core.Bool.{Bool, true, false, cond, not, beq, ◌&&◌}
use Prim.Native.Nat.{ℕ, ◌+◌, ◌-◌, ◌*◌, ◌^◌, ◌<◌}
use native.Mathlib.Nat.{mul-pos, zero-mul}
use native.Mathlib.Omega.{arith}
use borrow.Author.Tests.{le-ltb}
use lib.Dec.{ltb}
use lib.IntN.{pos}
use lib.Pow.{pow_pos}
use lib.Ieee.{Float, nan, inf, fin, binary32, up, down, round, sum, sub, eq}
use lib.Ieee.Exact.{HasValue, round_exact}
use lib.Ieee.Fits.{down_pos}
use Rattle.decoding.specs.Floats.{finite_float}
use Rattle.decoding.proofs.Equal.{values_equal}

zero_sum : (s : Bool) (a c : ℕ) → 0 < c → HasValue (sum binary32 s a (not s) a c) false 0 c
unfolding sum
zero_sum s a c h =
    subst (λ (x : Float). HasValue x false 0 c) (sym (is s))
    (round_exact binary32 false 0 c 0 0 h (pow_pos 24) (pow_pos 277) (zero-mul (2 ^ 149) ∙ sym (zero-mul c)))
  where
    none : a - a ≡ 0
    none = omega arith

    same : (t : Bool) → cond (ltb a a) (round binary32 (not t) (a - a) c) (round binary32 (t && ltb a a) (a - a) c) ≡ round binary32 (t && false) 0 c
    same t = rw (le-ltb a a (omega arith), none) refl

    is : (t : Bool)
        → cond (beq t (not t)) (round binary32 t (a + a) c) (cond (ltb a a) (round binary32 (not t) (a - a) c) (round binary32 (t && ltb a a) (a - a) c))
        ≡ round binary32 false 0 c
    is true = same true
    is false = same false

eq_zero : (x : Float) (c : ℕ) → 0 < c → HasValue x false 0 c → eq x (fin false 0 (pos 0)) ≡ true
eq_zero x c p h = values_equal x (fin false 0 (pos 0)) 0 0 c p h (refl, rw (zero-mul, zero-mul) refl)

pub difference : (x : Float) → eq (sub binary32 x x) (fin false 0 (pos 0)) ≡ finite_float x
unfolding sub eq
difference nan = refl
difference (inf true) = refl
difference (inf false) = refl
difference (fin s m e) =
    let a = m * up e * down e in
    let p = mul-pos (down_pos e) (down_pos e) in
    eq_zero (sum binary32 s a (not s) a (down e * down e)) (down e * down e) p (zero_sum s a (down e * down e) p)
