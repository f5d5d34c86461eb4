-- What is no NaN: a finite value, and a code unpacked in a layer of finite values.
use mathlib.Core.Path.{◌≡◌, refl, sym}
use mathlib.Core.Bool.{Bool, true, false, true≢false}
use Prim.Native.Nat.{ℕ, ◌*◌, ◌^◌, ◌≤◌}
use lib.Ieee.{Float, nan, inf, fin, Format, binary64, up, down, unlike, round, mul, of_int, add, is_nan}
use lib.Ieee.Back.{round_whole}
use lib.Ieee.Exact.{HasValue}
use Rattle.absolute.proofs.NotNan.{Number, round_number, add_number}
use Rattle.decoding.specs.declared.LayerFloats.{LayerFloats}
use Rattle.decoding.specs.Floats.{finite_float, Finite, unpacked}

pub finite_number : (x : Float) → finite_float x ≡ true → Number x
unfolding is_nan
finite_number nan e = absurd (true≢false (sym e))
finite_number (inf s) e = absurd (true≢false (sym e))
finite_number (fin s m d) e = tt

pub value_finite : (x : Float) (s : Bool) (a c : ℕ) → HasValue x s a c → finite_float x ≡ true
value_finite nan s a c h = absurd h
value_finite (inf t) s a c h = absurd h
value_finite (fin t m e) s a c h = refl

mul_number : (f : Format) (x y : Float) → finite_float x ≡ true → finite_float y ≡ true → Number (mul f x y)
unfolding mul
mul_number f nan y p q = absurd (true≢false (sym p))
mul_number f (inf s) y p q = absurd (true≢false (sym p))
mul_number f (fin s m e) nan p q = absurd (true≢false (sym q))
mul_number f (fin s m e) (inf t) p q = absurd (true≢false (sym q))
mul_number f (fin s m e) (fin t n d) p q = round_number f (unlike s t) (m * up e * (n * up d)) (down e * down d)

sum_number : (f : Format) (x y : Float) → Number x → finite_float y ≡ true → Number (add f x y)
sum_number f x nan p q = absurd (true≢false (sym q))
sum_number f x (inf t) p q = absurd (true≢false (sym q))
sum_number f x (fin t n d) p q = add_number f x (fin t n d) t (n * up d) (down d) p (refl, refl)

pub unpacked_number : (l : LayerFloats) (code : ℕ) → code ≤ 2 ^ 53 → Finite l → Number (unpacked l code)
unfolding unpacked of_int
unpacked_number l code h k =
    let x = round binary64 false code 1 in
    sum_number _ (mul binary64 x l.step) l.reference
    (mul_number binary64 x l.step (value_finite x false code 1 (round_whole binary64 false code h)) k.step) k.reference
