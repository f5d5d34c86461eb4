-- What is no NaN: whatever is rounded, and so a sum of two finite values, less one of them, also where the sum is infinite.
use mathlib.Core.Path.{ap}
use mathlib.Core.Bool.{Bool, true, false, cond, not, beq, ◌&&◌}
use Prim.Native.Nat.{ℕ, zero, suc, ◌+◌, ◌-◌, ◌*◌, ◌/◌, ◌^◌}
use lib.Dec.{T, ltb}
use lib.Ieee.{Float, nan, inf, fin, Format, prec, emax, low, up, down, odd, units, round, sum, add, sub, neg, is_nan, size as length}
use lib.Ieee.Exact.{HasValue}
use lib.Ieee.Fits.{round_is}
use lib.Ieee.Nearest.{closest}

abbrev pub Number : Float → Type 0
Number x = T (not (is_nan x))

pub value_number : (x : Float) (s : Bool) (a c : ℕ) → HasValue x s a c → Number x
unfolding is_nan
value_number nan s a c h = absurd h
value_number (inf t) s a c h = absurd h
value_number (fin t m e) s a c h = tt

cond_number : (b : Bool) (x y : Float) → Number x → Number y → Number (cond b x y)
cond_number true x y p q = p
cond_number false x y p q = q

odd_number : (d : ℕ) (s : Bool) (q k l : ℕ) → Number (odd d s q k l)
unfolding odd is_nan
odd_number d s zero k l = tt
odd_number d s (suc q) k l = tt

inf_number : (s : Bool) → Number (inf s)
unfolding is_nan
inf_number s = tt

units_number : (f : Format) (s : Bool) (q k : ℕ) → Number (units f s q k)
unfolding units
units_number f s q k = cond_number (ltb (q * 2 ^ k) (2 ^ (low f + suc (emax f)))) _ (inf s) (odd_number (suc (prec f)) s q k (low f)) (inf_number s)

pub round_number : (f : Format) (s : Bool) (n d : ℕ) → Number (round f s n d)
round_number f s n d = rw (round_is f s n d) (units_number f s (closest (n * 2 ^ low f) (d * 2 ^ (length (n * 2 ^ low f / d) - prec f))) _)

sum_number : (f : Format) (s : Bool) (a : ℕ) (t : Bool) (b c : ℕ) → Number (sum f s a t b c)
unfolding sum
sum_number f s a t b c =
    cond_number (beq s t) _ _ (round_number f s (a + b) c) (cond_number (ltb a b) _ _ (round_number f t (b - a) c) (round_number f (s && ltb b a) (a - b) c))

pub add_number : (f : Format) (x y : Float) (t : Bool) (b c : ℕ) → Number x → HasValue y t b c → Number (add f x y)
unfolding add is_nan
add_number f nan y t b c p k = absurd p
add_number f (inf s) nan t b c p k = absurd k
add_number f (inf s) (inf u) t b c p k = absurd k
add_number f (inf s) (fin u n d) t b c p k = tt
add_number f (fin s m e) nan t b c p k = absurd k
add_number f (fin s m e) (inf u) t b c p k = absurd k
add_number f (fin s m e) (fin u n d) t b c p k = sum_number f s (m * up e * down d) u (n * up d * down e) (down e * down d)

pub neg_value : (y : Float) (s : Bool) (b c : ℕ) → HasValue y s b c → HasValue (neg y) (not s) b c
unfolding neg
neg_value nan s b c h = absurd h
neg_value (inf t) s b c h = absurd h
neg_value (fin t n d) s b c h = (ap not h.0, h.1)

pub difference_number : (f : Format) (x y : Float) (a b c : ℕ) → HasValue x false a c → HasValue y false b c → Number (sub f (add f x y) y)
unfolding sub
difference_number f x y a b c h k =
    add_number f (add f x y) (neg y) true b c (add_number f x y false b c (value_number x false a c h) k) (neg_value y false b c k)
