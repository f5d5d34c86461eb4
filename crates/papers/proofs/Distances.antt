-- Distances of whole numbers: shifted, multiplied, and by way of a third.
use mathlib.Core.Path.{◌≡◌}
use Prim.Native.Nat.{ℕ, ◌+◌, ◌-◌, ◌*◌, ◌≤◌, ◌<◌}
use native.Mathlib.Nat.{mul-le-mul_right, mul-lt-mul_of_pos_right, mul_comm, mul-sub}
use native.Mathlib.Omega.{arith}
use Rattle.meaning.specs.Readings.{distance}

pub apart_up : (p o : ℕ) → o ≤ p → p - o ≡ distance p o
unfolding distance
apart_up p o h = omega arith

pub apart_down : (p o : ℕ) → p ≤ o → o - p ≡ distance p o
unfolding distance
apart_down p o h = omega arith

pub scaled : (x y g : ℕ) → distance (x * g) (y * g) ≡ distance x y * g
unfolding distance
scaled x y g = omega (arith, mul_comm (x - y) g, mul-sub g x y, mul_comm (y - x) g, mul-sub g y x, mul_comm g x, mul_comm g y)

pub distance_le : (x y : ℕ) → distance x y ≤ x + y
unfolding distance
distance_le x y = omega arith

shifted : (x y o : ℕ) → distance (x + o) (y + o) ≡ distance x y
unfolding distance
shifted x y o = omega arith

further : (x y z : ℕ) → distance x z ≤ distance x y + distance y z
unfolding distance
further x y z = omega arith

-- from x to D by way of p, in units of which g make one of x and p
through : (x p D O g : ℕ) → distance (x * g + O) D ≤ distance x p * g + distance (p * g + O) D
through x p D O g = omega (arith, further (x * g + O) (p * g + O) D, shifted (x * g) (p * g) O, scaled x p g)

pub through_less : (x p D O g u s : ℕ) → 0 < g → 2 * distance x p < u → 2 * distance (p * g + O) D ≤ s → 2 * distance (x * g + O) D < u * g + s
through_less x p D O g u s h d e = omega (arith, through x p D O g, mul-lt-mul_of_pos_right d h)

pub through_exact : (x p D O g u : ℕ) → 2 * distance x p ≤ u → distance (p * g + O) D ≡ 0 → 2 * distance (x * g + O) D ≤ u * g
through_exact x p D O g u d e = omega (arith, through x p D O g, mul-le-mul_right g d)

pub through_step : (x p D O g s t : ℕ) → 0 < g → 2 * distance x p + s < t → 2 * distance (p * g + O) D ≤ s * g → 2 * distance (x * g + O) D < t * g
through_step x p D O g s t h d e = omega (arith, through x p D O g, mul-lt-mul_of_pos_right d h)

-- a size S at most 2 ^ 24 T below or above a * T
pub landed : (a T S : ℕ) → S ≤ (a + 16777216) * T → a * T ≤ S + 16777216 * T → 2 * distance S (a * T) ≤ 33554432 * T
unfolding distance
landed a T S h l = omega arith

-- a place p counted from b and a size S counted from O, on one side of zero
pub same_up : (p b O S : ℕ) → b ≤ p → distance (p + O) (O + S + b) ≡ distance S (distance p b)
unfolding distance
same_up p b O S h = omega arith

pub same_down : (p b O S : ℕ) → p ≤ b → S ≤ O → distance (p + O) (O - S + b) ≡ distance S (distance p b)
unfolding distance
same_down p b O S h s = rw (← apart_down p b h) (omega arith)
