-- The table's rule at every entry, by tests over whole numbers that are computed for the whole table.
use mathlib.Core.Bool.{Bool}
use Prim.Native.Nat.{ℕ, ◌+◌, ◌-◌, ◌*◌, ◌^◌, ◌≤◌, ◌<◌}
use lib.Dec.{T, leb, ltb, leb→le, ltb→lt}
use lib.ListN.{get_or}
use Rattle.meaning.specs.Readings.{exponent_field, fraction, size, least_exp}
use Rattle.powers.specs.Table.{powers}
use Rattle.powers.proofs.Table.{every, at}

-- 10^(i - 324), in least spacings and times 10^1074
abbrev pub power : ℕ → ℕ
power i = 10 ^ (i + 750) * 2 ^ least_exp 52 11

abbrev pub scaled : ℕ → ℕ
scaled p = size 52 p * 10 ^ least_exp 52 11

-- p is the smallest that is not below the power
abbrev reach : ℕ → ℕ → Bool
reach i p = leb (power i) (scaled p)

abbrev first : ℕ → ℕ → Bool
first i p = ltb (scaled (p - 1)) (power i)

all_reach : T (every reach 0 powers)
unfolding size exponent_field fraction least_exp
all_reach = tt

all_first : T (every first 0 powers)
unfolding size exponent_field fraction least_exp
all_first = tt

-- the entry at a place, and the magnitude before it
pub reaches_entry : (i : ℕ) → i < 633 → power i ≤ scaled (get_or powers i 0)
reaches_entry i h = leb→le (power i) (scaled (get_or powers i 0)) (at reach powers all_reach i h)

pub first_entry : (i : ℕ) → i < 633 → scaled (get_or powers i 0 - 1) < power i
first_entry i h = ltb→lt (scaled (get_or powers i 0 - 1)) (power i) (at first powers all_first i h)
