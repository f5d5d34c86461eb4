-- The exponents that document 01 has, -149 to 114, hold every layer of 16 bits.
use Prim.Native.Nat.{◌*◌, ◌^◌, ◌≤◌}
use lib.Dec.{lit≤}
use Rattle.meaning.specs.Readings.{exponent_field, fraction, size, infinity, origin}
use Rattle.meaning.specs.Layers.{last_code}

-- 114 is enough for 16 bits
pub enough : 2 * origin 23 8 ≤ last_code 16 * 2 ^ 263
unfolding origin size exponent_field fraction infinity last_code
enough = lit≤ tt
