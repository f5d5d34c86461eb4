-- The step of method 6, by a place in the table.
use Rattle.std.specs.Prelude.{ℕ, ◌+◌, ◌*◌, ◌/◌, ◌^◌}

-- the exponent of the largest power of two that is not above 10^(i - 323), counted from that of the least double
abbrev pub step_exponent : ℕ → ℕ
step_exponent i = (i * 108853 + 33340) / 2 ^ 15
