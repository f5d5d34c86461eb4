-- Whether the tables of the exponent fields serve an array of singles.
use Rattle.std.specs.Prelude.{◌≡◌, List, ℕ, ◌<◌, length, get_or}
use Rattle.single.specs.Left.{subnormal}

-- no reading is subnormal
abbrev pub NoSubnormal : List ℕ → Type 0
NoSubnormal ws = (k : ℕ) → k < length ws → subnormal 23 8 (get_or ws k 0) ≡ 0
