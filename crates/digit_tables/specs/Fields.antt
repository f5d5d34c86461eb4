-- Method 6 by a single's exponent field. The field leaves two decades, the second of which begins at a limit; and each of the two has one tail.
use Rattle.std.specs.Prelude.{◌≡◌, cond, List, ℕ, min, ◌+◌, ◌-◌, ◌*◌, ◌/◌, ◌%◌, ◌^◌, ◌<◌, eqb, get_or}
use Rattle.powers.specs.Table.{powers}
use Rattle.digit_tails.specs.Step.{step_exponent}

-- the place in the table of the first of the two decades
abbrev pub field_place : ℕ → ℕ
field_place f = ((f + 896) * 77 + 4100) / 2 ^ 8

-- the least magnitude, not subnormal, whose double is not below v
abbrev pub least_single : ℕ → ℕ
least_single v = (v - 0x3800_0000_0000_0000 + 0x1fff_ffff) / 2 ^ 29

-- the least magnitude that reaches the power after that place, or infinity
unfoldable pub field_limit : ℕ → ℕ
field_limit f = min (least_single (get_or powers (field_place f + 1) 0)) 0x7f80_0000

-- the tail in the first decade (0) and in the second (1); none for zero and for what isn't finite
unfoldable pub field_tail : ℕ → ℕ → ℕ → ℕ
field_tail n f second = cond (eqb f 0) 0 (cond (eqb f 255) 0 (step_exponent (field_place f + second - n) - (924 + f)))

-- what the tables of limits and of tails hold: a tail is held as the number whose bits it has, at two places for each field
abbrev pub Limits : List ℕ → Type 0
Limits xs = (f : ℕ) → f < 256 → get_or xs f 0 ≡ field_limit f

abbrev pub Masks : ℕ → List ℕ → Type 0
Masks n xs = (i : ℕ) → i < 512 → get_or xs i 0 ≡ 2 ^ field_tail n (i / 2) (i % 2) - 1
