-- Questions 7 and 8 of unpacking as the code asks them, after those on layers.
use Rattle.std.specs.Prelude.{Bool, cond, ℕ}

-- the refusal's number, or 0: 7, then 8
unfoldable pub refusal_of : Bool → Bool → ℕ
refusal_of known nan = cond known (cond nan 0 8) 7
