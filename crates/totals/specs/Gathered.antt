-- What the code's parts make of the lanes.
use Rattle.std.specs.Prelude.{◌≡◌, cond, List, ℕ, ◌+◌, ◌≤◌, ltb, length, get_or}
use Rattle.meaning.specs.Totals.{if_present, lane}
use Rattle.totals.specs.declared.Lanes.{Lanes}

-- the code at place i, or the missing one past the end
abbrev pub value_at : ℕ → List ℕ → ℕ → ℕ
value_at missing cs i = cond (ltb i (length cs)) (get_or cs i 0) missing

-- one more code fits in each lane
pub record Room (l : Lanes) : Type 0 where
  pub a : l.a ≤ 4294901760
  pub b : l.b ≤ 4294901760
  pub c : l.c ≤ 4294901760
  pub d : l.d ≤ 4294901760

-- the lanes with what f makes of four codes
unfoldable pub added : (ℕ → ℕ) → Lanes → ℕ → ℕ → ℕ → ℕ → Lanes
added f l x y z t = record { a = l.a + f x; b = l.b + f y; c = l.c + f z; d = l.d + f t }

-- and with the present codes at the four places from i on
abbrev pub added_at : ℕ → Lanes → List ℕ → ℕ → Lanes
added_at missing l cs i =
    added (if_present missing) l (value_at missing cs i) (value_at missing cs (i + 1)) (value_at missing cs (i + 2)) (value_at missing cs (i + 3))

-- document 02 (g), "gathered in four lanes, place mod 4"
pub record Gathered (f : ℕ → ℕ) (cs : List ℕ) (l : Lanes) : Type 0 where
  pub a : l.a ≡ lane f 0 cs
  pub b : l.b ≡ lane f 1 cs
  pub c : l.c ≡ lane f 2 cs
  pub d : l.d ≡ lane f 3 cs

-- "and joined at the end"
abbrev pub joined_of : Lanes → ℕ
joined_of l = l.a + l.b + l.c + l.d
