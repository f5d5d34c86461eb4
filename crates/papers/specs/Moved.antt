-- How far one call moves one reading. Sizes and distances are counted in least spacings, so they are whole numbers and every bound is exact.
use Rattle.std.specs.Prelude.{ℕ, ◌≤◌, ◌^◌}
use Rattle.meaning.specs.Readings.{size, spacing, magnitude, position, distance}
use Rattle.meaning.specs.Methods.{Method, unit, trimmed}

module _ (F X : ℕ) where
  -- from the reading w at a turn to what the call leaves of it; none for a missing reading, an infinity, a NaN and one that is spared
  unfoldable pub moved : Method → ℕ → ℕ → ℕ → ℕ
  moved x mark turn w = distance (position F X w) (position F X (trimmed F X x mark turn w))

  -- at a reading: its size, its spacing, and a method's unit
  abbrev pub size_of : ℕ → ℕ
  size_of w = size F (magnitude F X w)

  abbrev pub spacing_of : ℕ → ℕ
  spacing_of w = spacing F (magnitude F X w)

  abbrev pub unit_of : Method → ℕ → ℕ
  unit_of x w = unit F x (magnitude F X w)

  -- a method's unit at what the call leaves of it
  abbrev pub unit_left : Method → ℕ → ℕ → ℕ → ℕ
  unit_left x mark turn w = unit_of x (trimmed F X x mark turn w)

  -- its exponent field is not 0, so that it has the implicit bit
  abbrev pub Normal : ℕ → Type 0
  Normal w = 2 ^ F ≤ magnitude F X w
