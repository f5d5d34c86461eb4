-- The sums over an array, as what one reading counts for: of none, with more, and none of them above a number.
use Rattle.std.specs.Prelude.{ℕ, ◌+◌, ◌≤◌}
use Rattle.reading.specs.Left.{Tally}
use Rattle.loops.specs.declared.Sums.{Sums}

abbrev pub none : Tally
none = record { changed = 0; marked = 0; clipped = 0; missing = 0; risen = 0 }

unfoldable pub plus : Tally → Tally → Tally
plus s t = record { changed = s.changed + t.changed; marked = s.marked + t.marked; clipped = s.clipped + t.clipped; missing = s.missing + t.missing; risen = s.risen + t.risen }

pub record Few (t : Tally) (n : ℕ) : Type 0 where
  pub changed_few : t.changed ≤ n
  pub marked_few : t.marked ≤ n
  pub clipped_few : t.clipped ≤ n
  pub missing_few : t.missing ≤ n
  pub risen_few : t.risen ≤ n

-- the sums of counters of any width; `value` reads one as a number
abbrev pub sums_at : {C : Type 0} → (C → ℕ) → Sums C → Tally
sums_at value s = record { changed = value s.changed; marked = value s.marked; clipped = value s.clipped; missing = value s.missing; risen = value s.risen }

abbrev pub totals_of : Sums ℕ → Tally
totals_of = sums_at (λ n. n)
