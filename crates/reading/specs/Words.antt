-- A trimmed reading and the constants of a tail as the definitions for every width have them. `value` reads a word of the width as a number.
use Rattle.std.specs.Prelude.{ℕ}
use Rattle.reading.specs.Left.{Settled}
use Rattle.reading.specs.Tails.{Constants}
use Rattle.reading.specs.declared.Trimmed.{Trimmed}
use Rattle.reading.specs.declared.Tail.{Tail}

module _ {W : Type 0} (value : W → ℕ) where
  abbrev pub settled_at : Trimmed W → Settled
  settled_at r =
      record {
        pattern = value r.pattern;
        tally = record { changed = value r.changed; marked = value r.marked; clipped = value r.clipped; missing = value r.missing; risen = value r.risen };
      }

  abbrev pub constants_at : Tail W → Constants
  constants_at t = record { bits = t.bits; ones = value t.ones; half = value t.half }

-- the same of numbers, as the words of both widths are in contracts
abbrev pub settled_of : Trimmed ℕ → Settled
settled_of = settled_at (λ w. w)

abbrev pub constants_of : Tail ℕ → Constants
constants_of = constants_at (λ w. w)
