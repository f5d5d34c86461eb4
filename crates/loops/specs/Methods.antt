-- A method over an array by its number and its natural setting, reading by reading: what each puts into a tail, and what grooming has for the next turn. For every width.
use Rattle.std.specs.Prelude.{◌≡◌, ◌⊎◌, Bool, true, false, cond, ℕ, ◌-◌, ◌%◌, ◌≤◌, leb, eqb}
use Rattle.meaning.specs.Methods.{trimmable}
use Rattle.asking.specs.Asked.{method_by}
use Rattle.reading.specs.Left.{Settled, settled_by, settled_tail}
use Rattle.reading.specs.Tails.{Constants, constants}

-- a known method with a natural setting that fits: keep bits up to F, digits from 1 to `most`
pub record Fitting (method n F most : ℕ) : Type 0 where
  pub known : method ≤ 6
  pub keep : method ≤ 4 → n ≤ F
  pub some : method ≡ 6 → 1 ≤ n
  pub few : method ≡ 6 → n ≤ most

-- what methods 0, 1 and 3 put into every tail
unfoldable pub add_by : ℕ → Constants → ℕ
add_by method c = cond (eqb method 1) c.ones (cond (eqb method 3) c.half 0)

-- the one or the other, by a turn's parity
unfoldable pub add_at : ℕ → ℕ → ℕ → ℕ
add_at even odd turn = cond (eqb (turn % 2) 0) even odd

-- the keep bits of methods 0 to 4; the others have no tail
unfoldable pub keep_of : ℕ → ℕ → ℕ → ℕ
keep_of F method n = cond (leb method 4) n F

-- a trim as the loops get it: a method with a setting that fits, and the constants of its tail
pub record Suits (F most method n : ℕ) (c : Constants) : Type 0 where
  pub fitting : Fitting method n F most
  pub tail : c ≡ constants F (keep_of F method n)

abbrev pub settled_if : Bool → Settled → Settled → Settled
settled_if true a b = a
settled_if false a b = b

-- what grooming puts into a tail: nothing or all ones
abbrev pub Filling : ℕ → ℕ → Type 0
Filling ones s = (s ≡ 0) ⊎ (s ≡ ones)

module _ (F X : ℕ) where
  -- one reading by a method: grooming puts s into its tail, and the other methods don't look at s
  unfoldable pub settled_with : ℕ → ℕ → ℕ → ℕ → ℕ → Settled
  settled_with method n mark s w = settled_if (eqb method 2) (settled_tail F X (F - n) s mark w) (settled_by F X (method_by method n) mark 0 w)

  -- what the turn after the reading w puts into the tail: the other filling where w takes a turn, and the same where it doesn't
  unfoldable pub filling_after : ℕ → ℕ → ℕ → ℕ → ℕ
  filling_after ones mark w s = cond (trimmable F X mark w) (ones - s) s

  -- the state that goes on from reading to reading; the other methods leave it as it is
  unfoldable pub next_with : ℕ → ℕ → ℕ → ℕ → ℕ → ℕ
  next_with method n mark w s = cond (eqb method 2) (filling_after (constants F n).ones mark w s) s
