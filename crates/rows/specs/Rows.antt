-- A block of readings as rows of 512, and a word for each column of them, in which each row has a bit. For every width.
use Rattle.std.specs.Prelude.{◌≡◌, cond, List, ℕ, ◌*◌, ◌/◌, ◌%◌, ◌^◌, ◌≤◌, eqb, length, take, drop, get_or}
use Rattle.std.specs.Int.Bits.{bit_and}
use Rattle.meaning.specs.Methods.{turn_after}
use Rattle.loops.specs.Walk.{state_at}

-- row r of a block; there is none after the last
abbrev pub row_of : ℕ → List ℕ → List ℕ
row_of r ws = take 512 (drop (r * 512) ws)

-- bit r of a word
unfoldable pub bit_of : ℕ → ℕ → ℕ
bit_of r w = w / 2 ^ r % 2

-- what goes into the tail at a column: nothing where the row's bit is as wanted, all ones where it isn't
unfoldable pub fill_at : List ℕ → ℕ → ℕ → ℕ → ℕ → ℕ
fill_at turns bit want ones c = cond (eqb (bit_and (get_or turns c 0) bit) want) 0 ones

-- each bit has whether an odd number of its row's readings before the column take a turn; after its last reading, of all
abbrev pub Counted : ℕ → ℕ → ℕ → List ℕ → List ℕ → Type 0
Counted F X mark ws turns = (r c : ℕ) → c ≤ length (row_of r ws) → bit_of r (get_or turns c 0) ≡ state_at (turn_after F X mark) 0 (row_of r ws) c % 2
