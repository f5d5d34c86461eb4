-- Document 02 (d): "the tail and half-tail of methods 0 to 4 are to be worked out once per array and handed to the inner loop. Show for a general F that they follow from
-- k alone, and that each reading trimmed with them gets the result in force today". What the inner functions compute are the words of `Tails` in `reading`, by their
-- contracts; what is made of k is `constants`, by that of `tail_of`.
use Rattle.std.specs.Prelude.{◌≡◌, cond, ℕ, ◌+◌, ◌-◌, ◌^◌, ◌≤◌, ◌<◌, eqb}
use Rattle.meaning.specs.Methods.{round}
use Rattle.asking.specs.Asked.{method_by}
use Rattle.reading.specs.Left.{settled_from, in_force}
use Rattle.reading.specs.Tails.{Constants, constants, TailOf, tail_word, round_word, round_over}
use Rattle.loops.specs.Methods.{add_by, add_at}

-- what methods 0 to 3 put into the tail at a turn
unfoldable pub add_for : ℕ → Constants → ℕ → ℕ
add_for method c turn = cond (eqb method 2) (add_at 0 c.ones turn) (add_by method c)

-- for k keep bits, a mark, a turn and a reading w
pub record Once (F X k mark turn w : ℕ) : Type 0 where
  -- "they follow from k alone": constants with the tail of k keep bits are those of k
  pub alone : (c : Constants) → TailOf F c → c.bits ≡ F - k → c ≡ constants F k
  -- "each reading trimmed with them gets the result in force today": methods 0 to 3
  pub tails : (method : ℕ) → method < 4 → settled_from F X mark w (tail_word F X (constants F k) (add_for method (constants F k) turn) w) 0 ≡ in_force F X (method_by method k) mark turn w
  -- method 4 with a tail
  pub rounds : 1 ≤ F - k → w < 2 ^ (F + X + 1) → settled_from F X mark w (round_word F X (constants F k) w) (round_over F X (constants F k) w) ≡ in_force F X (round k) mark turn w
  -- and with none, which goes by the words of methods 0 to 3 and adds nothing
  pub untailed : k ≡ F → settled_from F X mark w (tail_word F X (constants F k) 0 w) 0 ≡ in_force F X (round k) mark turn w
