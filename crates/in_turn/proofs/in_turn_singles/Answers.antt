-- What the run leaves, and by it demand 3.
use borrow.Author.Rules.{rules}
use Rattle.in_turn.proofs.Promise.{promised}
use Rattle.in_turn.proofs.in_turn_singles.Goals as goal

pub returns : goal.returns
returns c = record { content = search rules; promised = promised 23 8 c.run_singles.ensures }
