-- Each sum has room for the part's.
use borrow.Author.Rules.{rules}
use Rattle.loops.specs.Tallies.{plus}
use Rattle.loops.proofs.Sums+u64.join.Goals as goal

pub overflow_add-result : goal.overflow_add-result
unfolding plus
overflow_add-result g c = search rules

pub overflow_add-result-2 : goal.overflow_add-result-2
unfolding plus
overflow_add-result-2 g c = search rules

pub overflow_add-result-3 : goal.overflow_add-result-3
unfolding plus
overflow_add-result-3 g c = search rules

pub overflow_add-result-4 : goal.overflow_add-result-4
unfolding plus
overflow_add-result-4 g c = search rules

pub overflow_add-result-5 : goal.overflow_add-result-5
unfolding plus
overflow_add-result-5 g c = search rules

pub returns : goal.returns
unfolding plus
returns g c = simp (c.wide-5.ensures, c.wide-4.ensures, c.wide-3.ensures, c.wide-2.ensures, c.wide.ensures)
