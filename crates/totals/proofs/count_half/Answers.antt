-- `count_half` meets its contract: what is counted before this code, beside the codes that are left.
use borrow.Author.Rules.{rules}
use native.Mathlib.Omega.{arith}
use Rattle.meaning.specs.Totals.{one_present}
use Rattle.totals.proofs.Gathering.{left_start, left_turn, left_end}
use Rattle.totals.proofs.count_half.Goals as goal

pub loop-code-init : goal.loop-code-init
loop-code-init c = (search rules, search rules, left_start _ _)

pub loop-code-preserved : goal.loop-code-preserved
loop-code-preserved c =
    let s = c.args in
    let at = c.loop-code in
    (search rules, search rules, rw c.one_present-count.ensures.is (left_turn (one_present s.missing) s.codes.now at.count at.code-index (search rules) at.invariant.2))

pub returns : goal.returns
returns c =
    let s = c.args in
    let at = c.loop-code in
    record { is = left_end (one_present s.missing) s.codes.now at.count at.code-index (omega arith) at.invariant.2; small = omega arith }
