use Rattle.std.proofs.Common.{arith}
use Rattle.text_in.proofs.NameLaws.{names_none, names_last, names_turn, names_bad, names_many, run_within}
use Rattle.form.specs.Form.{is_letter}
use Rattle.text_in.proofs.names_at.Goals as goal

pub returns-then-n-eq0 : goal.returns-then-n-eq0
returns-then-n-eq0 c = names_none _ _ _ _ c.loop-k.invariant c.loop-k-test.true _ c.letters_at-n.ensures c.if-n-eq0.true

pub overflow_add-end : goal.overflow_add-end
overflow_add-end c =
    omega (arith, run_within is_letter 16 c.args.s.now c.loop-k.p c.letters_at-n.result c.loop-k.invariant.within c.letters_at-n.ensures)

pub returns-in-Some : goal.returns-in-Some
returns-in-Some c = names_last _ _ _ _ c.loop-k.invariant c.loop-k-test.true _ c.letters_at-n.ensures c.if-n-eq0.false _ c.in-Some.ensures

pub returns-in_err-p : goal.returns-in_err-p
returns-in_err-p c =
    rw c.from_residual.ensures (names_bad _ _ _ _ c.loop-k.invariant c.loop-k-test.true _ c.letters_at-n.ensures c.if-n-eq0.false c.in_default.ensures c.in_err-p.ensures)

pub loop-k-preserved : goal.loop-k-preserved
loop-k-preserved c = names_turn _ _ _ _ c.loop-k.invariant c.loop-k-test.true _ c.letters_at-n.ensures c.if-n-eq0.false _ c.in_ok-p.ensures

pub returns : goal.returns
returns c = names_many _ _ _ _ c.loop-k.invariant c.loop-k-test.false
