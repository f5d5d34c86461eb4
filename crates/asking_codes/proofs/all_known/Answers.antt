-- `all_known` meets its contract: each turn of the loop takes a layer by the bits of its codes.
use mathlib.Core.Logic.{inl, inr}
use borrow.Author.Tests.{le-leb, lt-leb}
use Rattle.asking_codes.proofs.Turns.{few_bits, fails, passes, end}
use Rattle.asking_codes.proofs.all_known.Goals as goal

pub missing_of-requires : goal.missing_of-requires
missing_of-requires c = let s = c.in-Some.ensures.steps in few_bits _ _ _ _ _ _ _ _ _ c.loop-width.invariant s.0 s.1.1.0 s.1.1.1

pub returns-then-missing_of-bits_of : goal.returns-then-missing_of-bits_of
returns-then-missing_of-bits_of c =
    let s = c.in-Some.ensures.steps in
    fails _ _ _ _ _ _ _ _ _ c.loop-width.invariant s.0 s.1.1.0 s.1.1.1 _ _ c.missing_of.ensures c.bits_of.ensures (lt-leb _ _ c.if-missing_of-bits_of.true)

pub loop-width-preserved : goal.loop-width-preserved
loop-width-preserved c =
    let s = c.in-Some.ensures.steps in
    passes _ _ _ _ _ _ _ _ _ c.loop-width.invariant s.0 s.1.1.0 s.1.1.1 _ _ c.missing_of.ensures c.bits_of.ensures (le-leb _ _ c.if-missing_of-bits_of.false) _ s.1.0

pub returns : goal.returns
returns c = end _ _ _ _ _ c.loop-width.invariant (elim c.in-None.ensures.steps [ inl h ↦ inl h.1.0 | inr h ↦ inr h.1.1.0 ])
