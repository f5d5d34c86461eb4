use mathlib.Core.Path.{refl, ap, ap₂}
use borrow.Author.Tests.{lt-ltb, le-ltb, eq-eqb, ne_eqb}
use Rattle.meaning.specs.Layers.{Flat, Spread}
use Rattle.summary.specs.Keys.{between}
use Rattle.summary.specs.Summaries.{summary_of}
use Rattle.summary.proofs.between_ends.Goals as goal

pub returns-then-high-low : goal.returns-then-high-low
unfolding summary_of between
returns-then-high-low c = rw (lt-ltb _ _ c.if-high-low.true) refl

pub returns-then-low-high : goal.returns-then-low-high
unfolding summary_of between
returns-then-low-high c = rw (le-ltb _ _ c.if-high-low.false, eq-eqb _ _ c.if-low-high.true) (ap Flat c.value_of.ensures)

pub returns-else-low-high : goal.returns-else-low-high
unfolding summary_of between
returns-else-low-high c =
    rw (le-ltb _ _ c.if-high-low.false, ne_eqb _ _ c.if-low-high.false)
    (ap₂ Spread c.value_of-else-low-high.ensures c.value_of-else-low-high-2.ensures)
