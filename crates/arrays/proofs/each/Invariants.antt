-- What is done, then the rest walked, is the whole walked, whatever the trims leave; and the rest may still be trimmed.
use Rattle.std.proofs.Common.{◌≡◌, ℕ, ◌<◌, ◌≤◌, length, get_or}
use mathlib.Core.List.{map}
use Rattle.reading.specs.Left.{Settled}
use Rattle.loops.specs.Tallies.{sums_at, Few}
use Rattle.loops.specs.Walk.{stays}
use Rattle.loops.proofs.Walks.{Walk}
use Rattle.arrays.specs.Outcomes.{Leaves, EachOnce}
use Rattle.arrays.proofs.each.Given as goal

abbrev pub invariant-loop-reading : goal.invariant-loop-reading
invariant-loop-reading g l =
    let value = g.W.Word.value in
    (length l.readings ≡ length l.fn.readings)
    × ((k : ℕ) (d : _) → l.reading-index ≤ k → k < length l.readings → goal.F-pre g l.trim (get_or l.readings k d))
    × Few (sums_at value l.sums) l.reading-index
    × ((f : ℕ → Settled) → EachOnce f → Leaves value (goal.F-post g l.trim) f → Walk stays (λ s w. f w) 0 (map value l.fn.readings) (map value l.readings) (sums_at value l.sums) 0 l.reading-index)
