-- What one is told of a trim of single readings: from what it leaves to what it counts for; and what an array is left as by another name of the same outcome.
use Rattle.std.proofs.Common.{◌≡◌, ℕ, List, sym, ap, ◌∙◌}
use Rattle.std.proofs.lemmas.List.{map-id}
use mathlib.Core.Path.{subst}
use mathlib.Core.List.{map}
use Rattle.reading.specs.Left.{Tally, Settled}
use Rattle.reading.specs.declared.Trimmed.{Trimmed}
use Rattle.loops.specs.Tallies.{Few}
use Rattle.loops.specs.Walk.{walked_by, tallied_by}
use Rattle.loops.proofs.Methods.{over_all}
use Rattle.arrays.specs.Outcomes.{CountsOnce, Leaves, EachOnce, AllTrimmed, AllTrimmedFrom}

pub counts_of : {W : Type 0} (value : W → ℕ) {made : W → Trimmed W → Type 0} (f : ℕ → Settled) → EachOnce f → Leaves value made f → CountsOnce value made
counts_of value f once leaves x r h = subst (λ (s : Settled). Few s.tally 1) (sym (leaves x r h)) (once (value x))

pub trimmed_as : {W : Type 0} {value : W → ℕ} {old new : List W} {t : Tally} (g h : ℕ → Settled) → ((w : ℕ) → g w ≡ h w) → AllTrimmed value g old new t → AllTrimmed value h old new t
trimmed_as {value} {old} g h e it =
    let both = over_all (map value old) g h e (it.sums, it.content) in
    record { sums = both.0; content = both.1 }

-- of numbers, as the words of both widths are in contracts
pub of_numbers : {next : ℕ → ℕ → ℕ} {f : ℕ → ℕ → Settled} {first : ℕ} {old new : List ℕ} {t : Tally} → AllTrimmedFrom (λ (w : ℕ). w) next f first old new t → (t ≡ tallied_by next f first old) × (new ≡ walked_by next f first old)
of_numbers {next} {f} {first} {old} {new} it = (it.sums ∙ ap (tallied_by next f first) (map-id old), sym (map-id new) ∙ it.content ∙ ap (walked_by next f first) (map-id old))
