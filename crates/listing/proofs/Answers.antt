-- The line of counts that a trim's answer prints.
use Prim.Native.Nat.{ℕ, ◌+◌}
use native.Mathlib.Omega.{arith}
use mathlib.Core.Path.{◌≡◌, sym, ap, ◌∙◌}
use mathlib.Core.List.{List, [], ◌∷◌, map}
use lib.ListN.{length}
use Rattle.std.proofs.Common.{Result, Ok, Err}
use Rattle.meaning.specs.Methods as meant
use Rattle.meaning.specs.Questions.{Outcome}
use Rattle.meaning.specs.Calls.{leaving}
use Rattle.form.specs.Form.{line}
use Rattle.form.specs.Output.{counts_line, decimal}
use Rattle.refusal.specs.declared.Refusal.{Refusal}
use Rattle.refusal.specs.Refusals.{outcome_of}
use Rattle.text_out.specs.Places.{paste}
use Rattle.text_out.proofs.Paste.{paste_none}
use Rattle.trim.specs.declared.Counts.{Counts}
use Rattle.trim.specs.Answers.{counts}

abbrev pub Answer : Type 0
Answer = Result Counts Refusal

abbrev pub answer_of : Answer → Outcome meant.Counts
answer_of r = outcome_of counts r

-- what is printed of an answer
abbrev pub printed_of : Answer → List ℕ
printed_of r = leaving (answer_of r) counts_line []

module _ (r : Answer) (a : Counts) (e : r ≡ Ok a) where
  abbrev numbers : List ℕ
  numbers = a.changed ∷ a.spared ∷ a.clipped ∷ a.missing ∷ a.risen ∷ a.fallen ∷ []

  counts_printed : line (map decimal numbers) ≡ printed_of r
  unfolding leaving
  counts_printed = ap printed_of (sym e)

  pub answer_counts : (l : List ℕ) (at : ℕ) (m : List ℕ) (p : ℕ)
      → (p ≡ at + length (line (map decimal numbers))) × (m ≡ paste l at (line (map decimal numbers)))
      → (p ≡ at + length (printed_of r)) × (m ≡ paste l at (printed_of r))
  answer_counts l at m p f = (f.0 ∙ ap (λ (y : List ℕ). at + length y) counts_printed, f.1 ∙ ap (paste l at) counts_printed)

pub answer_none : (r : Answer) (f : Refusal) → r ≡ Err f → (l : List ℕ) (at : ℕ) → (at ≡ at + length (printed_of r)) × (l ≡ paste l at (printed_of r))
unfolding leaving
answer_none r n e l at =
    let f : [] ≡ printed_of r = ap printed_of (sym e) in
    (add f, paste_none l at ∙ ap (paste l at) f)
  where
    add : [] ≡ printed_of r → at ≡ at + length (printed_of r)
    add f = let g = ap length f in omega arith
