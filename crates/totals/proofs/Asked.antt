-- The outcome by the questions, as the code asks them: 12 by the bits that the codes have.
use mathlib.Core.Path.{◌≡◌, refl, sym, ◌∙◌}
use mathlib.Core.Bool.{true, false}
use mathlib.Core.List.{List}
use Prim.Native.Nat.{ℕ, ◌≤◌, ◌<◌}
use borrow.Author.Tests.{le-leb, lt-leb}
use lib.ListN.{length}
use Rattle.meaning.specs.Layers.{missing_code}
use Rattle.meaning.specs.Questions.{refused, accepted, ask, length_in_range, width_in_range}
use Rattle.meaning.specs.Calls.{answering}
use Rattle.meaning.specs.Totals.{totals_of, totals_questions, totals}
use Rattle.asking_codes.specs.Codes.{BitsOf}

module _ (w : ℕ) (cs : List ℕ) where
  pub three : length_in_range (length cs) ≡ false → refused 3 ≡ totals w cs
  unfolding totals totals_questions answering ask
  three l = rw l refl

  module _ (l : length_in_range (length cs) ≡ true) where
    pub eleven : width_in_range w ≡ false → refused 11 ≡ totals w cs
    unfolding totals totals_questions answering ask
    eleven k = rw (l, k) refl

    module _ (k : width_in_range w ≡ true) (bits : ℕ) (b : BitsOf bits cs) where
      pub twelve : missing_code w < bits → refused 12 ≡ totals w cs
      unfolding totals totals_questions answering ask
      twelve h = rw (l, k, sym (b w) ∙ lt-leb bits (missing_code w) h) refl

      pub done : bits ≤ missing_code w → accepted (totals_of w cs) ≡ totals w cs
      unfolding totals totals_questions answering ask
      done h = rw (l, k, sym (b w) ∙ le-leb bits (missing_code w) h) refl
