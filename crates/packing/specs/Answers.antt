-- The documents' outcome for packing's answer, and what a packing leaves. References are singles: a float stands for its pattern, all NaNs for one.
use Rattle.std.specs.Prelude.{List, map, ℕ, ℤ, Float, Result}
use Rattle.std.specs.Float.{binary32}
use Rattle.std.specs.Float.Ieee.{to_bits}
use Rattle.meaning.specs.Questions.{Outcome}
use Rattle.meaning.specs.Calls.{AfterPack, pack}
use Rattle.refusal.specs.declared.Refusal.{Refusal}
use Rattle.refusal.specs.Refusals.{outcome_of}

abbrev pub answer_of : Result (Unit {0}) Refusal → Outcome (Unit {0})
answer_of = outcome_of (λ done. done)

abbrev pub packed : ℕ → ℕ → List ℕ → List ℕ → List ℕ → List Float → List ℤ → AfterPack
packed mark L widths ws codes references exponents = pack mark L widths ws codes (map (to_bits binary32) references) exponents
