-- The documents' number for each refusal, and the documents' outcome for what a call answers.
use Rattle.std.specs.Prelude.{ℕ, Result, Ok, Err}
use Rattle.meaning.specs.Questions.{Outcome, refused, accepted}
use Rattle.refusal.specs.declared.Refusal.{Refusal}
use Rattle.refusal.specs.declared.Refusal.TheVariants as variants

abbrev pub number_of : Refusal → ℕ
number_of variants.MethodUnknown = 1
number_of variants.SettingOutOfRange = 2
number_of variants.LengthOutOfRange = 3
number_of variants.NoWholeLayers = 4
number_of variants.ArrayOfWrongLength = 5
number_of variants.ReadingNotFinite = 6
number_of variants.ReferenceOrExponentOutOfRange = 7
number_of variants.MarkNotNan = 8
number_of variants.TextNotOfTheForm = 9
number_of variants.LengthsDiffer = 10
number_of variants.WidthOutOfRange = 11
number_of variants.CodeOutOfRange = 12
number_of variants.PlanesOfWrongLength = 13

-- what a call answers, as the documents have it: `value_of` reads the value of an accepted call
abbrev pub outcome_of : {A B : Type 0} → (A → B) → Result A Refusal → Outcome B
outcome_of value_of (Ok a) = accepted (value_of a)
outcome_of value_of (Err r) = refused (number_of r)
