-- The documents' number for each method.
use Rattle.std.specs.Prelude.{◌≡◌, ℕ, ◌<◌, Result, MatchResult}
use Rattle.method.specs.declared.Method.{Method}
use Rattle.method.specs.declared.Method.TheVariants as variants
use Rattle.method.specs.declared.UnknownMethod.{UnknownMethod}

abbrev pub number_of : Method → ℕ
number_of variants.Shave = 0
number_of variants.Set = 1
number_of variants.Groom = 2
number_of variants.Halfshave = 3
number_of variants.Round = 4
number_of variants.Absolute = 5
number_of variants.Digits = 6

-- the method with this number, or an error with a number that no method has
abbrev pub Numbered : ℕ → Result Method UnknownMethod → Type 0
Numbered number r = MatchResult r (λ method. number_of method ≡ number) (λ e. (e.0 ≡ number) × (6 < number))
