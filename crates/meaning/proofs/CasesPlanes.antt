-- Document 02 (f), byte planes: cases to lay beside it. Each row is proved by computing it.
use mathlib.Core.Path.{◌≡◌, refl}
use mathlib.Core.List.{[], ◌∷◌, zip_with}
use Prim.Native.Nat.{ℕ}
use lib.IntN.{ℤ, pos}
use Rattle.meaning.specs.Questions.{Outcome, refused, accepted, ask, setting_in_range}
use Rattle.meaning.specs.Planes.{planes, readings, planes_question, trim_planes_questions}

-- a refused outcome by its number, and 0 where the call is accepted
abbrev number : {A : Type 0} → Outcome A → ℕ
number (refused n) = n
number (accepted a) = 0

-- the number that a conversion of n readings answers, and that trimming n readings in planes answers: with a buffer of so many bytes
unfoldable converts : ℕ → ℕ → ℕ → ℕ
unfolding planes_question ask
converts B n buffer = number (planes_question B n buffer)

unfoldable trims : ℕ → ℕ → ℕ → ℕ → ℤ → ℕ → ℕ → ℕ
unfolding trim_planes_questions ask setting_in_range
trims B F X method setting n buffer = number (trim_planes_questions B F X method setting n buffer)

pub record PlanesCases : Type 0 where
  -- ---- "the first bytes of all readings stand together, then all second bytes", "lowest byte first"
  to : planes 4 (0x04030201 ∷ 0x08070605 ∷ []) ≡ 1 ∷ 5 ∷ 2 ∷ 6 ∷ 3 ∷ 7 ∷ 4 ∷ 8 ∷ []
  from : readings 4 2 (1 ∷ 5 ∷ 2 ∷ 6 ∷ 3 ∷ 7 ∷ 4 ∷ 8 ∷ []) ≡ 0x04030201 ∷ 0x08070605 ∷ []
  -- ---- "13, if the plane buffer isn't exactly that number times bytes per reading long"
  exact : (converts 4 2 8 ≡ 0) × (converts 8 1 8 ≡ 0) × (converts 4 0 0 ≡ 0)
  shorter : (converts 4 2 7 ≡ 13) × (converts 4 2 4 ≡ 13) × (converts 8 1 4 ≡ 13)
  longer : (converts 4 2 9 ≡ 13) × (converts 4 2 12 ≡ 13) × (converts 4 0 1 ≡ 13)
  trimmed : (trims 4 23 8 0 (pos 23) 2 8 ≡ 0) × (trims 4 23 8 0 (pos 23) 2 7 ≡ 13) × (trims 4 23 8 0 (pos 23) 2 9 ≡ 13)
  -- ---- "asked after 2 where a setting is given"
  two_first : (trims 4 23 8 0 (pos 24) 2 7 ≡ 2) × (trims 8 52 11 0 (pos 53) 1 7 ≡ 2)
  one_first : trims 4 23 8 7 (pos 0) 2 7 ≡ 1

pub planes_cases : PlanesCases
unfolding planes readings converts trims zip_with
planes_cases =
    record {
      to = refl;
      from = refl;
      exact = (refl, refl, refl);
      shorter = (refl, refl, refl);
      longer = (refl, refl, refl);
      trimmed = (refl, refl, refl);
      two_first = (refl, refl);
      one_first = refl;
    }
