-- A test of every element of a slice: the documents' `all` is the library's.
use mathlib.Core.Path.{◌≡◌, refl, ap}
use mathlib.Core.Bool.{Bool, ◌&&◌}
use mathlib.Core.List.{List, [], ◌∷◌}
use Rattle.std.specs.List.{list_all}
use Rattle.meaning.specs.Questions.{all}

pub list_all_is_all : {A : Type 0} (f : A → Bool) (xs : List A) → list_all f xs ≡ all f xs
unfolding all
list_all_is_all f [] = refl
list_all_is_all f (x ∷ xs) = ap (λ (b : Bool). f x && b) (list_all_is_all f xs)
