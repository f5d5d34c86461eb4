-- The library's equality of bytes is that of words.
use Prim.Native.Nat.{ℕ}
use mathlib.Core.Path.{◌≡◌, refl, ap}
use mathlib.Core.Bool.{Bool, ◌&&◌}
use mathlib.Core.List.{List, [], ◌∷◌}
use lib.Dec.{eqb}
use Rattle.std.specs.Str.{bytes_eq}
use Rattle.form.specs.Output.{same_word}

pub same_bytes : (v w : List ℕ) → bytes_eq v w ≡ same_word v w
unfolding same_word
same_bytes [] [] = refl
same_bytes [] (b ∷ w) = refl
same_bytes (a ∷ v) [] = refl
same_bytes (a ∷ v) (b ∷ w) = ap (λ (t : Bool). eqb a b && t) (same_bytes v w)
