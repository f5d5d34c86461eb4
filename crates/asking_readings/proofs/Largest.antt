-- Question 6 by the largest magnitude of the present readings, and the loop that finds it.
use mathlib.Core.Path.{◌≡◌, refl, ap, ◌∙◌}
use mathlib.Core.Bool.{Bool, true, false, cond, ◌&&◌, ◌||◌}
use mathlib.Core.List.{List, [], ◌∷◌}
use Prim.Native.Nat.{ℕ, max, ◌+◌, ◌%◌, ◌≤◌, ◌<◌}
use native.Mathlib.Numerals.{add-one}
use native.Mathlib.Decide.{dec_lt, ℕ_discrete}
use native.Mathlib.Omega.{arith}
use borrow.Author.Tests.{lt-ltb, le-ltb, eq-eqb, ne_eqb}
use lib.Dec.{eqb, ltb}
use lib.ListN.{length, get_or, drop, drop_of_length-le}
use lib.Seq.{drop-cons}
use Rattle.meaning.specs.Readings.{magnitude, infinity, finite, missing}
use Rattle.meaning.specs.Questions.{all, packable}
use Rattle.asking_readings.specs.Largest.{largest_present}

-- both of two numbers are below a third where the larger is
max_below : (a b n : ℕ) → ltb (max a b) n ≡ ltb a n && ltb b n
max_below a b n = go (dec_lt a n) (dec_lt b n)
  where
    go : Dec (a < n) → Dec (b < n) → ltb (max a b) n ≡ ltb a n && ltb b n
    go (yes h) (yes k) = rw (lt-ltb a n h, lt-ltb b n k, lt-ltb (max a b) n (omega arith)) refl
    go (yes h) (no k) = rw (lt-ltb a n h, le-ltb b n (omega arith), le-ltb (max a b) n (omega arith)) refl
    go (no h) k = rw (le-ltb a n (omega arith), le-ltb (max a b) n (omega arith)) refl

or_true : (a : Bool) → a || true ≡ true
or_true true = refl
or_true false = refl

or_false : (a : Bool) → a || false ≡ a
or_false true = refl
or_false false = refl

one : (mark w : ℕ) → ltb (cond (eqb w mark) 0 (w % 2147483648)) 2139095040 ≡ packable mark w
unfolding finite missing magnitude infinity
one mark w = go (ℕ_discrete w mark)
  where
    go : Dec (w ≡ mark) → ltb (cond (eqb w mark) 0 (w % 2147483648)) 2139095040 ≡ (ltb (w % 2147483648) 2139095040 || eqb w mark)
    go (yes e) = rw (eq-eqb w mark e, or_true (ltb (w % 2147483648) 2139095040)) refl
    go (no e) = rw (ne_eqb w mark e, or_false (ltb (w % 2147483648) 2139095040)) refl

pub all_finite : (mark : ℕ) (ws : List ℕ) → ltb (largest_present mark ws) 2139095040 ≡ all (packable mark) ws
unfolding largest_present all
all_finite mark [] = refl
all_finite mark (w ∷ ws) =
    max_below (cond (eqb w mark) 0 (w % 2147483648)) (largest_present mark ws) 2139095040
    ∙ ap (λ (b : Bool). b && ltb (largest_present mark ws) 2139095040) (one mark w) ∙ ap (λ (b : Bool). packable mark w && b) (all_finite mark ws)

-- ---- the loop: what the rest of the readings adds

abbrev pub Turn : ℕ → List ℕ → ℕ → ℕ → Type 0
Turn mark xs most i = max most (largest_present mark (drop i xs)) ≡ largest_present mark xs

pub turn : (mark : ℕ) (xs : List ℕ) (most i m new : ℕ) → i < length xs → m ≡ cond (eqb (get_or xs i 0) mark) 0 (get_or xs i 0 % 2147483648) → new ≡ max m most → Turn mark xs most i
    → Turn mark xs new (i + 1)
unfolding largest_present
turn mark xs most i m new h e n inv = rw add-one (omega (arith, rw (drop-cons xs i 0 h, ← e) at inv))

pub end : (mark : ℕ) (xs : List ℕ) (most i : ℕ) → length xs ≤ i → Turn mark xs most i → most ≡ largest_present mark xs
unfolding largest_present
end mark xs most i h inv = omega (arith, rw (drop_of_length-le xs h) at inv)
