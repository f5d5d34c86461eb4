-- A pair of readings: the four tests that stand before the words; and where both have one sign, and sizes that lie less than the limit apart, it is not beyond.
use mathlib.Core.Path.{◌≡◌, refl, sym, ◌∙◌}
use mathlib.Core.Logic.{◌≢◌}
use mathlib.Core.Bool.{Bool, true, false}
use Prim.Native.Nat.{ℕ, ◌+◌, ◌^◌, ◌≤◌, ◌<◌}
use native.Mathlib.Decide.{dec_lt}
use native.Mathlib.Numerals.{add-one}
use native.Mathlib.Omega.{arith}
use borrow.Author.Tests.{eq-eqb, ne_eqb, lt-ltb, le-ltb}
use lib.Dec.{ltb}
use Rattle.meaning.specs.Readings.{size, sign, magnitude, infinity, finite, position, distance, present, missing}
use Rattle.meaning.specs.Methods.{trimmable}
use Rattle.meaning.specs.Comparing.{beyond}
use Rattle.meaning.proofs.Patterns.{position_distance, sign_one}
use Rattle.meaning.proofs.Accepted.{and_false}
use Rattle.meaning.proofs.OneReading.{trimmable_below}
use Rattle.meaning.proofs.Comparing.{near_within, first_out, swapped}
use Rattle.reading_pair.specs.Limit.{finite_or0}

module _ (F X w : ℕ) where
  finite_or_0 : magnitude F X w < infinity F X → finite_or0 F X w ≡ magnitude F X w
  unfolding finite_or0
  finite_or_0 h = rw (lt-ltb (magnitude F X w) (infinity F X) h) refl

  -- the choice that the code makes
  pub chosen_0 : infinity F X ≤ magnitude F X w → 0 ≡ finite_or0 F X w
  unfolding finite_or0
  chosen_0 h = rw (le-ltb (magnitude F X w) (infinity F X) h) refl

  pub chosen : magnitude F X w < infinity F X → magnitude F X w ≡ finite_or0 F X w
  chosen h = sym (finite_or_0 h)

  -- a word has one bit more than its magnitudes
  pub sign_small : w < 2 ^ (F + X + 1) → sign F X w ≤ 1
  sign_small h = sign_one F X w (rw add-one at h)

  pub chosen_finite : 0 < infinity F X → finite_or0 F X w < infinity F X
  chosen_finite p = go (dec_lt (magnitude F X w) (infinity F X))
    where
      go : Dec (magnitude F X w < infinity F X) → finite_or0 F X w < infinity F X
      go (yes h) = rw (finite_or_0 h) h
      go (no h) = rw (sym (chosen_0 (omega arith))) p

-- ---- by the tests and the words

module _ (F X mark w : ℕ) where
  pub missing_out : w ≡ mark → false ≡ trimmable F X mark w
  unfolding trimmable present missing
  missing_out e = rw (eq-eqb w mark e) refl

  pub present_by_magnitude : w ≢ mark → ltb (magnitude F X w) (infinity F X) ≡ trimmable F X mark w
  unfolding trimmable present missing finite
  present_by_magnitude n = rw (ne_eqb w mark n) refl

module _ (F X mark q w v : ℕ) where
  -- the two tests' answers, a and b, and the words', r
  pub first_left_out : (a : Bool) → a ≡ trimmable F X mark w → a ≡ false → false ≡ beyond F X mark q w v
  first_left_out a e f = sym (first_out F X mark q w v (sym e ∙ f))

  pub second_left_out : (b : Bool) → b ≡ trimmable F X mark v → b ≡ false → false ≡ beyond F X mark q w v
  second_left_out b e f = sym (swapped F X mark q w v ∙ first_out F X mark q v w (sym e ∙ f))

  pub both_in : (a b r : Bool) → a ≡ trimmable F X mark w → b ≡ trimmable F X mark v → a ≡ true → b ≡ true
      → (magnitude F X w < infinity F X → magnitude F X v < infinity F X → r ≡ ltb (2 ^ q) (distance (position F X w) (position F X v))) → r ≡ beyond F X mark q w v
  unfolding beyond
  both_in a b r e f g h k =
      let w_in : trimmable F X mark w ≡ true = sym e ∙ g in
      let v_in : trimmable F X mark v ≡ true = sym f ∙ h in
      rw (w_in, v_in) (k (trimmable_below F X mark w w_in) (trimmable_below F X mark v v_in))

module _ (F X mark q : ℕ) where
  not_finite : (w v : ℕ) → infinity F X ≤ magnitude F X w → beyond F X mark q w v ≡ false
  unfolding trimmable finite
  not_finite w v h = first_out F X mark q w v (rw (le-ltb (magnitude F X w) (infinity F X) h) (and_false (present mark w)))

  -- ---- by the float unit

  -- with one sign, sizes that lie less than a number apart, and that is at most the limit; what isn't finite is taken for 0
  pub near_pair : (w v a b n : ℕ) → sign F X w ≡ sign F X v → a ≡ finite_or0 F X w → b ≡ finite_or0 F X v → distance (size F a) (size F b) < n → n ≤ 2 ^ q → beyond F X mark q w v ≡ false
  near_pair w v a b n e x y l h = go (dec_lt (magnitude F X w) (infinity F X)) (dec_lt (magnitude F X v) (infinity F X))
    where
      go : Dec (magnitude F X w < infinity F X) → Dec (magnitude F X v < infinity F X) → beyond F X mark q w v ≡ false
      go (no i) d = not_finite w v (omega arith)
      go (yes i) (no j) = swapped F X mark q w v ∙ not_finite v w (omega arith)
      go (yes i) (yes j) =
          let k : distance (size F (magnitude F X w)) (size F (magnitude F X v)) < n = rw (x, y, finite_or_0 F X w i, finite_or_0 F X v j) at l in
          near_within F X mark q w v (omega (arith, position_distance F X w v i j (sym e), k, h))
