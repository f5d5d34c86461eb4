-- From magnitudes to readings: what a method does to the size of every finite magnitude it does to every reading, and a reading that is left alone moves by nothing.
use mathlib.Core.Path.{◌≡◌, refl, sym, subst}
use mathlib.Core.Logic.{◌≢◌}
use Prim.Native.Nat.{ℕ, ◌<◌}
use native.Mathlib.Decide.{dec_lt, ℕ_discrete}
use native.Mathlib.Omega.{arith}
use Rattle.meaning.specs.Readings.{size, sign, magnitude, pattern, infinity, position, distance}
use Rattle.meaning.specs.Methods.{Method, new_magnitude, result, trimmed}
use Rattle.meaning.proofs.Patterns.{magnitude_pattern, sign_pattern, position_distance}
use Rattle.meaning.proofs.Accepted.{Ready}
use Rattle.meaning.proofs.OneReading.{trimmed_missing, trimmed_other, trimmed_spared, trimmed_result, new_below}
use Rattle.papers.specs.Moved.{moved}

pub distance_self : (a : ℕ) → distance a a ≡ 0
unfolding distance
distance_self a = omega arith

module _ (F X : ℕ) (x : Method) (r : Ready x) (turn w : ℕ) where
  abbrev new : ℕ
  new = new_magnitude F X x turn (magnitude F X w)

  pub result_is : result F X x turn w ≡ pattern F X (sign F X w) new
  unfolding result
  result_is = refl

  pub result_magnitude : magnitude F X w < infinity F X → magnitude F X (result F X x turn w) ≡ new
  unfolding result
  result_magnitude f = magnitude_pattern F X (sign F X w) new (new_below F X x r turn (magnitude F X w) f)

  pub result_below : magnitude F X w < infinity F X → magnitude F X (result F X x turn w) < infinity F X
  result_below f = rw (result_magnitude f) (new_below F X x r turn (magnitude F X w) f)

  pub result_sign : magnitude F X w < infinity F X → sign F X (result F X x turn w) ≡ sign F X w
  unfolding result
  result_sign f = sign_pattern F X (sign F X w) new (new_below F X x r turn (magnitude F X w) f)

  -- what holds of the reading where it is left as it was, and of the method's result where that is left, holds of what is left
  pub trimmed_has : (mark : ℕ) (Q : ℕ → Type 0) → (trimmed F X x mark turn w ≡ w → Q w)
      → (w ≢ mark → magnitude F X w < infinity F X → result F X x turn w ≢ mark → Q (result F X x turn w)) → Q (trimmed F X x mark turn w)
  trimmed_has mark Q z h = go (ℕ_discrete w mark) (dec_lt (magnitude F X w) (infinity F X)) (ℕ_discrete (result F X x turn w) mark)
    where
      still : trimmed F X x mark turn w ≡ w → Q (trimmed F X x mark turn w)
      still e = subst Q (sym e) (z e)

      go : Dec (w ≡ mark) → Dec (magnitude F X w < infinity F X) → Dec (result F X x turn w ≡ mark) → Q (trimmed F X x mark turn w)
      go (yes e) f s = still (rw e (trimmed_missing F X x mark turn))
      go (no e) (no f) s = still (trimmed_other F X x mark turn w f)
      go (no e) (yes f) (yes s) = still (trimmed_spared F X x mark turn w e f s)
      go (no e) (yes f) (no s) = subst Q (sym (trimmed_result F X x mark turn w e f s)) (h e f s)

  -- the same of magnitudes
  pub left_has : (mark : ℕ) (P : ℕ → Type 0) → P (magnitude F X w)
      → (magnitude F X w < infinity F X → P (new_magnitude F X x turn (magnitude F X w))) → P (magnitude F X (trimmed F X x mark turn w))
  left_has mark P z h = trimmed_has mark (λ v. P (magnitude F X v)) (λ _. z) (λ e f s. rw (result_magnitude f) (h f))

  -- only this law and the cases look into `moved`
  pub moved_is : (mark : ℕ) → moved F X x mark turn w ≡ distance (position F X w) (position F X (trimmed F X x mark turn w))
  unfolding moved distance
  moved_is mark = omega arith

  -- what holds of no distance, and of the distance of the sizes, holds of the reading's
  pub moved_has : (mark : ℕ) (P : ℕ → Type 0) → P 0
      → (magnitude F X w < infinity F X → P (distance (size F (magnitude F X w)) (size F (new_magnitude F X x turn (magnitude F X w)))))
      → P (moved F X x mark turn w)
  moved_has mark P z h =
      rw (moved_is mark)
      (trimmed_has mark (λ v. P (distance (position F X w) (position F X v))) (λ _. rw (distance_self (position F X w)) z)
      (λ e f s.
      rw (position_distance F X w (result F X x turn w) f (result_below f) (result_sign f), result_magnitude f)
      (h f)))
