-- One reading and one accepted method: what is left of it. The mark stays, a present reading stays present, an infinity or NaN stays as it is, and what a method
-- keeps of magnitudes it keeps of readings. No lemma here knows the turn.
use mathlib.Core.Path.{◌≡◌, refl, sym, ◌∙◌, subst}
use mathlib.Core.Logic.{◌≢◌}
use mathlib.Core.Bool.{true, true≢false}
use Prim.Native.Nat.{ℕ, ◌-◌, ◌<◌}
use native.Mathlib.Nat.{sub-le}
use native.Mathlib.Decide.{dec_lt, ℕ_discrete}
use native.Mathlib.Omega.{arith}
use borrow.Author.Tests.{eq-eqb, ne_eqb, lt-ltb, le-ltb, ltb-true}
use lib.Dec.{ltb}
use Rattle.meaning.specs.Readings.{magnitude, sign, pattern, infinity, finite, missing, present}
use Rattle.meaning.specs.Methods.{Method, tail, round, absolute, digits, tail_changed, new_magnitude, result, trimmable, trimmed}
use Rattle.meaning.proofs.Patterns.{magnitude_pattern, sign_pattern}
use Rattle.meaning.proofs.Tails.{agree_finite, tail_changed_agree}
use Rattle.meaning.proofs.Rounding.{round_below, absolute_below}
use Rattle.meaning.proofs.Digits.{digits_below}
use Rattle.meaning.proofs.Accepted.{Ready, and_second}

module _ (F X : ℕ) where
  -- ---- what is trimmed is present and finite

  pub is_trimmable : (mark w : ℕ) → w ≢ mark → magnitude F X w < infinity F X → trimmable F X mark w ≡ true
  unfolding trimmable present missing finite
  is_trimmable mark w p f = rw (ne_eqb w mark p, lt-ltb (magnitude F X w) (infinity F X) f) refl

  pub trimmable_present : (mark w : ℕ) → trimmable F X mark w ≡ true → w ≢ mark
  unfolding trimmable present missing
  trimmable_present mark w o e = true≢false (sym o ∙ rw (eq-eqb w mark e) refl)

  pub trimmable_below : (mark w : ℕ) → trimmable F X mark w ≡ true → magnitude F X w < infinity F X
  unfolding trimmable finite
  trimmable_below mark w o = ltb-true (magnitude F X w) (infinity F X) (and_second (present mark w) (ltb (magnitude F X w) (infinity F X)) o)

  -- ---- the three cases of `trimmed`

  pub trimmed_missing : (x : Method) (mark turn : ℕ) → trimmed F X x mark turn mark ≡ mark
  unfolding trimmed trimmable present missing
  trimmed_missing x mark turn = rw (eq-eqb mark mark refl) refl

  pub trimmed_other : (x : Method) (mark turn w : ℕ) → ¬ (magnitude F X w < infinity F X) → trimmed F X x mark turn w ≡ w
  unfolding trimmed trimmable present missing finite
  trimmed_other x mark turn w h = go (ℕ_discrete w mark)
    where
      go : Dec (w ≡ mark) → trimmed F X x mark turn w ≡ w
      go (yes e) = rw (eq-eqb w mark e) refl
      go (no e) = rw (ne_eqb w mark e, le-ltb (magnitude F X w) (infinity F X) (omega arith)) refl

  module _ (x : Method) (mark turn w : ℕ) (p : w ≢ mark) (f : magnitude F X w < infinity F X) where
    -- "the reading keeps its old pattern"
    pub trimmed_spared : result F X x turn w ≡ mark → trimmed F X x mark turn w ≡ w
    unfolding trimmed trimmable present missing finite
    trimmed_spared e = rw (ne_eqb w mark p, lt-ltb (magnitude F X w) (infinity F X) f, eq-eqb (result F X x turn w) mark e) refl

    pub trimmed_result : result F X x turn w ≢ mark → trimmed F X x mark turn w ≡ result F X x turn w
    unfolding trimmed trimmable present missing finite
    trimmed_result e = rw (ne_eqb w mark p, lt-ltb (magnitude F X w) (infinity F X) f, ne_eqb (result F X x turn w) mark e) refl

  -- ---- what follows

  pub trimmed_present : (x : Method) (mark turn w : ℕ) → w ≢ mark → trimmed F X x mark turn w ≢ mark
  trimmed_present x mark turn w p = go (dec_lt (magnitude F X w) (infinity F X)) (ℕ_discrete (result F X x turn w) mark)
    where
      go : Dec (magnitude F X w < infinity F X) → Dec (result F X x turn w ≡ mark) → trimmed F X x mark turn w ≢ mark
      go (no f) e = rw (trimmed_other x mark turn w f) p
      go (yes f) (yes e) = rw (trimmed_spared x mark turn w p f e) p
      go (yes f) (no e) = rw (trimmed_result x mark turn w p f e) e

  result_is : (x : Method) (turn w : ℕ) → result F X x turn w ≡ pattern F X (sign F X w) (new_magnitude F X x turn (magnitude F X w))
  unfolding result
  result_is x turn w = refl

  -- a finite magnitude stays finite
  pub new_below : (x : Method) → Ready x → (turn m : ℕ) → m < infinity F X → new_magnitude F X x turn m < infinity F X
  unfolding new_magnitude
  new_below (tail c k) r turn m h = agree_finite F X (tail_changed c turn (F - k) m) m (F - k) (sub-le F k) (tail_changed_agree c turn (F - k) m) h
  new_below (round k) r turn m h = round_below F X k turn m h
  new_below (absolute q) r turn m h = absolute_below F X q turn m h
  new_below (digits n) r turn m h = digits_below F X n turn m r h

  -- the method keeps P of finite magnitudes
  abbrev pub Keeps : (ℕ → Type 0) → Method → Type 0
  Keeps P x = (turn m : ℕ) → m < infinity F X → P m → P (new_magnitude F X x turn m)

  -- a present finite reading with the sign s whose magnitude has P
  pub record Good (P : ℕ → Type 0) (mark s w : ℕ) : Type 0 where
    pub here : w ≢ mark
    pub below : magnitude F X w < infinity F X
    pub signed : sign F X w ≡ s
    pub holds : P (magnitude F X w)

  pub trimmed_good : (P : ℕ → Type 0) (x : Method) → Ready x → Keeps P x → (mark turn s w : ℕ) → Good P mark s w → Good P mark s (trimmed F X x mark turn w)
  trimmed_good P x r keeps mark turn s w g = go (ℕ_discrete (result F X x turn w) mark)
    where
      m : ℕ
      m = new_magnitude F X x turn (magnitude F X w)

      below_m : m < infinity F X
      below_m = new_below x r turn (magnitude F X w) g.below

      is : result F X x turn w ≡ pattern F X (sign F X w) m
      is = result_is x turn w

      go : Dec (result F X x turn w ≡ mark) → Good P mark s (trimmed F X x mark turn w)
      go (yes e) = rw (trimmed_spared x mark turn w g.here g.below e) g
      go (no e) =
          rw (trimmed_result x mark turn w g.here g.below e)
          (record {
            here = e;
            below = rw (is, magnitude_pattern F X (sign F X w) m below_m) below_m;
            signed = rw (is, sign_pattern F X (sign F X w) m below_m) g.signed;
            holds = rw (is, magnitude_pattern F X (sign F X w) m below_m) (keeps turn (magnitude F X w) g.below g.holds);
          })

  -- a present finite reading stays one, with its sign
  pub stays_good : (x : Method) → Ready x → (mark turn w : ℕ) → w ≢ mark → magnitude F X w < infinity F X → Good (λ m. Unit {0}) mark (sign F X w) (trimmed F X x mark turn w)
  stays_good x r mark turn w p f =
      trimmed_good (λ m. Unit {0}) x r (λ turn m h u. tt) mark turn (sign F X w) w (record { here = p; below = f; signed = refl; holds = tt })

  -- one that is not present and finite stays as it is
  pub stays : (P : ℕ → Type 0) (x : Method) → Ready x → (mark turn w : ℕ) → P w
      → (w ≢ mark → magnitude F X w < infinity F X → Good (λ m. Unit {0}) mark (sign F X w) (trimmed F X x mark turn w) → P (trimmed F X x mark turn w))
      → P (trimmed F X x mark turn w)
  stays P x r mark turn w h k = go (ℕ_discrete w mark) (dec_lt (magnitude F X w) (infinity F X))
    where
      go : Dec (w ≡ mark) → Dec (magnitude F X w < infinity F X) → P (trimmed F X x mark turn w)
      go (yes e) f = subst P (sym (rw e (trimmed_missing x mark turn))) h
      go (no e) (no f) = subst P (sym (trimmed_other x mark turn w f)) h
      go (no e) (yes f) = k e f (stays_good x r mark turn w e f)
