-- Where grooming changed the reading, the groomed one agrees with it above the tail, and so halfshave makes the same of both, unless the groomed one is zero, which it
-- leaves; and where it would make the mark, it leaves each as it is.
use mathlib.Core.Path.{◌≡◌, refl, sym, ap, ◌∙◌}
use mathlib.Core.Logic.{◌≢◌, ◌⊎◌, inl, inr, ◌↔◌, ⊎_map}
use Prim.Native.Nat.{ℕ, ◌-◌, ◌<◌}
use native.Mathlib.Decide.{ℕ_discrete}
use native.Mathlib.Omega.{arith}
use Rattle.meaning.specs.Readings.{magnitude, infinity}
use Rattle.meaning.specs.Methods.{TailMethod, tail, groom, halfshave, tail_changed, result, trimmed}
use Rattle.meaning.proofs.Patterns.{pattern_back}
use Rattle.meaning.proofs.Tails.{tail_changed_agree}
use Rattle.meaning.proofs.OneReading.{trimmed_spared, trimmed_result}
use Rattle.papers.specs.Halfshaving.{Halfshaving}
use Rattle.papers.proofs.Apart.{trimmed_has, result_is, result_magnitude, result_below, result_sign}
use Rattle.papers.proofs.TailValues.{tail_new, groom_zero, halfshave_zero, halfshave_same, halfshave_kept}

module _ (F X k mark turn w : ℕ) where
  abbrev G : ℕ → ℕ
  G v = trimmed F X (tail groom k) mark turn v

  abbrev H : ℕ → ℕ
  H v = trimmed F X (tail halfshave k) mark turn v

  -- the groomed and the halfshaved pattern
  abbrev g : ℕ
  g = result F X (tail groom k) turn w

  abbrev h : ℕ
  h = result F X (tail halfshave k) turn w

  -- a method that leaves the magnitude leaves the pattern
  unchanged : (c : TailMethod) (v : ℕ) → tail_changed c turn (F - k) (magnitude F X v) ≡ magnitude F X v → result F X (tail c k) turn v ≡ v
  unchanged c v e = result_is F X (tail c k) tt turn v ∙ rw (tail_new F X c k turn (magnitude F X v), e) (pattern_back F X v)

  -- w is present and finite, and grooming changes it to a pattern that isn't the mark
  module _ (p : w ≢ mark) (f : magnitude F X w < infinity F X) (s : g ≢ mark) (d : g ≢ w) where
    groomed_is : magnitude F X g ≡ tail_changed groom turn (F - k) (magnitude F X w)
    groomed_is = result_magnitude F X (tail groom k) tt turn w f ∙ tail_new F X groom k turn (magnitude F X w)

    below : magnitude F X g < infinity F X
    below = result_below F X (tail groom k) tt turn w f

    -- zero is left as it is
    original_some : magnitude F X w ≢ 0
    original_some z = d (unchanged groom w (rw z (groom_zero turn (F - k))))

    zero_stays : magnitude F X g ≡ 0 → H g ≡ g
    zero_stays z =
        let e : result F X (tail halfshave k) turn g ≡ g = unchanged halfshave g (rw z (halfshave_zero turn (F - k))) in
        trimmed_result F X (tail halfshave k) mark turn g s below (rw e s) ∙ e

    halfshaved_some : magnitude F X h ≢ 0
    halfshaved_some = rw (result_magnitude F X (tail halfshave k) tt turn w f, tail_new F X halfshave k turn (magnitude F X w)) (halfshave_kept turn (F - k) (magnitude F X w) original_some)

    -- any other has one halfshaved pattern with the original
    same_result : magnitude F X g ≢ 0 → result F X (tail halfshave k) turn g ≡ h
    same_result z =
        result_is F X (tail halfshave k) tt turn g
        ∙ rw (result_sign F X (tail groom k) tt turn w f, tail_new F X halfshave k turn (magnitude F X g), same) (sym (result_is F X (tail halfshave k) tt turn w ∙ rw (tail_new F X halfshave k turn (magnitude F X w)) refl))
      where
        same : tail_changed halfshave turn (F - k) (magnitude F X g) ≡ tail_changed halfshave turn (F - k) (magnitude F X w)
        same =
            halfshave_same turn (F - k) (magnitude F X g) (magnitude F X w) z original_some
            (rw groomed_is (tail_changed_agree groom turn (F - k) (magnitude F X w)))

    zero_differs : magnitude F X g ≡ 0 → H g ≢ H w
    zero_differs z e = go (ℕ_discrete h mark)
      where
        go : Dec (h ≡ mark) → ⊥
        go (yes m) = d (sym (zero_stays z) ∙ e ∙ trimmed_spared F X (tail halfshave k) mark turn w p f m)
        go (no m) = halfshaved_some (ap (magnitude F X) (sym (sym (zero_stays z) ∙ e ∙ trimmed_result F X (tail halfshave k) mark turn w p f m)) ∙ z)

    spared_differs : magnitude F X g ≢ 0 → h ≡ mark → H g ≢ H w
    spared_differs z m e =
        d (sym (trimmed_spared F X (tail halfshave k) mark turn g s below (same_result z ∙ m)) ∙ e ∙ trimmed_spared F X (tail halfshave k) mark turn w p f m)

    equal : magnitude F X g ≢ 0 → h ≢ mark → H g ≡ H w
    equal z m =
        trimmed_result F X (tail halfshave k) mark turn g s below (rw (same_result z) m) ∙ same_result z
        ∙ sym (trimmed_result F X (tail halfshave k) mark turn w p f m)

  -- what is to be shown, of the reading v that grooming left
  abbrev Exactly : ℕ → Type 0
  Exactly v = (H v ≡ H w) ↔ ((v ≡ w) ⊎ ((magnitude F X v ≢ 0) × (h ≢ mark)))

  neither : (v : ℕ) → v ≢ w → H v ≢ H w → ((magnitude F X v ≢ 0) × (h ≢ mark) → ⊥) → Exactly v
  neither v d n r = (λ e. absurd (n e), λ x. absurd (no_case x))
    where
      no_case : (v ≡ w) ⊎ ((magnitude F X v ≢ 0) × (h ≢ mark)) → ⊥
      no_case (inl e) = d e
      no_case (inr x) = r x

  exactly : Exactly (G w)
  exactly =
      trimmed_has F X (tail groom k) tt turn w mark Exactly (λ e. (λ _. inl refl, λ _. refl))
      (λ p f s. go p f s (ℕ_discrete g w) (ℕ_discrete (magnitude F X g) 0) (ℕ_discrete h mark))
    where
      go : w ≢ mark → magnitude F X w < infinity F X → g ≢ mark → Dec (g ≡ w) → Dec (magnitude F X g ≡ 0) → Dec (h ≡ mark) → Exactly g
      go p f s (yes d) z m = (λ _. inl d, λ _. ap H d)
      go p f s (no d) (yes z) m = neither g d (zero_differs p f s d z) (λ x. x.0 z)
      go p f s (no d) (no z) (yes m) = neither g d (spared_differs p f s d z m) (λ x. x.1 m)
      go p f s (no d) (no z) (no m) = (λ _. inr (z, m), λ _. equal p f s d z m)

module _ (F X : ℕ) where
  pub halfshaving : Halfshaving F X
  halfshaving =
      record {
        same_where = λ k mark turn w.
            (λ e. ⊎_map (omega arith) (omega arith) ((exactly F X k mark turn w).0 e), λ c. (exactly F X k mark turn w).1 (⊎_map (omega arith) (omega arith) c));
      }
