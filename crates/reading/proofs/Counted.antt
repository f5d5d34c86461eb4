-- What is left and counted of one reading is what the documents' definitions say: the pattern, changed, spared and missing together, clipped, missing, risen.
use mathlib.Core.Path.{◌≡◌, refl, sym, ap, ◌∙◌}
use mathlib.Core.Logic.{◌≢◌}
use mathlib.Core.Bool.{Bool, true, false, cond, not, true≢false}
use Prim.Native.Nat.{ℕ, ◌+◌, ◌-◌, ◌*◌, ◌/◌, ◌^◌, ◌≤◌, ◌<◌}
use native.Mathlib.Nat.{not-le_of_lt}
use native.Mathlib.Decide.{dec_lt, ℕ_discrete}
use native.Mathlib.Omega.{arith}
use borrow.Author.Tests.{eq-eqb, ne_eqb, leb-true, ltb-true, lt-ltb, le-ltb}
use lib.Dec.{eqb, ltb}
use lib.Pow.{pow_pos}
use Rattle.meaning.specs.Readings.{size, sign, magnitude, infinity, largest, finite, position, missing, present}
use Rattle.meaning.specs.Methods.{Method, tail, round, absolute, digits, nearest, shaved, rounded, multiple, clips, new_magnitude, result, trimmable, spared, trimmed, changed, clipped, risen}
use Rattle.meaning.proofs.Sizes.{size_le}
use Rattle.meaning.proofs.Patterns.{magnitude_pattern}
use Rattle.meaning.proofs.Nearest.{nearest_multiple}
use Rattle.meaning.proofs.Rounding.{cap, round_clipped, absolute_clipped}
use Rattle.meaning.proofs.Absolute.{absolute_exact}
use Rattle.meaning.proofs.Accepted.{Ready}
use Rattle.meaning.proofs.OneReading.{trimmed_other, trimmed_spared, trimmed_result, new_below, stays}
use Rattle.reading.specs.Left.{unless_missing, left_from, settled_from, wanted, wanted_by, over, rose_from, settled_by, in_force}
use Rattle.reading.proofs.Rose.{rose_stays, rose_is}

pub on_grid : (t m : ℕ) → shaved t m ≡ m → rounded t m ≡ m
unfolding shaved rounded
on_grid t m s = ap (λ (x : ℕ). nearest x (2 ^ t) * 2 ^ t) (sym s) ∙ ap (λ (x : ℕ). x * 2 ^ t) (nearest_multiple (m / 2 ^ t) (2 ^ t) (pow_pos t)) ∙ s

module _ (F X : ℕ) where
  -- ---- a clipped magnitude changes

  round_moves : (k turn m : ℕ) → clips F X (round k) m ≡ true → m < infinity F X → new_magnitude F X (round k) turn m ≢ m
  unfolding clips
  round_moves k turn m c h e = not-le_of_lt h (rw same at l)
    where
      t : ℕ
      t = F - k

      l : infinity F X ≤ rounded t m
      l = leb-true (infinity F X) (rounded t m) c

      -- m is on the grid, so it is its own nearest multiple
      same : rounded t m ≡ m
      same = on_grid t m (sym (round_clipped F X k turn m l) ∙ e)

  absolute_moves : (q turn m : ℕ) → clips F X (absolute q) m ≡ true → m < infinity F X → new_magnitude F X (absolute q) turn m ≢ m
  unfolding clips multiple
  absolute_moves q turn m c h e = not-le_of_lt l (rw same (size_le F {m = m} {n = largest F X} (omega arith)))
    where
      l : cap F X < multiple F q m
      l = ltb-true (cap F X) (multiple F q m) c

      is : size F m ≡ cap F X / 2 ^ q * 2 ^ q
      is = ap (λ (x : ℕ). size F x) (sym e) ∙ absolute_exact F X q turn m h ∙ absolute_clipped F X q m l

      same : multiple F q m ≡ size F m
      same = rw (is, nearest_multiple (cap F X / 2 ^ q) (2 ^ q) (pow_pos q)) refl

  clip_moves : (x : Method) (turn m : ℕ) → clips F X x m ≡ true → m < infinity F X → new_magnitude F X x turn m ≢ m
  unfolding clips
  clip_moves (tail c k) turn m e h = absurd (true≢false (sym e))
  clip_moves (round k) turn m e h = round_moves k turn m e h
  clip_moves (absolute q) turn m e h = absolute_moves q turn m e h
  clip_moves (digits n) turn m e h = absurd (true≢false (sym e))

  -- ---- the four cases of a reading: missing, not finite, spared, and the rest

  module _ (x : Method) (r : Ready x) (mark turn w : ℕ) where
    abbrev z : ℕ
    z = wanted_by F X x turn w

    data Case : Type 0 where
      gone : w ≡ mark → Case
      other : w ≢ mark → ¬ (magnitude F X w < infinity F X) → Case
      spare : w ≢ mark → magnitude F X w < infinity F X → result F X x turn w ≡ mark → Case
      moves : w ≢ mark → magnitude F X w < infinity F X → result F X x turn w ≢ mark → Case

    which : Case
    which = go (ℕ_discrete w mark) (dec_lt (magnitude F X w) (infinity F X)) (ℕ_discrete (result F X x turn w) mark)
      where
        go : Dec (w ≡ mark) → Dec (magnitude F X w < infinity F X) → Dec (result F X x turn w ≡ mark) → Case
        go (yes p) f e = gone p
        go (no p) (no f) e = other p f
        go (no p) (yes f) (yes e) = spare p f e
        go (no p) (yes f) (no e) = moves p f e

    not_finite : ¬ (magnitude F X w < infinity F X) → wanted_by F X x turn w ≡ w
    unfolding wanted_by wanted finite
    not_finite f = rw (le-ltb (magnitude F X w) (infinity F X) (omega arith)) refl

    is_finite : magnitude F X w < infinity F X → wanted_by F X x turn w ≡ result F X x turn w
    unfolding wanted_by wanted finite result
    is_finite f = rw (lt-ltb (magnitude F X w) (infinity F X) f) refl

    -- a missing reading, as the definitions see it
    gone_stays : w ≡ mark → trimmed F X x mark turn w ≡ w
    unfolding trimmed trimmable present missing
    gone_stays p = rw (eq-eqb w mark p) refl

    pub left_is : left_from mark w (wanted_by F X x turn w) ≡ trimmed F X x mark turn w
    unfolding left_from unless_missing
    left_is = go which
      where
        go : Case → left_from mark w (wanted_by F X x turn w) ≡ trimmed F X x mark turn w
        go (gone p) = simp (eq-eqb w mark p) (sym (gone_stays p))
        go (other p f) = simp (ne_eqb w mark p, not_finite f) (sym (trimmed_other F X x mark turn w f))
        go (spare p f e) = simp (ne_eqb w mark p, is_finite f, eq-eqb (result F X x turn w) mark e) (sym (trimmed_spared F X x mark turn w p f e))
        go (moves p f e) = simp (ne_eqb w mark p, is_finite f, ne_eqb (result F X x turn w) mark e) (sym (trimmed_result F X x mark turn w p f e))

    pub changed_is : ◌≡◌ {A = ℕ} (cond (eqb (left_from mark w (wanted_by F X x turn w)) w) 0 1) (cond (changed F X x mark turn w) 1 0)
    unfolding changed
    changed_is = rw left_is (flip (eqb (trimmed F X x mark turn w) w))
      where
        flip : (b : Bool) → ◌≡◌ {A = ℕ} (cond b 0 1) (cond (not b) 1 0)
        flip true = refl
        flip false = refl

    pub marked_is : cond (eqb (unless_missing mark w (wanted_by F X x turn w)) mark) 1 0 ≡ cond (spared F X x mark turn w) 1 0 + cond (missing mark w) 1 0
    unfolding unless_missing spared trimmable present missing finite
    marked_is = go which
      where
        go : Case → cond (eqb (unless_missing mark w (wanted_by F X x turn w)) mark) 1 0 ≡ cond (spared F X x mark turn w) 1 0 + cond (missing mark w) 1 0
        go (gone p) = simp (eq-eqb w mark p)
        go (other p f) = simp (ne_eqb w mark p, not_finite f, le-ltb (magnitude F X w) (infinity F X) (omega arith))
        go (spare p f e) = simp (ne_eqb w mark p, is_finite f, lt-ltb (magnitude F X w) (infinity F X) f, eq-eqb (result F X x turn w) mark e)
        go (moves p f e) = simp (ne_eqb w mark p, is_finite f, lt-ltb (magnitude F X w) (infinity F X) f, ne_eqb (result F X x turn w) mark e)

    -- a clipped result is another pattern
    clip_changes : clips F X x (magnitude F X w) ≡ true → magnitude F X w < infinity F X → result F X x turn w ≢ w
    unfolding result
    clip_changes c f e =
        clip_moves x turn (magnitude F X w) c f
        (sym (magnitude_pattern F X (sign F X w) (new_magnitude F X x turn (magnitude F X w)) (new_below F X x r turn (magnitude F X w) f)) ∙ ap (λ (v : ℕ). magnitude F X v) e)

    pub clipped_is : cond (eqb (left_from mark w (wanted_by F X x turn w)) w) 0 (over F X x w) ≡ cond (clipped F X x mark turn w) 1 0
    unfolding over clipped trimmable present missing finite
    clipped_is = rw left_is (go which)
      where
        either : (b : Bool) → ◌≡◌ {A = ℕ} (cond b 0 0) 0
        either true = refl
        either false = refl

        go : Case → cond (eqb (trimmed F X x mark turn w) w) 0 (over F X x w) ≡ cond (clipped F X x mark turn w) 1 0
        go (gone p) = simp (gone_stays p, eq-eqb w w refl, eq-eqb w mark p)
        go (other p f) = simp (trimmed_other F X x mark turn w f, eq-eqb w w refl, ne_eqb w mark p, le-ltb (magnitude F X w) (infinity F X) (omega arith))
        go (spare p f e) =
            simp (trimmed_spared F X x mark turn w p f e, eq-eqb w w refl, ne_eqb w mark p, lt-ltb (magnitude F X w) (infinity F X) f, eq-eqb (result F X x turn w) mark e)
        go (moves p f e) = by (clips F X x (magnitude F X w)) refl
          where
            by : (b : Bool) → clips F X x (magnitude F X w) ≡ b → cond (eqb (trimmed F X x mark turn w) w) 0 (over F X x w) ≡ cond (clipped F X x mark turn w) 1 0
            by true c =
                simp (trimmed_result F X x mark turn w p f e, ne_eqb (result F X x turn w) w (clip_changes c f), ne_eqb w mark p, lt-ltb (magnitude F X w) (infinity F X) f, ne_eqb (result F X x turn w) mark e, c)
            by false c = simp (c, ne_eqb w mark p, lt-ltb (magnitude F X w) (infinity F X) f, ne_eqb (result F X x turn w) mark e) (either (eqb (trimmed F X x mark turn w) w))

    pub risen_is : rose_from F X w (left_from mark w (wanted_by F X x turn w)) ≡ cond (risen F X x mark turn w) 1 0
    unfolding risen
    risen_is =
        rw left_is
        (stays F X (λ v. rose_from F X w v ≡ cond (ltb (position F X w) (position F X v)) 1 0) x r mark turn w (rose_stays F X w) (λ p f g.
        rose_is F X w (trimmed F X x mark turn w) g.signed f g.below))

    -- all of it
    pub settled_is : settled_by F X x mark turn w ≡ in_force F X x mark turn w
    unfolding settled_by settled_from in_force missing
    settled_is = rw (changed_is, clipped_is, marked_is, risen_is, left_is) refl
