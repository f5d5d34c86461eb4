-- 001's and 003's bounds for one reading; and with the unit at what is left, which is no smaller: but for absolute, whose unit is the same everywhere, no method takes a reading below the binade in which it lies.
use mathlib.Core.Path.{◌≡◌, sym}
use Prim.Native.Nat.{ℕ, ◌+◌, ◌-◌, ◌*◌, ◌^◌, ◌≤◌, ◌<◌, zero-le}
use native.Mathlib.Nat.{div-add-mod', div-mul-le_self, mod-lt, le_refl, le_of_eq, le_trans, sub-le, mul-le-mul_left, mul-le-mul_right}
use native.Mathlib.Decide.{dec_lt, ℕ_discrete}
use native.Mathlib.Omega.{arith}
use borrow.Author.Tests.{leb-false}
use lib.Pow.{pow_pos, pow_mono}
use Rattle.meaning.specs.Readings.{size, spacing, spacing_exp, magnitude, infinity}
use Rattle.meaning.specs.Methods.{Method, TailMethod, tail, round, absolute, digits, shave, set, halfshave, unit, shaved, rounded, tail_changed, clips, new_magnitude}
use Rattle.meaning.proofs.Sizes.{size_le, spacing_mono}
use Rattle.meaning.proofs.Nearest.{nearest_floor}
use Rattle.meaning.proofs.Tails.{same_spacing, tail_changed_agree}
use Rattle.meaning.proofs.Rounding.{round_within, round_clipped}
use Rattle.papers.specs.Moved.{moved, unit_of, unit_left}
use Rattle.papers.specs.Bounds.{UnitBounds, LeftBounds}
use Rattle.papers.proofs.Apart.{left_has, moved_has}
use Rattle.papers.proofs.TailValues.{shave_is, set_some}
use Rattle.papers.proofs.Steps.{tail_step, halfshave_step, round_half, round_whole, absolute_half, absolute_whole}

module _ (F X : ℕ) where
  -- a unit is at least a spacing
  one_spacing : (k m : ℕ) → 0 + spacing F m ≤ 2 ^ (F - k) * spacing F m
  one_spacing k m = omega (arith, mul-le-mul_right (spacing F m) (pow_pos (F - k)))

  shaved_less : (turn t m : ℕ) → tail_changed shave turn t m ≤ m
  shaved_less turn t m = rw (shave_is turn t m) (div-mul-le_self m (2 ^ t))

  set_more : (turn t m : ℕ) → m ≤ tail_changed set turn t m
  set_more turn t m = go (ℕ_discrete m 0)
    where
      go : Dec (m ≡ 0) → m ≤ tail_changed set turn t m
      go (yes z) = rw z zero-le
      go (no z) = rw (set_some turn t m z) (omega (arith, div-add-mod' m (2 ^ t), mod-lt m (pow_pos t)))

  -- ---- half a unit, for halfshave and for round below infinity

  pub halfshave_half : (k mark turn w : ℕ) → 2 * moved F X (tail halfshave k) mark turn w ≤ unit_of F X (tail halfshave k) w
  unfolding unit new_magnitude
  halfshave_half k mark turn w =
      moved_has F X (tail halfshave k) tt turn w mark (λ d. 2 * d ≤ unit F (tail halfshave k) (magnitude F X w)) zero-le
      (λ f. halfshave_step F turn (F - k) (magnitude F X w) (sub-le F k))

  round_near : (k mark turn w : ℕ) → rounded (F - k) (magnitude F X w) < infinity F X → 2 * moved F X (round k) mark turn w ≤ unit_of F X (round k) w
  unfolding unit
  round_near k mark turn w l =
      moved_has F X (round k) tt turn w mark (λ d. 2 * d ≤ unit F (round k) (magnitude F X w)) zero-le (λ f. round_half F X k turn (magnitude F X w) l)

  pub unit_bounds : UnitBounds F X
  unfolding unit new_magnitude clips
  unit_bounds =
      record {
        tail_moves = λ c k mark turn w.
            moved_has F X (tail c k) tt turn w mark (λ d. d + spacing F (magnitude F X w) ≤ unit F (tail c k) (magnitude F X w)) (one_spacing k (magnitude F X w))
            (λ f. tail_step F c turn (F - k) (magnitude F X w) (sub-le F k));
        halfshave_moves = λ k mark turn w. omega (arith, halfshave_half k mark turn w);
        round_moves = λ k mark turn w c. omega (arith, round_near k mark turn w (omega (arith, leb-false)));
        round_always = λ k mark turn w.
            moved_has F X (round k) tt turn w mark (λ d. d + spacing F (magnitude F X w) ≤ unit F (round k) (magnitude F X w)) (one_spacing k (magnitude F X w))
            (λ f. round_whole F X k turn (magnitude F X w));
        absolute_moves = λ q mark turn w c.
            moved_has F X (absolute q) tt turn w mark (λ d. 2 * d ≤ 2 ^ q) zero-le (λ f. absolute_half F X q turn (magnitude F X w) f c);
        absolute_always = λ q mark turn w.
            moved_has F X (absolute q) tt turn w mark (λ d. d < 2 ^ q) (pow_pos q) (λ f. absolute_whole F X q turn (magnitude F X w) f);
        shave_down = λ k mark turn w.
            left_has F X (tail shave k) tt turn w mark (λ m. size F m ≤ size F (magnitude F X w)) (le_refl (size F (magnitude F X w)))
            (λ f. size_le F (shaved_less turn (F - k) (magnitude F X w)));
        set_up = λ k mark turn w.
            left_has F X (tail set k) tt turn w mark (λ m. size F (magnitude F X w) ≤ size F m) (le_refl (size F (magnitude F X w)))
            (λ f. size_le F (set_more turn (F - k) (magnitude F X w)));
      }

  -- ---- by what is left

  -- methods 0 to 3 stay in the binade
  tail_binade : (c : TailMethod) (k turn m : ℕ) → spacing_exp F m ≡ spacing_exp F (tail_changed c turn (F - k) m)
  tail_binade c k turn m = same_spacing F m (tail_changed c turn (F - k) m) (F - k) (sub-le F k) (sym (tail_changed_agree c turn (F - k) m))

  -- round leaves S or more
  round_least : (k turn m : ℕ) → tail_changed shave turn (F - k) m ≤ new_magnitude F X (round k) turn m
  unfolding tail_changed shaved rounded
  round_least k turn m = go (dec_lt (rounded (F - k) m) (infinity F X))
    where
      go : Dec (rounded (F - k) m < infinity F X) → shaved (F - k) m ≤ new_magnitude F X (round k) turn m
      go (yes f) = rw (round_within F X k turn m f) (mul-le-mul_right (2 ^ (F - k)) (nearest_floor m (2 ^ (F - k)) (pow_pos (F - k))).0)
      go (no f) = rw (round_clipped F X k turn m (omega arith)) (le_refl (shaved (F - k) m))

  unit_grows : (x : Method) (mark turn w : ℕ) → unit_of F X x w ≤ unit_left F X x mark turn w
  unfolding unit spacing new_magnitude
  unit_grows (tail c k) mark turn w =
      left_has F X (tail c k) tt turn w mark (λ v. unit F (tail c k) (magnitude F X w) ≤ unit F (tail c k) v) (le_refl (unit_of F X (tail c k) w))
      (λ f. mul-le-mul_left (2 ^ (F - k)) (pow_mono (le_of_eq (tail_binade c k turn (magnitude F X w)))))
  unit_grows (round k) mark turn w =
      left_has F X (round k) tt turn w mark (λ v. unit F (round k) (magnitude F X w) ≤ unit F (round k) v) (le_refl (unit_of F X (round k) w))
      (λ f. mul-le-mul_left (2 ^ (F - k)) (pow_mono (le_trans (le_of_eq (tail_binade shave k turn (magnitude F X w))) (spacing_mono F (round_least k turn (magnitude F X w))))))
  unit_grows (absolute q) mark turn w = le_refl (2 ^ q)
  unit_grows (digits n) mark turn w = le_refl 0

  some_spacing : (m : ℕ) → 0 < spacing F m
  unfolding spacing
  some_spacing m = pow_pos (spacing_exp F m)

  pub left_bounds : LeftBounds F X
  unfolding clips
  left_bounds =
      record {
        unit_grows = unit_grows;
        tail_left = λ c k mark turn w.
            omega (arith, unit_bounds.tail_moves c k mark turn w, unit_grows (tail c k) mark turn w, some_spacing (magnitude F X w));
        halfshave_left = λ k mark turn w. omega (arith, halfshave_half k mark turn w, unit_grows (tail halfshave k) mark turn w);
        round_left = λ k mark turn w c. omega (arith, round_near k mark turn w (omega (arith, leb-false)), unit_grows (round k) mark turn w);
        round_always_left = λ k mark turn w.
            omega (arith, unit_bounds.round_always k mark turn w, unit_grows (round k) mark turn w, some_spacing (magnitude F X w));
        absolute_left = λ q mark turn w c. omega (arith, unit_bounds.absolute_moves q mark turn w c, unit_grows (absolute q) mark turn w);
        absolute_always_left = λ q mark turn w. omega (arith, unit_bounds.absolute_always q mark turn w, unit_grows (absolute q) mark turn w);
      }
