-- Two calls of one method. One whose result on a finite magnitude is its own result leaves what it left: a spared reading is spared again.
use mathlib.Core.Path.{◌≡◌, refl, sym, ap, ap₂, ◌∙◌}
use mathlib.Core.Logic.{◌≢◌}
use mathlib.Core.List.{List, [], ◌∷◌}
use Prim.Native.Nat.{ℕ, ◌+◌, ◌-◌, ◌*◌, ◌/◌, ◌%◌, ◌^◌, ◌≤◌, ◌<◌}
use native.Mathlib.Nat.{mul_assoc, mul-div_cancel, le_refl}
use native.Mathlib.Decide.{dec_le, dec_lt, ℕ_discrete}
use native.Mathlib.Omega.{arith}
use lib.Pow.{pow_pos, high, ones_lt, suc_ones}
use Rattle.meaning.specs.Readings.{size, magnitude, infinity, largest}
use Rattle.meaning.specs.Methods.{Method, TailMethod, shave, set, groom, halfshave, tail, round, absolute, digits, nearest, shaved, rounded, multiple, tail_changed, absolute_size, new_magnitude, result, trimmed, turn_after, trim_from}
use Rattle.meaning.proofs.Powers.{pow_split}
use Rattle.meaning.proofs.Sizes.{size_le}
use Rattle.meaning.proofs.Patterns.{magnitude_of_size}
use Rattle.meaning.proofs.Nearest.{nearest_multiple}
use Rattle.meaning.proofs.Tails.{Agree, agree_up, tail_changed_agree}
use Rattle.meaning.proofs.Rounding.{cap, round_below, absolute_below, round_within, round_clipped, absolute_within, absolute_clipped}
use Rattle.meaning.proofs.Absolute.{absolute_exact}
use Rattle.meaning.proofs.Accepted.{Ready}
use Rattle.meaning.proofs.OneReading.{trimmed_result}
use Rattle.meaning.proofs.Turns.{same_turn}
use Rattle.papers.specs.Repetition.{NoDigits, Repetition, Rounder}
use Rattle.papers.proofs.Apart.{trimmed_has, result_is, result_magnitude, result_below, result_sign}
use Rattle.papers.proofs.TailValues.{shave_is, set_some, shave_same, set_same, set_kept, halfshave_same, halfshave_kept, set_zero, groom_even, groom_odd, halfshave_zero}

-- ---- methods 0 to 3

-- a longer tail after a shorter one: both agree above the longer
tail_rounder : (c : TailMethod) (turn t u m : ℕ) → t ≤ u → tail_changed c turn u (tail_changed c turn t m) ≡ tail_changed c turn u m
tail_rounder c turn t u m h = go c (agree_up (tail_changed c turn t m) m t u h (tail_changed_agree c turn t m)) (ℕ_discrete m 0) (ℕ_discrete (turn % 2) 0)
  where
    down : Agree u (tail_changed shave turn t m) m → tail_changed shave turn u (tail_changed shave turn t m) ≡ tail_changed shave turn u m
    down e = shave_same turn u (tail_changed shave turn t m) m e

    up : Agree u (tail_changed set turn t m) m → Dec (m ≡ 0) → tail_changed set turn u (tail_changed set turn t m) ≡ tail_changed set turn u m
    up e (yes z) = rw (z, set_zero turn t) refl
    up e (no z) = set_same turn u (tail_changed set turn t m) m (set_kept turn t m z) z e

    go : (c : TailMethod) → Agree u (tail_changed c turn t m) m → Dec (m ≡ 0) → Dec (turn % 2 ≡ 0) → tail_changed c turn u (tail_changed c turn t m) ≡ tail_changed c turn u m
    go shave e z p = down e
    go set e z p = up e z
    go groom e z (yes p) = rw (groom_even turn t m p, groom_even turn u (tail_changed shave turn t m) p, groom_even turn u m p) (down (rw (groom_even turn t m p) at e))
    go groom e z (no p) = rw (groom_odd turn t m p, groom_odd turn u (tail_changed set turn t m) p, groom_odd turn u m p) (up (rw (groom_odd turn t m p) at e) z)
    go halfshave e (yes z) p = rw (z, halfshave_zero turn t) refl
    go halfshave e (no z) p = halfshave_same turn u (tail_changed halfshave turn t m) m (halfshave_kept turn t m z) z e

-- a shorter tail after a longer one: it is of zeros or of ones already
shave_finer : (turn t u m : ℕ) → t ≤ u → tail_changed shave turn t (tail_changed shave turn u m) ≡ tail_changed shave turn u m
shave_finer turn t u m h =
    let e : m / 2 ^ u * 2 ^ u ≡ m / 2 ^ u * 2 ^ (u - t) * 2 ^ t = ap (λ (x : ℕ). m / 2 ^ u * x) (pow_split u t h) ∙ sym (mul_assoc (m / 2 ^ u) (2 ^ (u - t)) (2 ^ t)) in
    rw (shave_is turn u m, shave_is turn t (m / 2 ^ u * 2 ^ u), e, mul-div_cancel (m / 2 ^ u * 2 ^ (u - t)) (pow_pos t)) refl

set_finer : (turn t u m : ℕ) → t ≤ u → tail_changed set turn t (tail_changed set turn u m) ≡ tail_changed set turn u m
set_finer turn t u m h = go (ℕ_discrete m 0)
  where
    a : ℕ
    a = m / 2 ^ u * 2 ^ (u - t) + (2 ^ (u - t) - 1)

    is : m / 2 ^ u * 2 ^ u + (2 ^ u - 1) ≡ a * 2 ^ t + (2 ^ t - 1)
    is =
        omega (arith, pow_split u t h, ap (λ (x : ℕ). m / 2 ^ u * x) (pow_split u t h), ap (λ (x : ℕ). x * 2 ^ t) (suc_ones (u - t)), pow_pos t)

    go : Dec (m ≡ 0) → tail_changed set turn t (tail_changed set turn u m) ≡ tail_changed set turn u m
    go (yes z) = rw (z, set_zero turn u) (set_zero turn t)
    go (no z) =
        let x : tail_changed set turn u m ≡ a * 2 ^ t + (2 ^ t - 1) = set_some turn u m z ∙ is in
        set_some turn t (tail_changed set turn u m) (set_kept turn u m z) ∙ rw (x, high a t (ones_lt t)) refl

tail_finer : (c : TailMethod) → c ≢ halfshave → (turn t u m : ℕ) → t ≤ u → tail_changed c turn t (tail_changed c turn u m) ≡ tail_changed c turn u m
tail_finer shave n turn t u m h = shave_finer turn t u m h
tail_finer set n turn t u m h = set_finer turn t u m h
tail_finer groom n turn t u m h = go (ℕ_discrete (turn % 2) 0)
  where
    go : Dec (turn % 2 ≡ 0) → tail_changed groom turn t (tail_changed groom turn u m) ≡ tail_changed groom turn u m
    go (yes z) = rw (groom_even turn u m z, groom_even turn t (tail_changed shave turn u m) z) (shave_finer turn t u m h)
    go (no z) = rw (groom_odd turn u m z, groom_odd turn t (tail_changed set turn u m) z) (set_finer turn t u m h)
tail_finer halfshave n turn t u m h = absurd (n refl)

module _ (F X : ℕ) where
  -- method 4: both neighbours are their own nearest
  grid_again : (t j : ℕ) → rounded t (j * 2 ^ t) ≡ j * 2 ^ t
  unfolding rounded
  grid_again t j = ap (λ (x : ℕ). x * 2 ^ t) (nearest_multiple j (2 ^ t) (pow_pos t))

  round_grid : (k turn m : ℕ) → (j : ℕ) × (new_magnitude F X (round k) turn m ≡ j * 2 ^ (F - k))
  unfolding rounded shaved
  round_grid k turn m = go (dec_lt (rounded (F - k) m) (infinity F X))
    where
      go : Dec (rounded (F - k) m < infinity F X) → (j : ℕ) × (new_magnitude F X (round k) turn m ≡ j * 2 ^ (F - k))
      go (yes f) = (nearest m (2 ^ (F - k)), round_within F X k turn m f)
      go (no f) = (m / 2 ^ (F - k), round_clipped F X k turn m (omega arith))

  round_finer : (k j turn m : ℕ) → k ≤ j → m < infinity F X → new_magnitude F X (round j) turn (new_magnitude F X (round k) turn m) ≡ new_magnitude F X (round k) turn m
  round_finer k j turn m h f =
      let d = round_grid k turn m in
      let e : new_magnitude F X (round k) turn m ≡ d.0 * 2 ^ (F - k - (F - j)) * 2 ^ (F - j) =
      d.1 ∙ ap (λ (x : ℕ). d.0 * x) (pow_split (F - k) (F - j) (omega arith)) ∙ sym (mul_assoc d.0 (2 ^ (F - k - (F - j))) (2 ^ (F - j))) in
      let g : rounded (F - j) (new_magnitude F X (round k) turn m) ≡ new_magnitude F X (round k) turn m = rw e (grid_again (F - j) (d.0 * 2 ^ (F - k - (F - j)))) in
      round_within F X j turn (new_magnitude F X (round k) turn m) (rw g (round_below F X k turn m f)) ∙ g

  -- method 5: the new size is its own nearest multiple
  absolute_grid : (q m : ℕ) → (j : ℕ) × (absolute_size F X q m ≡ j * 2 ^ q)
  unfolding multiple
  absolute_grid q m = go (dec_le (multiple F q m) (cap F X))
    where
      go : Dec (multiple F q m ≤ cap F X) → (j : ℕ) × (absolute_size F X q m ≡ j * 2 ^ q)
      go (yes l) = (nearest (size F m) (2 ^ q), absolute_within F X q m l)
      go (no l) = (cap F X / 2 ^ q, absolute_clipped F X q m (omega arith))

  multiple_again : (q v j : ℕ) → size F v ≡ j * 2 ^ q → multiple F q v ≡ size F v
  unfolding multiple
  multiple_again q v j e = rw e (ap (λ (x : ℕ). x * 2 ^ q) (nearest_multiple j (2 ^ q) (pow_pos q)))

  absolute_still : (q turn v : ℕ) → v < infinity F X → multiple F q v ≡ size F v → new_magnitude F X (absolute q) turn v ≡ v
  unfolding new_magnitude
  absolute_still q turn v f e =
      rw (absolute_within F X q v (rw e (size_le F {m = v} {n = largest F X} (omega arith))), e) (magnitude_of_size F X v f)

  absolute_finer : (p q turn m : ℕ) → q ≤ p → m < infinity F X → new_magnitude F X (absolute q) turn (new_magnitude F X (absolute p) turn m) ≡ new_magnitude F X (absolute p) turn m
  absolute_finer p q turn m h f =
      let d = absolute_grid p m in
      let v : ℕ = new_magnitude F X (absolute p) turn m in
      absolute_still q turn v (absolute_below F X p turn m f)
      (multiple_again q v (d.0 * 2 ^ (p - q)) (absolute_exact F X p turn m f ∙ d.1 ∙ ap (λ (x : ℕ). d.0 * x) (pow_split p q h) ∙ sym (mul_assoc d.0 (2 ^ (p - q)) (2 ^ q))))

  -- ---- the same of settings

  rounder : (c : TailMethod) (k j turn m : ℕ) → k ≤ j → new_magnitude F X (tail c k) turn (new_magnitude F X (tail c j) turn m) ≡ new_magnitude F X (tail c k) turn m
  unfolding new_magnitude
  rounder c k j turn m h = tail_rounder c turn (F - j) (F - k) m (omega arith)

  no_sharper : (c : TailMethod) → c ≢ halfshave → (k j turn m : ℕ) → k ≤ j → new_magnitude F X (tail c j) turn (new_magnitude F X (tail c k) turn m) ≡ new_magnitude F X (tail c k) turn m
  unfolding new_magnitude
  no_sharper c n k j turn m h = tail_finer c n turn (F - j) (F - k) m (omega arith)

  pub rounders : Rounder F X
  rounders = record { tail_rounder = rounder; tail_no_sharper = no_sharper; round_no_sharper = round_finer; absolute_no_sharper = absolute_finer }

  -- ---- a second call with the same setting

  no_digits : (n : ℕ) → NoDigits (digits n) → ⊥
  no_digits n h = h n (ap digits (omega arith))

  again : (x : Method) → NoDigits x → (turn m : ℕ) → m < infinity F X → new_magnitude F X x turn (new_magnitude F X x turn m) ≡ new_magnitude F X x turn m
  again (tail c k) h turn m f = rounder c k k turn m (le_refl k)
  again (round k) h turn m f = round_finer k k turn m (le_refl k) f
  again (absolute q) h turn m f = absolute_finer q q turn m (le_refl q) f
  again (digits n) h turn m f = absurd (no_digits n h)

  ready : (x : Method) → NoDigits x → Ready x
  ready (tail c k) h = tt
  ready (round k) h = tt
  ready (absolute q) h = tt
  ready (digits n) h = absurd (no_digits n h)

  module _ (x : Method) (h : NoDigits x) (turn w : ℕ) where
    -- the result is its own result
    result_again : magnitude F X w < infinity F X → result F X x turn (result F X x turn w) ≡ result F X x turn w
    result_again f =
        result_is F X x (ready x h) turn (result F X x turn w)
        ∙ rw (result_sign F X x (ready x h) turn w f, result_magnitude F X x (ready x h) turn w f, again x h turn (magnitude F X w) f)
        (sym (result_is F X x (ready x h) turn w))

    reading_again : (mark : ℕ) → trimmed F X x mark turn (trimmed F X x mark turn w) ≡ trimmed F X x mark turn w
    reading_again mark =
        trimmed_has F X x (ready x h) turn w mark (λ v. trimmed F X x mark turn v ≡ v) (λ e. e)
        (λ p f s.
        trimmed_result F X x mark turn (result F X x turn w) s (result_below F X x (ready x h) turn w f) (λ e. s (sym (result_again f) ∙ e)) ∙ result_again f)

  array_again : (x : Method) → NoDigits x → (mark turn : ℕ) (ws : List ℕ) → trim_from F X x mark turn (trim_from F X x mark turn ws) ≡ trim_from F X x mark turn ws
  unfolding trim_from
  array_again x h mark turn [] = refl
  array_again x h mark turn (w ∷ ws) =
      ap₂ (λ (v : ℕ) (vs : List ℕ). v ∷ vs) (reading_again x h turn w mark)
      (ap (λ (t : ℕ). trim_from F X x mark t (trim_from F X x mark (turn_after F X mark w turn) ws)) (same_turn F X mark x (ready x h) turn w) ∙ array_again x h mark (turn_after F X mark w turn) ws)

  pub repetition : Repetition F X
  repetition = record { reading_stays = λ x h mark turn w. reading_again x h turn w mark; array_stays = array_again }
