-- 002's equations. The step is a power of two that is at most the size, so its multiples are the shaved magnitudes of the reading's binade, and their midpoints the halfshaved ones.
use mathlib.Core.Path.{◌≡◌, refl, sym, ap, ◌∙◌}
use mathlib.Core.Logic.{◌⊎◌, inl, inr, ◌≢◌}
use Prim.Native.Nat.{ℕ, zero, suc, ◌+◌, ◌-◌, ◌*◌, ◌/◌, ◌%◌, ◌^◌, ◌≤◌, ◌<◌, zero-le}
use native.Mathlib.Nat.{le_refl, le-div_iff_mul-le, mul-le-mul_left, mul-le-mul_right, pow-suc, pow-le-pow_right, one-le-pow, le_trans, le_of_mul-le-mul_right, div-mul-le_self, div-eq_of_lt-le, pos_of_ne-zero, sub-le, sub_self, mul-lt-mul_of_pos_right, mod-lt, mul-div_cancel}
use native.Mathlib.Decide.{dec_le, dec_lt, ℕ_discrete}
use native.Mathlib.Omega.{arith}
use borrow.Author.Tests.{eq-eqb, ne_eqb, lt-ltb, le-ltb}
use lib.Pow.{pow_pos, pow-add, pow_mono}
use Rattle.meaning.specs.Readings.{size, position, distance, spacing, spacing_exp, exponent_field, magnitude, infinity, least_exp}
use Rattle.meaning.specs.Methods.{tail, halfshave, digits, unit, digit_count, decade, digit_step, digit_size, tail_changed, shaved, new_magnitude, result, trimmed}
use Rattle.meaning.proofs.Sizes.{size_at, size_small, size_mono}
use Rattle.meaning.proofs.Patterns.{magnitude_of_size, position_distance}
use Rattle.meaning.proofs.Powers.{pow_split, pow_le}
use Rattle.meaning.proofs.Grid.{Grid, grid, shaved_is}
use Rattle.meaning.proofs.Tails.{agree_up, agree_finite, tail_changed_agree}
use Rattle.meaning.proofs.Digits.{Decade, decade_rule, digit_count_lem}
use Rattle.papers.specs.Moved.{moved}
use Rattle.papers.specs.DigitRounding.{AsHalfshave, LowestBit, DigitBounds}
use Rattle.papers.proofs.Apart.{distance_self, trimmed_has, left_has, moved_is, moved_has, result_magnitude, result_below, result_sign}
use Rattle.papers.proofs.TailValues.{halfshave_none, halfshave_some}
use Rattle.papers.proofs.Steps.{size_below, shaved_size, halfshave_step}

module _ (F X : ℕ) where
  abbrev B : ℕ
  B = least_exp F X

  -- ---- the step

  -- none, or a power of two; the largest that is at most 10 ^ (d - n)
  record Step (n m q : ℕ) : Type 0 where
    power : (q ≡ 0) ⊎ ((j : ℕ) × (q ≡ 2 ^ j))
    under : q * 10 ^ (B + n) ≤ 10 ^ decade F X m * 2 ^ B
    largest : (j : ℕ) → 2 ^ j * 10 ^ (B + n) ≤ 10 ^ decade F X m * 2 ^ B → 2 ^ j ≤ q

  step : (n m : ℕ) → Step n m (digit_step F X n m)
  unfolding digit_step
  step n m = go (ℕ_discrete power 0)
    where
      power : ℕ
      power = 2 ^ B * 10 ^ decade F X m / 10 ^ (B + n)

      fits : (j : ℕ) → 2 ^ j * 10 ^ (B + n) ≤ 10 ^ decade F X m * 2 ^ B → 2 ^ j ≤ power
      fits j l = (le-div_iff_mul-le (one-le-pow (B + n) 10 (omega arith))).1 (omega arith)

      most : (d j : ℕ) → power < 2 ^ suc d → 2 ^ j ≤ power → Dec (j ≤ d) → 2 ^ j ≤ 2 ^ d
      most d j a l (yes h) = pow_mono h
      most d j a l (no h) = absurd (omega (arith, pow_mono {i = suc d} {j = j} (omega arith)))

      go : Dec (power ≡ 0) → Step n m (digit_step F X n m)
      go (yes z) = rw (eq-eqb power 0 z) (record { power = inl refl; under = omega arith; largest = λ j l. omega (arith, fits j l) })
      go (no z) =
          let d = digit_count_lem 2 (omega arith) power (pos_of_ne-zero z) in
          let e : digit_count 2 power - 1 ≡ d.one_less = omega (arith, d.is) in
          rw (ne_eqb power 0 z, e)
          (record {
            power = inr (d.one_less, refl);
            under = omega (arith, mul-le-mul_right (10 ^ (B + n)) d.least, div-mul-le_self (2 ^ B * 10 ^ decade F X m) (10 ^ (B + n)));
            largest = λ j l. most d.one_less j (rw d.is at d.below) (fits j l) (dec_le j d.one_less);
          })

  -- at most the size
  step_size : (n m : ℕ) → 1 ≤ n → 0 < m → digit_step F X n m ≤ size F m
  step_size n m h p = go (decade_rule F X m p)
    where
      q : ℕ
      q = digit_step F X n m

      go : Decade F X m (decade F X m) → q ≤ size F m
      go d =
          let a : q * 10 ^ (B + n) ≤ 10 ^ d.one_less * 10 * 2 ^ B = rw (d.is, pow-suc 10 d.one_less) at (step n m).under in
          let ten : 10 ≤ 10 ^ n = pow-le-pow_right {n = 10} (omega arith) {i = 1} {j = n} h in
          le_of_mul-le-mul_right {k = 10 ^ (B + n)}
          (rw (pow-add 10 B n) (omega (arith, rw (pow-add 10 B n) at a, d.reaches, mul-le-mul_left (size F m * 10 ^ B) ten)))
          (one-le-pow (B + n) 10 (omega arith))

  -- ---- a step of suc u bits beside the spacing

  module _ (n m u : ℕ) (h : suc u ≤ F) (p : m ≢ 0) (e : digit_step F X n m ≡ 2 ^ suc u * spacing F m) where
    -- (j + 1/2) q is the size of the halfshaved magnitude
    midpoint : (turn : ℕ) → digit_size F X n m ≡ size F (tail_changed halfshave turn (suc u) m)
    unfolding digit_size spacing shaved
    midpoint turn = go (grid F m (suc u) h)
      where
        g : ℕ
        g = 2 ^ suc u

        c : ℕ
        c = spacing_exp F m

        s : ℕ
        s = 2 ^ c

        above : (b : Grid F m (suc u)) → (c ≡ 0) ⊎ (2 ^ F ≤ b.whole * g) → (c ≡ 0) ⊎ (2 ^ F ≤ b.whole * g + 2 ^ u)
        above b (inl z) = inl z
        above b (inr l) = inr (omega arith)

        low : (b : Grid F m (suc u)) → size F (m / g * g) ≡ b.whole * g * s
        low b = rw (shaved_is F m (suc u) h b) (size_at F c (b.whole * g) b.low (omega (arith, b.top)))

        whole : (b : Grid F m (suc u)) → size F m / (g * s) ≡ b.whole
        whole b =
            let r : m % g * s < g * s = mul-lt-mul_of_pos_right (mod-lt m (pow_pos (suc u))) (pow_pos c) in
            div-eq_of_lt-le (g * s) (omega (arith, low b, shaved_size F (suc u) m h)) (omega (arith, low b, shaved_size F (suc u) m h))

        half : g * s / 2 ≡ 2 ^ u * s
        half = ap (λ (x : ℕ). x / 2) (let z : g * s ≡ 2 ^ u * s * 2 = rw (pow-suc 2 u) (omega arith) in z) ∙ mul-div_cancel (2 ^ u * s) {n = 2} (omega arith)

        go : Grid F m (suc u) → digit_size F X n m ≡ size F (tail_changed halfshave turn (suc u) m)
        go b =
            let w : 2 * s ≤ g * s = rw (pow-suc 2 u) (omega (arith, mul-le-mul_right s (pow_pos u))) in
            let i : tail_changed halfshave turn (suc u) m ≡ c * 2 ^ F + (b.whole * g + 2 ^ u) = halfshave_some turn u m p ∙ omega (arith, shaved_is F m (suc u) h b) in
            rw (e, le-ltb (g * s) (2 * s) w, whole b, half, i, size_at F c (b.whole * g + 2 ^ u) (above b b.low) (omega (arith, b.top, pow-suc 2 u)))
            (omega arith)

  -- ---- every finite magnitude

  record Lands (n turn m : ℕ) : Type 0 where
    as_halfshave : AsHalfshave F X n turn m
    exact : m ≢ 0 → size F (new_magnitude F X (digits n) turn m) ≡ digit_size F X n m

  digits_zero : (n turn m : ℕ) → m ≡ 0 → new_magnitude F X (digits n) turn m ≡ m
  unfolding new_magnitude
  digits_zero n turn m z = rw (eq-eqb m 0 z) refl

  -- the magnitude v has the new size
  digits_some : (n turn m v : ℕ) → m ≢ 0 → v < infinity F X → digit_size F X n m ≡ size F v → new_magnitude F X (digits n) turn m ≡ v
  unfolding new_magnitude
  digits_some n turn m v z f e = rw (ne_eqb m 0 z, e) (magnitude_of_size F X v f)

  -- unchanged, as by halfshave with all bits kept
  stays : (n turn m : ℕ) → new_magnitude F X (digits n) turn m ≡ m → (m ≢ 0 → digit_size F X n m ≡ size F m) → Lands n turn m
  unfolding new_magnitude
  stays n turn m e d =
      record {
        as_halfshave = record { keep = F; in_range = le_refl F; same = e ∙ sym (rw (sub_self F) (halfshave_none turn m)); step = inl refl };
        exact = λ z. rw (e, d z) refl;
      }

  -- a step below two spacings
  small : (n m : ℕ) → digit_step F X n m < 2 * spacing F m → digit_size F X n m ≡ size F m
  unfolding digit_size
  small n m l = rw (lt-ltb (digit_step F X n m) (2 * spacing F m) l) refl

  -- a step of suc u bits beside the spacing
  moves : (n turn m u : ℕ) → suc u ≤ F → m ≢ 0 → m < infinity F X → digit_step F X n m ≡ 2 ^ suc u * spacing F m → Lands n turn m
  unfolding unit new_magnitude
  moves n turn m u h z f e =
      record { as_halfshave = record { keep = F - suc u; in_range = sub-le F (suc u); same = rw i new; step = inr (rw i (sym e)) }; exact = λ z. rw new (sym mid) }
    where
      i : F - (F - suc u) ≡ suc u
      i = omega arith

      v : ℕ
      v = tail_changed halfshave turn (suc u) m

      mid : digit_size F X n m ≡ size F v
      mid = midpoint n m u h z e turn

      new : new_magnitude F X (digits n) turn m ≡ v
      new = digits_some n turn m v z (agree_finite F X v m (suc u) h (tail_changed_agree halfshave turn (suc u) m) f) mid

  size_under : (m : ℕ) → size F m < 2 ^ (suc F + spacing_exp F m)
  unfolding spacing
  size_under m = rw (pow-add 2 (suc F) (spacing_exp F m), pow-suc 2 F) (omega (arith, size_below F m))

  lands : (n turn m : ℕ) → 1 ≤ n → m < infinity F X → Lands n turn m
  unfolding spacing
  lands n turn m h f = go (ℕ_discrete m 0)
    where
      q : ℕ
      q = digit_step F X n m

      c : ℕ
      c = spacing_exp F m

      -- j is the exponent of the step: above the spacing's, and at most that of the size
      at : (j : ℕ) → m ≢ 0 → q ≡ 2 ^ j → suc c ≤ j → Dec (j ≤ F + c) → Lands n turn m
      at j z e a (yes b) =
          let i : suc (j - suc c) ≡ j - c = omega arith in
          moves n turn m (j - suc c) (omega arith) z f (e ∙ rw i (pow_split j c (omega arith)))
      at j z e a (no b) =
          absurd (omega (arith, step_size n m h (pos_of_ne-zero z), size_under m, pow_mono {i = suc F + c} {j = j} (omega arith)))

      either : m ≢ 0 → 2 * 2 ^ c ≤ q → (q ≡ 0) ⊎ ((j : ℕ) × (q ≡ 2 ^ j)) → Lands n turn m
      either z l (inl o) = absurd (omega (arith, pow_pos c))
      either z l (inr (j, e)) = at j z e (pow_le (rw (pow-suc 2 c) (omega arith))) (dec_le j (F + c))

      some : m ≢ 0 → Dec (q < 2 * 2 ^ c) → Lands n turn m
      some z (yes l) = stays n turn m (digits_some n turn m m z f (small n m l)) (λ _. small n m l)
      some z (no l) = either z (omega arith) (step n m).power

      go : Dec (m ≡ 0) → Lands n turn m
      go (yes z) = stays n turn m (digits_zero n turn m z) (λ x. absurd (x z))
      go (no z) = some z (dec_lt q (2 * 2 ^ c))

  -- ---- what follows

  half_moved : (n turn m : ℕ) → 1 ≤ n → m < infinity F X → 2 * distance (size F m) (size F (new_magnitude F X (digits n) turn m)) ≤ digit_step F X n m
  unfolding unit new_magnitude
  half_moved n turn m h f = go (lands n turn m h f).as_halfshave
    where
      by : (k : ℕ) → (k ≡ F) ⊎ (2 ^ (F - k) * spacing F m ≡ digit_step F X n m) → 2 * distance (size F m) (size F (tail_changed halfshave turn (F - k) m)) ≤ digit_step F X n m
      by k (inl e) = rw (e, sub_self F, halfshave_none turn m, distance_self (size F m)) zero-le
      by k (inr e) = rw e at (halfshave_step F turn (F - k) m (sub-le F k))

      go : AsHalfshave F X n turn m → 2 * distance (size F m) (size F (new_magnitude F X (digits n) turn m)) ≤ digit_step F X n m
      go a = rw a.same (by a.keep a.step)

  halfshave_field : (k turn m : ℕ) → exponent_field F (new_magnitude F X (tail halfshave k) turn m) ≡ exponent_field F m
  unfolding new_magnitude exponent_field
  halfshave_field k turn m = agree_up (tail_changed halfshave turn (F - k) m) m (F - k) F (sub-le F k) (tail_changed_agree halfshave turn (F - k) m)

  field_kept : (n turn m : ℕ) → 1 ≤ n → m < infinity F X → exponent_field F (new_magnitude F X (digits n) turn m) ≡ exponent_field F m
  field_kept n turn m h f = let a = (lands n turn m h f).as_halfshave in ap (exponent_field F) a.same ∙ halfshave_field a.keep turn m

  half_step : (n mark turn w : ℕ) → 1 ≤ n → 2 * moved F X (digits n) mark turn w ≤ digit_step F X n (magnitude F X w)
  half_step n mark turn w h =
      moved_has F X (digits n) h turn w mark (λ d. 2 * d ≤ digit_step F X n (magnitude F X w)) zero-le (λ f. half_moved n turn (magnitude F X w) h f)

  -- ---- by what is left

  zero_left : (m : ℕ) → m ≡ 0 → size F m ≡ 0
  zero_left m z = ap (size F) z ∙ size_small F 0 (pow_pos F)

  some_left : (m : ℕ) → 0 < size F m → 0 < m
  some_left m h = go (ℕ_discrete m 0)
    where
      go : Dec (m ≡ 0) → 0 < m
      go (yes z) = absurd (omega (arith, zero_left m z))
      go (no z) = pos_of_ne-zero z

  -- at least half of the size is left: the step is at most the size, and half of it is the most that is lost
  half_left : (n turn m : ℕ) → 1 ≤ n → 0 < m → m < infinity F X → size F m ≤ 2 * size F (new_magnitude F X (digits n) turn m)
  unfolding distance
  half_left n turn m h p f = omega (arith, half_moved n turn m h f, step_size n m h p)

  -- of two sizes, one at most twice the other, the decade of the one is at most the other's and one
  decade_next : (m v : ℕ) → 0 < m → size F m ≤ 2 * size F v → decade F X m ≤ suc (decade F X v)
  decade_next m v p h = go (decade_rule F X m p) (decade_rule F X v (some_left v (omega (arith, size_mono F p))))
    where
      far : (a : Decade F X m (decade F X m)) → Dec (a.one_less ≤ decade F X v) → Decade F X v (decade F X v) → decade F X m ≤ suc (decade F X v)
      far a (yes l) b = omega (arith, a.is)
      far a (no l) b =
          let next : 10 ^ suc (decade F X v) ≤ 10 ^ a.one_less = pow-le-pow_right {n = 10} (omega arith) {i = suc (decade F X v)} {j = a.one_less} (omega arith) in
          let up : 10 ^ decade F X v * 10 ≤ 10 ^ a.one_less = rw (← pow-suc 10 (decade F X v)) next in
          let some : 1 ≤ 10 ^ decade F X v = one-le-pow (decade F X v) 10 (omega arith) in
          absurd (omega (arith, a.reaches, b.under, mul-le-mul_right (2 ^ B) up, mul-le-mul_right (10 ^ B) h, mul-le-mul_right (2 ^ B) some, pow_pos B))

      go : Decade F X m (decade F X m) → Decade F X v (decade F X v) → decade F X m ≤ suc (decade F X v)
      go a b = far a (dec_le a.one_less (decade F X v)) b

  decade_left : (n mark turn w : ℕ) → 1 ≤ n → decade F X (magnitude F X w) ≤ suc (decade F X (magnitude F X (trimmed F X (digits n) mark turn w)))
  decade_left n mark turn w h = left_has F X (digits n) h turn w mark (λ v. decade F X (magnitude F X w) ≤ suc (decade F X v)) (omega arith) (λ f. go f (ℕ_discrete (magnitude F X w) 0))
    where
      go : magnitude F X w < infinity F X → Dec (magnitude F X w ≡ 0) → decade F X (magnitude F X w) ≤ suc (decade F X (new_magnitude F X (digits n) turn (magnitude F X w)))
      go f (yes z) = rw (digits_zero n turn (magnitude F X w) z) (omega arith)
      go f (no z) = decade_next (magnitude F X w) _ (pos_of_ne-zero z) (half_left n turn (magnitude F X w) h (pos_of_ne-zero z) f)

  abbrev Bit : ℕ → ℕ → ℕ → Type 0
  Bit n turn m = LowestBit (distance (size F m) (size F (new_magnitude F X (digits n) turn m))) (size F (new_magnitude F X (digits n) turn m))

  -- the new size is an odd multiple of half a step
  bit : (n turn m : ℕ) → 1 ≤ n → m < infinity F X → Bit n turn m
  unfolding digit_size spacing
  bit n turn m h f = go (ℕ_discrete m 0)
    where
      none : new_magnitude F X (digits n) turn m ≡ m → Bit n turn m
      none e = record { within = inl (rw e (distance_self (size F m))) }

      q : ℕ
      q = digit_step F X n m

      odd : m ≢ 0 → 2 * spacing F m ≤ q → (j : ℕ) → q ≡ 2 ^ suc j → size F (new_magnitude F X (digits n) turn m) ≡ (2 * (size F m / q) + 1) * 2 ^ j
      odd z l j e =
          (lands n turn m h f).exact z ∙ rw (le-ltb q (2 * spacing F m) l)
          (let half : q / 2 ≡ 2 ^ j = ap (λ (x : ℕ). x / 2) (e ∙ pow-suc 2 j) ∙ mul-div_cancel (2 ^ j) {n = 2} (omega arith) in
          let twice : q ≡ 2 ^ j * 2 = e ∙ pow-suc 2 j in
          rw half (ap (λ (x : ℕ). size F m / q * x + 2 ^ j) twice ∙ omega arith))

      some : m ≢ 0 → 2 * spacing F m ≤ q → (j : ℕ) → q ≡ 2 ^ j → Bit n turn m
      some z l zero e = absurd (omega (arith, pow_pos (spacing_exp F m)))
      some z l (suc j) e =
          record { within = inr (j, size F m / q, odd z l j e, omega (arith, half_moved n turn m h f, e, pow-suc 2 j, pow_pos j)) }

      either : m ≢ 0 → 2 * spacing F m ≤ q → (q ≡ 0) ⊎ ((j : ℕ) × (q ≡ 2 ^ j)) → Bit n turn m
      either z l (inl o) = absurd (omega (arith, pow_pos (spacing_exp F m)))
      either z l (inr (j, e)) = some z l j e

      by : m ≢ 0 → Dec (q < 2 * spacing F m) → Bit n turn m
      by z (yes l) = none (digits_some n turn m m z f (small n m l))
      by z (no l) = either z (omega arith) (step n m).power

      go : Dec (m ≡ 0) → Bit n turn m
      go (yes z) = none (digits_zero n turn m z)
      go (no z) = by z (dec_lt q (2 * spacing F m))

  lowest_bit : (n mark turn w : ℕ) → 1 ≤ n → LowestBit (moved F X (digits n) mark turn w) (size F (magnitude F X (trimmed F X (digits n) mark turn w)))
  lowest_bit n mark turn w h =
      rw (moved_is F X (digits n) h turn w mark)
      (trimmed_has F X (digits n) h turn w mark (λ v. LowestBit (distance (position F X w) (position F X v)) (size F (magnitude F X v)))
      (λ _. record { within = inl (distance_self (position F X w)) })
      (λ e f s.
      rw (position_distance F X w (result F X (digits n) turn w) f (result_below F X (digits n) h turn w f) (result_sign F X (digits n) h turn w f), result_magnitude F X (digits n) h turn w f)
      (bit n turn (magnitude F X w) h f)))

  pub digit_bounds : DigitBounds F X
  digit_bounds =
      record {
        exact = λ n turn m h p f. (lands n turn m h f).exact (λ z. absurd (omega arith));
        bits_kept = λ n turn m h f. (lands n turn m h f).as_halfshave;
        half_step = λ n mark turn w h. omega (arith, half_step n mark turn w h);
        step_power = λ n m. (step n m).power;
        step_largest = λ n m. (step n m).largest;
        step_below = λ n m. (step n m).under;
        half_digit = λ n mark turn w h. le_trans (mul-le-mul_right (10 ^ (B + n)) (half_step n mark turn w h)) (step n (magnitude F X w)).under;
        decade_left = decade_left;
        half_digit_left = λ n mark turn w h.
            le_trans (le_trans (mul-le-mul_right (10 ^ (B + n)) (half_step n mark turn w h)) (step n (magnitude F X w)).under)
            (mul-le-mul_right (2 ^ B) (pow-le-pow_right {n = 10} (omega arith) {i = decade F X (magnitude F X w)} (omega (arith, decade_left n mark turn w h))));
        lowest_bit = lowest_bit;
        exponent_stays = λ n mark turn w h.
            left_has F X (digits n) h turn w mark (λ v. exponent_field F v ≡ exponent_field F (magnitude F X w)) refl (λ f. field_kept n turn (magnitude F X w) h f);
      }
