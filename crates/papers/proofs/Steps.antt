-- How far each method moves the size of a finite magnitude. Magnitudes that agree above the tail lie as many spacings apart as patterns.
use mathlib.Core.Path.{◌≡◌, refl, sym, ap}
use mathlib.Core.Logic.{◌≢◌}
use mathlib.Core.Bool.{false}
use Prim.Native.Nat.{ℕ, zero, suc, ◌+◌, ◌-◌, ◌*◌, ◌/◌, ◌%◌, ◌^◌, ◌≤◌, ◌<◌}
use native.Mathlib.Nat.{mul-lt-mul_of_pos_right, div-add-mod', mod-lt, mul-le-mul_right, sub-le, pow-suc, mul-div_cancel, div-mul-le_self, add-mul, div-eq_of_lt-le}
use native.Mathlib.Decide.{dec_le, dec_lt, ℕ_discrete}
use native.Mathlib.Omega.{arith}
use borrow.Author.Tests.{ltb-false}
use lib.Pow.{pow_pos, suc_ones}
use Rattle.meaning.specs.Readings.{size, spacing, spacing_exp, infinity, largest, distance}
use Rattle.meaning.specs.Methods.{TailMethod, shave, halfshave, round, absolute, nearest, shaved, tail_changed, rounded, multiple, clips, absolute_size, new_magnitude}
use Rattle.meaning.proofs.Sizes.{Form, form, size_form, size_le}
use Rattle.meaning.proofs.Nearest.{nearest_half, nearest_floor}
use Rattle.meaning.proofs.Grid.{unit_apart}
use Rattle.meaning.proofs.Tails.{Agree, same_spacing, tail_changed_agree}
use Rattle.meaning.proofs.Rounding.{cap, round_within, round_clipped, absolute_within, absolute_clipped}
use Rattle.meaning.proofs.Absolute.{absolute_exact}
use Rattle.papers.proofs.Apart.{distance_self}
use Rattle.papers.proofs.TailValues.{halfshave_none, halfshave_zero, halfshave_some}

shaved_rounded : (t m : ℕ) → nearest m (2 ^ t) ≡ m / 2 ^ t → rounded t m ≡ shaved t m
unfolding rounded shaved
shaved_rounded t m e = rw e refl

shaved_next : (t m : ℕ) → nearest m (2 ^ t) ≡ m / 2 ^ t + 1 → rounded t m ≡ shaved t m + 2 ^ t
unfolding rounded shaved
shaved_next t m e = rw e (omega arith)

module _ (F : ℕ) where
  -- a size is less than 2 ^ (F + 1) spacings
  pub size_below : (m : ℕ) → size F m < 2 * 2 ^ F * spacing F m
  unfolding spacing
  size_below m = let f : Form F m = form F m in rw (size_form F m f) (mul-lt-mul_of_pos_right f.below (pow_pos (spacing_exp F m)))

  -- what one has more than the other, in spacings
  agree_size : (m n r t : ℕ) → t ≤ F → Agree t m n → m ≡ n + r → size F m ≡ size F n + r * spacing F m
  unfolding spacing
  agree_size m n r t h e d = go (form F m) (form F n)
    where
      s : spacing_exp F m ≡ spacing_exp F n
      s = same_spacing F m n t h e

      go : (f : Form F m) (g : Form F n) → size F m ≡ size F n + r * 2 ^ spacing_exp F m
      go f g =
          let gi : n ≡ spacing_exp F m * 2 ^ F + g.sig = rw (← s) at g.is in
          let a : f.sig ≡ g.sig + r = omega (arith, f.is) in
          rw (size_form F m f, size_form F n g, ← s, a) (add-mul g.sig r (2 ^ spacing_exp F m))

  -- patterns at most D apart
  within : (m n D t : ℕ) → t ≤ F → Agree t m n → m ≤ n + D → n ≤ m + D → distance (size F m) (size F n) ≤ D * spacing F m
  unfolding distance spacing
  within m n D t h e a b = go (dec_le n m)
    where
      go : Dec (n ≤ m) → distance (size F m) (size F n) ≤ D * 2 ^ spacing_exp F m
      go (yes l) = omega (arith, agree_size m n (m - n) t h e (omega arith), mul-le-mul_right {m = m - n} {n = D} (2 ^ spacing_exp F m) (omega arith))
      go (no l) =
          let s : spacing_exp F m ≡ spacing_exp F n = same_spacing F m n t h e in
          let d : size F n ≡ size F m + (n - m) * 2 ^ spacing_exp F m = rw s (agree_size n m (n - m) t h (sym e) (omega arith)) in
          omega (arith, d, mul-le-mul_right {m = n - m} {n = D} (2 ^ spacing_exp F m) (omega arith))

  -- methods 0 to 3
  pub tail_step : (c : TailMethod) (turn t m : ℕ) → t ≤ F → distance (size F m) (size F (tail_changed c turn t m)) + spacing F m ≤ 2 ^ t * spacing F m
  tail_step c turn t m h = omega (arith, within m n (2 ^ t - 1) t h (sym e) a b, ap (λ (x : ℕ). x * spacing F m) (suc_ones t))
    where
      n : ℕ
      n = tail_changed c turn t m

      e : Agree t n m
      e = tail_changed_agree c turn t m

      sm : m / 2 ^ t * 2 ^ t + m % 2 ^ t ≡ m
      sm = div-add-mod' m (2 ^ t)

      sn : m / 2 ^ t * 2 ^ t + n % 2 ^ t ≡ n
      sn = rw (← e) (div-add-mod' n (2 ^ t))

      a : m ≤ n + (2 ^ t - 1)
      a = omega (arith, sm, sn, mod-lt m (pow_pos t))

      b : n ≤ m + (2 ^ t - 1)
      b = omega (arith, sm, sn, mod-lt n (pow_pos t))

  pub halfshave_step : (turn t m : ℕ) → t ≤ F → 2 * distance (size F m) (size F (tail_changed halfshave turn t m)) ≤ 2 ^ t * spacing F m
  halfshave_step turn zero m h = rw (halfshave_none turn m, distance_self (size F m)) (omega arith)
  halfshave_step turn (suc u) m h = go (ℕ_discrete m 0)
    where
      near : (n : ℕ) → tail_changed halfshave turn (suc u) m ≡ n → m ≤ n + 2 ^ u → n ≤ m + 2 ^ u
          → 2 * distance (size F m) (size F (tail_changed halfshave turn (suc u) m)) ≤ 2 ^ suc u * spacing F m
      near n i a b =
          omega (arith, within m (tail_changed halfshave turn (suc u) m) (2 ^ u) (suc u) h (sym (tail_changed_agree halfshave turn (suc u) m)) (rw i a) (rw i b), ap (λ (x : ℕ). x * spacing F m) (pow-suc 2 u))

      go : Dec (m ≡ 0) → 2 * distance (size F m) (size F (tail_changed halfshave turn (suc u) m)) ≤ 2 ^ suc u * spacing F m
      go (yes z) = near m (rw z (halfshave_zero turn (suc u))) (omega arith) (omega arith)
      go (no z) =
          let s : m / 2 ^ suc u * 2 ^ suc u + m % 2 ^ suc u ≡ m = div-add-mod' m (2 ^ suc u) in
          let l : m % 2 ^ suc u < 2 ^ suc u = mod-lt m (pow_pos (suc u)) in
          near (m / 2 ^ suc u * 2 ^ suc u + 2 ^ u) (halfshave_some turn u m z) (omega (arith, s, l)) (omega (arith, s, l))

  -- S and what is above it, in sizes
  pub shaved_size : (t m : ℕ) → t ≤ F → size F m ≡ size F (shaved t m) + m % 2 ^ t * spacing F m
  unfolding shaved
  shaved_size t m h =
      agree_size m (m / 2 ^ t * 2 ^ t) (m % 2 ^ t) t h (sym (mul-div_cancel (m / 2 ^ t) (pow_pos t))) (sym (div-add-mod' m (2 ^ t)))

  -- the nearer of S and S + 2^t
  pub round_step : (t m : ℕ) → t ≤ F
      → (2 * distance (size F m) (size F (rounded t m)) ≤ 2 ^ t * spacing F m) × (distance (size F m) (size F (rounded t m)) + spacing F m ≤ 2 ^ t * spacing F m)
  unfolding distance
  round_step t m h = go (ℕ_discrete (nearest m g) (m / g))
    where
      g : ℕ
      g = 2 ^ t

      s : ℕ
      s = spacing F m

      split : m / g * g + m % g ≡ m
      split = div-add-mod' m g

      less : m % g < g
      less = mod-lt m (pow_pos t)

      half : (2 * m ≤ 2 * (nearest m g * g) + g) × (2 * (nearest m g * g) ≤ 2 * m + g)
      half = nearest_half m g (pow_pos t)

      up : nearest m g ≢ m / g → nearest m g ≡ m / g + 1
      up n = omega (arith, nearest_floor m g (pow_pos t))

      go : Dec (nearest m g ≡ m / g)
          → (2 * distance (size F m) (size F (rounded t m)) ≤ g * s) × (distance (size F m) (size F (rounded t m)) + s ≤ g * s)
      go (yes e) =
          let l : 2 * (m % g) ≤ g = omega (arith, split, rw e at half.0) in
          rw (shaved_rounded t m e)
          (omega (arith, shaved_size t m h, mul-le-mul_right s l), omega (arith, shaved_size t m h, mul-le-mul_right s less))
      go (no e) =
          let l : g ≤ 2 * (m % g) = omega (arith, split, rw (up e) at half.1) in
          let one : 1 ≤ m % g = omega (arith, pow_pos t) in
          rw (shaved_next t m (up e)) (
            omega (arith, shaved_size t m h, unit_apart F m t h, mul-le-mul_right s l, mul-le-mul_right s less),
            omega (arith, shaved_size t m h, unit_apart F m t h, mul-le-mul_right s one, mul-le-mul_right s less),
          )

  multiple_step : (q m : ℕ) → 2 * distance (size F m) (multiple F q m) ≤ 2 ^ q
  unfolding multiple distance
  multiple_step q m = omega (arith, nearest_half (size F m) (2 ^ q) (pow_pos q))

module _ (F X : ℕ) where
  -- method 4
  pub round_half : (k turn m : ℕ) → rounded (F - k) m < infinity F X
      → 2 * distance (size F m) (size F (new_magnitude F X (round k) turn m)) ≤ 2 ^ (F - k) * spacing F m
  round_half k turn m l = rw (round_within F X k turn m l) (round_step F (F - k) m (sub-le F k)).0

  pub round_whole : (k turn m : ℕ) → distance (size F m) (size F (new_magnitude F X (round k) turn m)) + spacing F m ≤ 2 ^ (F - k) * spacing F m
  unfolding tail_changed
  round_whole k turn m = go (dec_lt (rounded (F - k) m) (infinity F X)) (tail_step F shave turn (F - k) m (sub-le F k))
    where
      go : Dec (rounded (F - k) m < infinity F X) → distance (size F m) (size F (shaved (F - k) m)) + spacing F m ≤ 2 ^ (F - k) * spacing F m
          → distance (size F m) (size F (new_magnitude F X (round k) turn m)) + spacing F m ≤ 2 ^ (F - k) * spacing F m
      go (yes f) c = rw (round_within F X k turn m f) (round_step F (F - k) m (sub-le F k)).1
      go (no f) c = rw (round_clipped F X k turn m (omega arith)) c

  -- method 5
  pub absolute_half : (q turn m : ℕ) → m < infinity F X → clips F X (absolute q) m ≡ false
      → 2 * distance (size F m) (size F (new_magnitude F X (absolute q) turn m)) ≤ 2 ^ q
  unfolding clips
  absolute_half q turn m f c =
      rw (absolute_exact F X q turn m f, absolute_within F X q m (ltb-false (cap F X) (multiple F q m) c)) (multiple_step F q m)

  pub absolute_whole : (q turn m : ℕ) → m < infinity F X → distance (size F m) (size F (new_magnitude F X (absolute q) turn m)) < 2 ^ q
  unfolding distance multiple
  absolute_whole q turn m f = rw (absolute_exact F X q turn m f) (go (dec_le (multiple F q m) (cap F X)))
    where
      g : ℕ
      g = 2 ^ q

      n : ℕ
      n = size F m

      -- where it clips, the largest finite size has the quotient of the reading
      down : cap F X < nearest n g * g → cap F X / g * g ≡ n / g * g
      down l =
          let a : n / g * g ≤ cap F X = omega (arith, div-mul-le_self n g, size_le F {m = m} {n = largest F X} (omega arith)) in
          let b : cap F X < (n / g + 1) * g = omega (arith, mul-le-mul_right g (nearest_floor n g (pow_pos q)).1) in
          ap (λ (x : ℕ). x * g) (div-eq_of_lt-le g a b)

      go : Dec (multiple F q m ≤ cap F X) → distance (size F m) (absolute_size F X q m) < g
      go (yes l) = rw (absolute_within F X q m l) (omega (arith, multiple_step F q m, pow_pos q))
      go (no l) = rw (absolute_clipped F X q m (omega arith), down (omega arith)) (omega (arith, div-add-mod' n g, mod-lt n (pow_pos q)))
