-- Methods 4 and 5 keep a magnitude between any two points of their grid that it lies between, clipped or not.
use mathlib.Core.Path.{◌≡◌, refl}
use Prim.Native.Nat.{ℕ, ◌-◌, ◌*◌, ◌/◌, ◌^◌, ◌≤◌, ◌<◌}
use native.Mathlib.Nat.{le-div_iff_mul-le, div-mul-le_self, mul-le-mul_right}
use native.Mathlib.Decide.{dec_lt, dec_le}
use native.Mathlib.Omega.{arith}
use borrow.Author.Tests.{lt-ltb, le-ltb, le-leb, lt-leb}
use lib.Pow.{pow_pos}
use Rattle.meaning.specs.Readings.{size, infinity, largest, magnitude_of}
use Rattle.meaning.specs.Methods.{round, absolute, nearest, shaved, rounded, multiple, clips, absolute_size, new_magnitude}
use Rattle.meaning.proofs.Sizes.{size_le}
use Rattle.meaning.proofs.Patterns.{magnitude_of_size, magnitude_of_mono}
use Rattle.meaning.proofs.Nearest.{nearest_between}

-- n is a whole multiple of g
pub record Mult (g n : ℕ) : Type 0 where
  pub times : ℕ
  pub is : n ≡ times * g

abbrev pub Between : ℕ → ℕ → ℕ → Type 0
Between a b n = (a ≤ n) × (n ≤ b)

module _ (F X : ℕ) where
  -- ---- clip: the result by the two cases of each test

  pub round_within : (k turn m : ℕ) → rounded (F - k) m < infinity F X → new_magnitude F X (round k) turn m ≡ rounded (F - k) m
  unfolding new_magnitude clips
  round_within k turn m h = rw (lt-leb (infinity F X) (rounded (F - k) m) h) refl

  pub round_clipped : (k turn m : ℕ) → infinity F X ≤ rounded (F - k) m → new_magnitude F X (round k) turn m ≡ shaved (F - k) m
  unfolding new_magnitude clips
  round_clipped k turn m h = rw (le-leb (infinity F X) (rounded (F - k) m) h) refl

  -- the largest finite size, and the largest multiple of 2 ^ q up to it
  abbrev pub cap : ℕ
  cap = size F (largest F X)

  pub absolute_within : (q m : ℕ) → multiple F q m ≤ cap → absolute_size F X q m ≡ multiple F q m
  unfolding absolute_size clips
  absolute_within q m h = rw (le-ltb cap (multiple F q m) h) refl

  pub absolute_clipped : (q m : ℕ) → cap < multiple F q m → absolute_size F X q m ≡ cap / 2 ^ q * 2 ^ q
  unfolding absolute_size clips
  absolute_clipped q m h = rw (lt-ltb cap (multiple F q m) h) refl

  -- ---- finite stays finite

  pub round_below : (k turn m : ℕ) → m < infinity F X → new_magnitude F X (round k) turn m < infinity F X
  unfolding shaved
  round_below k turn m h = go (dec_lt (rounded (F - k) m) (infinity F X))
    where
      go : Dec (rounded (F - k) m < infinity F X) → new_magnitude F X (round k) turn m < infinity F X
      go (yes f) = rw (round_within k turn m f) f
      go (no f) = rw (round_clipped k turn m (omega arith)) (omega (arith, div-mul-le_self m (2 ^ (F - k))))

  absolute_size_cap : (q m : ℕ) → absolute_size F X q m ≤ cap
  absolute_size_cap q m = go (dec_le (multiple F q m) cap)
    where
      go : Dec (multiple F q m ≤ cap) → absolute_size F X q m ≤ cap
      go (yes c) = rw (absolute_within q m c) c
      go (no c) = rw (absolute_clipped q m (omega arith)) (div-mul-le_self cap (2 ^ q))

  pub absolute_below : (q turn m : ℕ) → m < infinity F X → new_magnitude F X (absolute q) turn m < infinity F X
  unfolding new_magnitude
  absolute_below q turn m h =
      omega (arith, magnitude_of_size F X (largest F X) (omega arith), magnitude_of_mono F X (absolute_size F X q m) cap (absolute_size_cap q m))

  -- ---- between two points A and B of the grid

  module _ (A B turn m : ℕ) (l : A ≤ m) (h : m ≤ B) (fin : m < infinity F X) where
    -- method 4: A and B are multiples of 2 ^ t as patterns
    pub round_keeps : (k : ℕ) → Mult (2 ^ (F - k)) A → Mult (2 ^ (F - k)) B → Between A B (new_magnitude F X (round k) turn m)
    unfolding shaved rounded
    round_keeps k a b = go (dec_lt (rounded t m) (infinity F X))
      where
        t : ℕ
        t = F - k

        near : (a.times ≤ nearest m (2 ^ t)) × (nearest m (2 ^ t) ≤ b.times)
        near = nearest_between a.times b.times m (2 ^ t) (pow_pos t) (omega (arith, a.is)) (omega (arith, b.is))

        floor : a.times ≤ m / 2 ^ t
        floor = (le-div_iff_mul-le (pow_pos t)).1 (omega (arith, a.is))

        go : Dec (rounded t m < infinity F X) → Between A B (new_magnitude F X (round k) turn m)
        go (yes f) =
            rw (round_within k turn m f)
            (omega (arith, a.is, mul-le-mul_right (2 ^ t) near.0), omega (arith, b.is, mul-le-mul_right (2 ^ t) near.1))
        go (no f) =
            rw (round_clipped k turn m (omega arith))
            (omega (arith, a.is, mul-le-mul_right (2 ^ t) floor), omega (arith, div-mul-le_self m (2 ^ t)))

    -- method 5: their sizes are multiples of 2 ^ q. B may lie beyond the largest finite magnitude.
    pub absolute_keeps : (q : ℕ) → Mult (2 ^ q) (size F A) → Mult (2 ^ q) (size F B) → Between A B (new_magnitude F X (absolute q) turn m)
    unfolding new_magnitude multiple
    absolute_keeps q a b = go (dec_le (multiple F q m) cap)
      where
        g : ℕ
        g = 2 ^ q

        n : ℕ
        n = size F m

        near : (a.times ≤ nearest n g) × (nearest n g ≤ b.times)
        near = nearest_between a.times b.times n g (pow_pos q) (omega (arith, a.is, size_le F l)) (omega (arith, b.is, size_le F h))

        floor : a.times ≤ cap / g
        floor = (le-div_iff_mul-le (pow_pos q)).1 (omega (arith, a.is, size_le F l, size_le F {m = m} {n = largest F X} (omega arith)))

        -- any size between those of A and B, and at most the cap
        back : (r : ℕ) → size F A ≤ r → r ≤ size F B → r ≤ cap → Between A B (magnitude_of F X r)
        back r x y z = (above, under (dec_lt B (infinity F X)))
          where
            above : A ≤ magnitude_of F X r
            above = omega (arith, magnitude_of_size F X A (omega arith), magnitude_of_mono F X (size F A) r x)

            bound : magnitude_of F X r ≤ largest F X
            bound = omega (arith, magnitude_of_size F X (largest F X) (omega arith), magnitude_of_mono F X r cap z)

            under : Dec (B < infinity F X) → magnitude_of F X r ≤ B
            under (yes f) = omega (arith, magnitude_of_size F X B f, magnitude_of_mono F X r (size F B) y)
            under (no f) = omega (arith, bound)

        go : Dec (multiple F q m ≤ cap) → Between A B (new_magnitude F X (absolute q) turn m)
        go (yes c) =
            rw (absolute_within q m c)
            (back (nearest n g * g) (omega (arith, a.is, mul-le-mul_right g near.0)) (omega (arith, b.is, mul-le-mul_right g near.1)) c)
        go (no c) =
            let o : cap < nearest n g * g = omega arith in
            rw (absolute_clipped q m o)
            (back (cap / g * g) (omega (arith, a.is, mul-le-mul_right g floor))
            (omega (arith, b.is, mul-le-mul_right g near.1, div-mul-le_self cap g)) (div-mul-le_self cap g))
