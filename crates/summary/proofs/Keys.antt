-- Keys stand in the order of the values, and a key gives its reading back.
use mathlib.Core.Path.{◌≡◌, refl, ap, ◌∙◌}
use mathlib.Core.Logic.{◌≢◌}
use Prim.Native.Nat.{ℕ, min, max, ◌+◌, ◌-◌, ◌/◌, ◌%◌, ◌≤◌, ◌<◌}
use native.Mathlib.Nat.{min-eq_left, min-eq_right, max-eq_left, max-eq_right, le_of_lt}
use native.Mathlib.Decide.{dec_lt, ℕ_discrete}
use native.Mathlib.Omega.{arith}
use borrow.Author.Tests.{lt-ltb, le-ltb, eq-eqb, ne_eqb, le-leb, lt-leb}
use Rattle.meaning.specs.Readings.{size, sign, magnitude, infinity, origin, position}
use Rattle.meaning.specs.Layers.{plus_zero, smaller, larger}
use Rattle.meaning.proofs.Sizes.{size_mono}
use Rattle.meaning.proofs.Patterns.{size_below, position_plus, position_minus}
use Rattle.summary.specs.Keys.{key, unkey, Key}

-- ---- what the definitions compute

key_plus : (w : ℕ) → w < 2147483648 → key w ≡ w + 2147483648
unfolding key
key_plus w h = rw (lt-ltb w 2147483648 h) refl

key_minus : (w : ℕ) → 2147483648 ≤ w → key w ≡ 4294967296 - w
unfolding key
key_minus w h = rw (le-ltb w 2147483648 h) refl

unkey_plus : (k : ℕ) → 2147483648 ≤ k → unkey k ≡ k - 2147483648
unfolding unkey
unkey_plus k h = rw (le-ltb k 2147483648 h) refl

unkey_minus : (k : ℕ) → k < 2147483648 → unkey k ≡ 4294967296 - k
unfolding unkey
unkey_minus k h = rw (lt-ltb k 2147483648 h) refl

infinity_is : infinity 23 8 ≡ 2139095040
unfolding infinity
infinity_is = refl

-- ---- a finite reading's key, and the reading of a key

pub finite_key : (w : ℕ) → w < 4294967296 → magnitude 23 8 w < infinity 23 8 → Key (key w)
unfolding magnitude
finite_key w b f = go (dec_lt w 2147483648)
  where
    g : w % 2147483648 < 2139095040
    g = omega (arith, f, infinity_is)

    go : Dec (w < 2147483648) → Key (key w)
    go (yes h) = rw (key_plus w h) (record { above = omega arith; below = omega (arith, g) })
    go (no h) = rw (key_minus w (omega arith)) (record { above = omega (arith, g); below = omega (arith, g) })

pub unkey_key : (w : ℕ) → w < 4294967296 → unkey (key w) ≡ plus_zero 23 8 w
unfolding magnitude plus_zero
unkey_key w b = go (dec_lt w 2147483648) (ℕ_discrete (w % 2147483648) 0)
  where
    go : Dec (w < 2147483648) → Dec (w % 2147483648 ≡ 0) → unkey (key w) ≡ plus_zero 23 8 w
    go (yes h) (yes z) = rw (key_plus w h, unkey_plus (w + 2147483648) (omega arith), eq-eqb (w % 2147483648) 0 z) (omega arith)
    go (yes h) (no z) = rw (key_plus w h, unkey_plus (w + 2147483648) (omega arith), ne_eqb (w % 2147483648) 0 z) (omega arith)
    go (no h) (yes z) = rw (key_minus w (omega arith), unkey_plus (4294967296 - w) (omega arith), eq-eqb (w % 2147483648) 0 z) (omega arith)
    go (no h) (no z) = rw (key_minus w (omega arith), unkey_minus (4294967296 - w) (omega arith), ne_eqb (w % 2147483648) 0 z) (omega arith)

-- the magnitude of a key's reading is finite
pub unkey_finite : (k : ℕ) → Key k → (unkey k % 2147483648 < 2139095040) × (unkey k < 4294967296)
unkey_finite k f = go (dec_lt k 2147483648)
  where
    go : Dec (k < 2147483648) → (unkey k % 2147483648 < 2139095040) × (unkey k < 4294967296)
    go (yes h) = rw (unkey_minus k h) (omega (arith, f.above), omega (arith, f.above))
    go (no h) = rw (unkey_plus k (omega arith)) (omega (arith, f.below), omega (arith, f.below))

pub unkey_below : (k : ℕ) → Key k → magnitude 23 8 (unkey k) < infinity 23 8
unfolding magnitude
unkey_below k f = omega (arith, (unkey_finite k f).0, infinity_is)

-- where a key's reading stands

above_zero : (k : ℕ) → Key k → 2147483648 ≤ k → position 23 8 (unkey k) ≡ origin 23 8 + size 23 (k - 2147483648)
unfolding magnitude sign
above_zero k f h =
    let b = f.below in
    let z : (k - 2147483648) / 2147483648 ≡ 0 = omega arith in
    let m : (k - 2147483648) % 2147483648 ≡ k - 2147483648 = omega arith in
    rw (unkey_plus k h) (position_plus 23 8 (k - 2147483648) z ∙ ap (λ (x : ℕ). origin 23 8 + size 23 x) m)

below_zero : (k : ℕ) → Key k → k < 2147483648 → position 23 8 (unkey k) ≡ origin 23 8 - size 23 (2147483648 - k)
unfolding magnitude sign
below_zero k f h =
    let b = f.above in
    let z : (4294967296 - k) / 2147483648 ≢ 0 = λ (e : (4294967296 - k) / 2147483648 ≡ 0). omega arith in
    let m : (4294967296 - k) % 2147483648 ≡ 2147483648 - k = omega arith in
    rw (unkey_minus k h) (position_minus 23 8 (4294967296 - k) z ∙ ap (λ (x : ℕ). origin 23 8 - size 23 x) m)

-- ---- the order

min_same : (k : ℕ) → min k k ≡ k
min_same k = omega arith

max_same : (k : ℕ) → max k k ≡ k
max_same k = omega arith

pub key_order : (j k : ℕ) → Key j → Key k → j < k → position 23 8 (unkey j) < position 23 8 (unkey k)
key_order j k f g h = go (dec_lt j 2147483648) (dec_lt k 2147483648)
  where
    below : (i : ℕ) → Key i → i < 2147483648 → size 23 (2147483648 - i) < origin 23 8
    below i d l = size_below 23 8 (omega (arith, d.above, infinity_is))

    go : Dec (j < 2147483648) → Dec (k < 2147483648) → position 23 8 (unkey j) < position 23 8 (unkey k)
    go (yes a) (yes b) =
        omega (arith, below_zero j f a, below_zero k g b, below j f a, size_mono 23 {m = 2147483648 - k} {n = 2147483648 - j} (omega arith))
    go (yes a) (no b) =
        omega (arith, below_zero j f a, above_zero k g (omega arith), below j f a, size_mono 23 {m = 0} {n = 2147483648 - j} (omega arith))
    go (no a) (yes b) = absurd (omega arith)
    go (no a) (no b) =
        omega (arith, above_zero j f (omega arith), above_zero k g (omega arith), size_mono 23 {m = j - 2147483648} {n = k - 2147483648} (omega arith))

pub smaller_key : (j k : ℕ) → Key j → Key k → smaller 23 8 (unkey j) (unkey k) ≡ unkey (min j k)
unfolding smaller
smaller_key j k f g = go (dec_lt k j) (ℕ_discrete j k)
  where
    go : Dec (k < j) → Dec (j ≡ k) → smaller 23 8 (unkey j) (unkey k) ≡ unkey (min j k)
    go (yes h) e = rw (lt-leb (position 23 8 (unkey j)) (position 23 8 (unkey k)) (key_order k j g f h), min-eq_right (le_of_lt h)) refl
    go (no h) (yes e) =
        rw (e, le-leb (position 23 8 (unkey k)) (position 23 8 (unkey k)) (omega arith), min_same k) refl
    go (no h) (no e) =
        let l : j < k = omega arith in
        rw (le-leb (position 23 8 (unkey j)) (position 23 8 (unkey k)) (le_of_lt (key_order j k f g l)), min-eq_left (le_of_lt l)) refl

pub larger_key : (j k : ℕ) → Key j → Key k → larger 23 8 (unkey j) (unkey k) ≡ unkey (max j k)
unfolding larger
larger_key j k f g = go (dec_lt k j) (ℕ_discrete j k)
  where
    go : Dec (k < j) → Dec (j ≡ k) → larger 23 8 (unkey j) (unkey k) ≡ unkey (max j k)
    go (yes h) e = rw (lt-leb (position 23 8 (unkey j)) (position 23 8 (unkey k)) (key_order k j g f h), max-eq_left (le_of_lt h)) refl
    go (no h) (yes e) =
        rw (e, le-leb (position 23 8 (unkey k)) (position 23 8 (unkey k)) (omega arith), max_same k) refl
    go (no h) (no e) =
        let l : j < k = omega arith in
        rw (le-leb (position 23 8 (unkey j)) (position 23 8 (unkey k)) (le_of_lt (key_order j k f g l)), max-eq_right (le_of_lt l)) refl

-- readings of different keys differ
pub unkey_other : (j k : ℕ) → Key j → Key k → j ≢ k → unkey j ≢ unkey k
unkey_other j k f g d e = go (dec_lt j k)
  where
    same : position 23 8 (unkey j) ≡ position 23 8 (unkey k)
    same = ap (position 23 8) e

    go : Dec (j < k) → ⊥
    go (yes h) = omega (arith, key_order j k f g h, same)
    go (no h) = omega (arith, key_order k j g f (omega arith), same)
