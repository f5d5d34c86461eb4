-- The nearest whole number, ties to even: its three cases, and what follows from them alone. Methods 4 and 5, the codes and unpacking all round by it.
use mathlib.Core.Path.{◌≡◌, refl, sym, ap, ◌∙◌}
use Prim.Native.Nat.{ℕ, zero, suc, ◌+◌, ◌-◌, ◌*◌, ◌/◌, ◌%◌, ◌≤◌, ◌<◌}
use native.Mathlib.Nat.{div-add-mod', mod-lt, le-div_iff_mul-le, div-lt_iff_lt-mul, div-eq_of_lt-le, div-mul-le_self, lt_of_mul-lt-mul_right, mul-lt-mul_of_pos_right, mul_assoc, mul-div-mul_right, mul-mod_left, mul-div_cancel}
use native.Mathlib.Decide.{dec_lt}
use native.Mathlib.Omega.{arith}
use borrow.Author.Tests.{lt-ltb, le-ltb}
use lib.Arith.{digits_mod}
use Rattle.meaning.specs.Methods.{nearest}

-- below half, above half, and a tie, which goes to the even number
pub nearest_down : (n g : ℕ) → 2 * (n % g) < g → nearest n g ≡ n / g
unfolding nearest
nearest_down n g h = rw (lt-ltb (2 * (n % g)) g h) refl

pub nearest_up : (n g : ℕ) → g < 2 * (n % g) → nearest n g ≡ n / g + 1
unfolding nearest
nearest_up n g h =
    let k : g ≤ 2 * (n % g) = omega arith in
    rw (le-ltb (2 * (n % g)) g k, lt-ltb g (2 * (n % g)) h) refl

pub nearest_tie : (n g : ℕ) → g ≡ 2 * (n % g) → nearest n g ≡ n / g + n / g % 2
unfolding nearest
nearest_tie n g h = rw (le-ltb (2 * (n % g)) g (omega arith), le-ltb g (2 * (n % g)) (omega arith)) refl

-- it lies between any two whole numbers that the quotient lies between
pub nearest_between : (a b n g : ℕ) → 0 < g → a * g ≤ n → n ≤ b * g → (a ≤ nearest n g) × (nearest n g ≤ b)
nearest_between a b n g pos h k = go (dec_lt (2 * (n % g)) g) (dec_lt g (2 * (n % g)))
  where
    floor : a ≤ n / g
    floor = (le-div_iff_mul-le pos).1 h

    whole : n / g * g + n % g ≡ n
    whole = div-add-mod' n g

    under : 0 < n % g → n / g < b
    under r = lt_of_mul-lt-mul_right g (omega (arith, whole))

    top : n / g < suc b
    top = (div-lt_iff_lt-mul {k = g} {x = n} {y = suc b} pos).1 (omega arith)

    go : Dec (2 * (n % g) < g) → Dec (g < 2 * (n % g)) → (a ≤ nearest n g) × (nearest n g ≤ b)
    go (yes d) x = rw (nearest_down n g d) (floor, omega (arith, top))
    go (no d) (yes u) = rw (nearest_up n g u) (omega (arith, floor), omega (arith, under (omega arith)))
    go (no d) (no u) = rw (nearest_tie n g (omega arith)) (omega (arith, floor), omega (arith, under (omega arith)))

-- it lies within half a unit
pub nearest_half : (n g : ℕ) → 0 < g → (2 * n ≤ 2 * (nearest n g * g) + g) × (2 * (nearest n g * g) ≤ 2 * n + g)
nearest_half n g p = go (dec_lt (2 * (n % g)) g) (dec_lt g (2 * (n % g)))
  where
    whole : n / g * g + n % g ≡ n
    whole = div-add-mod' n g

    less : n % g < g
    less = mod-lt n p

    at : (e : ℕ) → e ≤ 1 → g ≡ 2 * (n % g) → (2 * n ≤ 2 * ((n / g + e) * g) + g) × (2 * ((n / g + e) * g) ≤ 2 * n + g)
    at zero l h = omega (arith, whole)
    at (suc zero) l h = omega (arith, whole)
    at (suc (suc e)) l h = absurd (omega arith)

    go : Dec (2 * (n % g) < g) → Dec (g < 2 * (n % g)) → (2 * n ≤ 2 * (nearest n g * g) + g) × (2 * (nearest n g * g) ≤ 2 * n + g)
    go (yes h) x = rw (nearest_down n g h) (omega (arith, whole))
    go (no h) (yes k) = rw (nearest_up n g k) (omega (arith, whole, less))
    go (no h) (no k) = let e : g ≡ 2 * (n % g) = omega arith in rw (nearest_tie n g e) (at (n / g % 2) (omega arith) e)

-- at least the quotient, and at most one more
pub nearest_floor : (n g : ℕ) → 0 < g → (n / g ≤ nearest n g) × (nearest n g ≤ n / g + 1)
nearest_floor n g p = nearest_between (n / g) (n / g + 1) n g p (div-mul-le_self n g) (omega (arith, div-add-mod' n g, mod-lt n p))

-- a multiple is its own nearest multiple
pub nearest_multiple : (k g : ℕ) → 0 < g → nearest (k * g) g ≡ k
nearest_multiple k g p = nearest_down (k * g) g (rw (mul-mod_left k g) p) ∙ mul-div_cancel k p

-- a common factor drops out
mod_scale : (n g k : ℕ) → 0 < g → 0 < k → n * k % (g * k) ≡ n % g * k
mod_scale n g k p l = ap (λ (x : ℕ). x % (g * k)) e ∙ digits_mod (n / g) (mul-lt-mul_of_pos_right (mod-lt n p) l)
  where
    e : n * k ≡ n / g * (g * k) + n % g * k
    e = ap (λ (x : ℕ). x * k) (sym (div-add-mod' n g)) ∙ omega arith

pub nearest_scale : (n g k : ℕ) → 0 < g → 0 < k → nearest (n * k) (g * k) ≡ nearest n g
nearest_scale n g k p l = go (dec_lt (2 * (n % g)) g) (dec_lt g (2 * (n % g)))
  where
    m : n * k % (g * k) ≡ n % g * k
    m = mod_scale n g k p l

    d : n * k / (g * k) ≡ n / g
    d = mul-div-mul_right n g l

    go : Dec (2 * (n % g) < g) → Dec (g < 2 * (n % g)) → nearest (n * k) (g * k) ≡ nearest n g
    go (yes h) x = nearest_down (n * k) (g * k) (rw m (omega (arith, mul-lt-mul_of_pos_right h l))) ∙ d ∙ sym (nearest_down n g h)
    go (no h) (yes x) =
        nearest_up (n * k) (g * k) (rw m (omega (arith, mul-lt-mul_of_pos_right x l))) ∙ ap (λ (y : ℕ). y + 1) d ∙ sym (nearest_up n g x)
    go (no h) (no x) =
        let e : g ≡ 2 * (n % g) = omega arith in
        nearest_tie (n * k) (g * k) (rw m (ap (λ (y : ℕ). y * k) e ∙ mul_assoc 2 (n % g) k)) ∙ ap (λ (y : ℕ). y + y % 2) d ∙ sym (nearest_tie n g e)

-- By one sum: with g = 2 * H, add H - 1, and one more where the quotient is odd, and cut.
pub nearest_add : (n H : ℕ) → 0 < H → nearest n (2 * H) ≡ (n + (H - 1) + n / (2 * H) % 2) / (2 * H)
nearest_add n H p = go (dec_lt (n % (2 * H)) H) (dec_lt H (n % (2 * H)))
  where
    a : ℕ
    a = n / (2 * H)

    r : ℕ
    r = n % (2 * H)

    whole : a * (2 * H) + r ≡ n
    whole = div-add-mod' n (2 * H)

    less : r < 2 * H
    less = mod-lt n (omega arith)

    -- the quotient of the sum, where it lies between b and b + 1 units
    is : (b e : ℕ) → b * (2 * H) ≤ n + (H - 1) + e → n + (H - 1) + e < (b + 1) * (2 * H) → b ≡ (n + (H - 1) + e) / (2 * H)
    is b e x y = sym (div-eq_of_lt-le (2 * H) x y)

    tie : r ≡ H → (e : ℕ) → e < 2 → a + e ≡ (n + (H - 1) + e) / (2 * H)
    tie z zero l = is (a + 0) 0 (omega (arith, whole)) (omega (arith, whole))
    tie z (suc zero) l = is (a + 1) 1 (omega (arith, whole)) (omega (arith, whole))
    tie z (suc (suc e)) l = absurd (omega arith)

    go : Dec (r < H) → Dec (H < r) → nearest n (2 * H) ≡ (n + (H - 1) + a % 2) / (2 * H)
    go (yes h) x = nearest_down n (2 * H) (omega arith) ∙ is a (a % 2) (omega (arith, whole)) (omega (arith, whole))
    go (no h) (yes k) = nearest_up n (2 * H) (omega arith) ∙ is (a + 1) (a % 2) (omega (arith, whole)) (omega (arith, whole, less))
    go (no h) (no k) = nearest_tie n (2 * H) (omega arith) ∙ tie (omega arith) (a % 2) (omega arith)
