-- The smallest magnitude of the present readings that are not zero: the loop that finds it, and what it says of every reading.
use mathlib.Core.Path.{◌≡◌, ap, ◌∙◌}
use mathlib.Core.Logic.{◌≢◌, ◌⊎◌, inl, inr}
use mathlib.Core.List.{List, [], ◌∷◌}
use Prim.Native.Nat.{ℕ, zero, suc, min, ◌+◌, ◌-◌, ◌*◌, ◌/◌, ◌%◌, ◌≤◌, ◌<◌}
use native.Mathlib.Nat.{not-suc-le-zero, le_of_suc-le-suc, le-div_iff_mul-le}
use native.Mathlib.Numerals.{add-one}
use native.Mathlib.Decide.{ℕ_discrete}
use native.Mathlib.Omega.{arith}
use borrow.Author.Tests.{ne_eqb}
use lib.ListN.{length, get_or, drop, drop_of_length-le}
use lib.Seq.{drop-cons}
use Rattle.meaning.specs.Readings.{exponent_field, spacing_exp, magnitude}
use Rattle.quick.specs.Coarse.{Coarse, AllCoarse, present_magnitude, or_top, finest}

abbrev pub Turn : ℕ → List ℕ → ℕ → ℕ → Type 0
Turn mark xs least i = (least ≤ 4294967295) × (min least (finest mark (drop i xs)) ≡ finest mark xs)

finest_few : (mark : ℕ) (ws : List ℕ) → finest mark ws ≤ 4294967295
unfolding finest
finest_few mark [] = omega arith
finest_few mark (w ∷ ws) = omega (arith, finest_few mark ws)

pub start : (mark : ℕ) (xs : List ℕ) → Turn mark xs 4294967295 0
start mark xs = (omega arith, omega (arith, finest_few mark xs))

pub turn : (mark : ℕ) (xs : List ℕ) (least i m z new : ℕ) → i < length xs → m ≡ present_magnitude mark (get_or xs i 0) → z ≡ or_top m → new ≡ min z least → Turn mark xs least i
    → Turn mark xs new (i + 1)
unfolding finest
turn mark xs least i m z new h e f n inv =
    let g : z ≡ or_top (present_magnitude mark (get_or xs i 0)) = f ∙ ap or_top e in
    (omega (arith, inv.0), rw add-one (omega (arith, rw (drop-cons xs i 0 h, ← g) at inv.1)))

pub end : (mark : ℕ) (xs : List ℕ) (least i : ℕ) → length xs ≤ i → Turn mark xs least i → least ≡ finest mark xs
unfolding finest
end mark xs least i h inv = omega (arith, inv.0, rw (drop_of_length-le xs h) at inv.1)

-- ---- coarse readings

-- a magnitude from the limit on; here e is a step's exponent plus the width
large_coarse : (e w : ℕ) → (e - 53 + 1) * 8388608 ≤ w % 2147483648 → Coarse (e - 53) w
unfolding magnitude spacing_exp exponent_field
large_coarse e w h =
    let q : e - 53 + 1 ≤ w % 2147483648 / 8388608 = (le-div_iff_mul-le {k = 8388608} (omega arith)).1 h in
    inr (omega arith, omega arith)

zero_coarse : (j w : ℕ) → w % 2147483648 ≡ 0 → Coarse j w
unfolding magnitude
zero_coarse j w h = inl h

pub any_coarse : (j w : ℕ) → Coarse j w → Coarse 0 w
any_coarse j w (inl z) = inl z
any_coarse j w (inr l) = inr (l.0, omega arith)

zero_or_above : (m L : ℕ) → L ≤ or_top m → (m ≡ 0) ⊎ (L ≤ m)
zero_or_above m L k = go (ℕ_discrete m 0)
  where
    go : Dec (m ≡ 0) → (m ≡ 0) ⊎ (L ≤ m)
    go (yes z) = inl z
    go (no z) = inr (rw (ne_eqb m 0 z) at k)

one : (mark w L : ℕ) → L ≤ or_top (present_magnitude mark w) → w ≢ mark → (w % 2147483648 ≡ 0) ⊎ (L ≤ w % 2147483648)
one mark w L h p = zero_or_above (w % 2147483648) L (rw (ne_eqb w mark p) at h)

each : (mark L : ℕ) (ws : List ℕ) → L ≤ finest mark ws → (i : ℕ) → i < length ws → get_or ws i 0 ≢ mark → (get_or ws i 0 % 2147483648 ≡ 0) ⊎ (L ≤ get_or ws i 0 % 2147483648)
unfolding finest
each mark L [] h i k p = absurd (not-suc-le-zero k)
each mark L (w ∷ ws) h zero k p = one mark w L (omega arith) p
each mark L (w ∷ ws) h (suc i) k p = each mark L ws (omega arith) i (le_of_suc-le-suc k) p

coarse : (e w : ℕ) → (w % 2147483648 ≡ 0) ⊎ ((e - 53 + 1) * 8388608 ≤ w % 2147483648) → Coarse (e - 53) w
coarse e w (inl z) = zero_coarse (e - 53) w z
coarse e w (inr l) = large_coarse e w l

pub one_coarse : (e w : ℕ) → (e - 53 + 1) * 8388608 ≤ or_top (w % 2147483648) → Coarse (e - 53) w
one_coarse e w h = coarse e w (zero_or_above (w % 2147483648) ((e - 53 + 1) * 8388608) h)

pub all_coarse : (mark e : ℕ) (ws : List ℕ) → (e - 53 + 1) * 8388608 ≤ finest mark ws → AllCoarse mark (e - 53) ws
all_coarse mark e ws h i k p = coarse e (get_or ws i 0) (each mark ((e - 53 + 1) * 8388608) ws h i k p)
