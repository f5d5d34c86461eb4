-- What the table's comparisons with a double say: the decade, and how near the code's estimate from the exponent field comes. The step's exponent is tested along the
-- table's places too.
use mathlib.Core.Path.{◌≡◌, ◌∙◌}
use mathlib.Core.Logic.{◌⊎◌, inl, inr}
use mathlib.Core.Bool.{Bool, true, false, ◌||◌}
use Prim.Native.Nat.{ℕ, suc, ◌+◌, ◌-◌, ◌*◌, ◌/◌, ◌^◌, ◌≤◌, ◌<◌}
use native.Mathlib.Nat.{le_trans, lt_of_le_of_lt, mul-le-mul_right}
use native.Mathlib.Decide.{dec_lt}
use native.Mathlib.Omega.{arith}
use lib.Dec.{T, leb, ltb, leb→le, ltb→lt}
use lib.ListN.{get_or}
use Rattle.meaning.specs.Readings.{exponent_field, fraction, size, least_exp}
use Rattle.meaning.specs.Methods.{decade}
use Rattle.meaning.proofs.Sizes.{size_le}
use Rattle.powers.specs.Table.{powers}
use Rattle.powers.proofs.Table.{every, at}
use Rattle.powers.proofs.Powers.{power, scaled, reaches_entry, first_entry}
use Rattle.digit_tails.specs.Step.{step_exponent}
use Rattle.digit_tails.proofs.Digit.{decade_is}

-- the place that the code begins with, from an exponent field
abbrev pub estimate : ℕ → ℕ
estimate e = (e * 77 + 4100) / 2 ^ 8

-- The estimate is below the place of p for what is less than p, and for p not more than one below it. Both go by p's exponent field.
abbrev not_above : ℕ → ℕ → Bool
not_above i p = leb p (2 ^ 52) || ltb (estimate ((p - 1) / 2 ^ 52)) i

abbrev near : ℕ → ℕ → Bool
near i p = leb i (suc (estimate (p / 2 ^ 52)))

all_not_above : T (every not_above 0 powers)
all_not_above = tt

all_near : T (every near 0 powers)
all_near = tt

-- 2^step_exponent is the largest power of two that is not above 10^(i - 323), in least spacings
abbrev step_low : ℕ → ℕ → Bool
step_low i p = leb (2 ^ step_exponent i * 10 ^ 323) (2 ^ 1074 * 10 ^ i)

abbrev step_high : ℕ → ℕ → Bool
step_high i p = ltb (2 ^ 1074 * 10 ^ i) (2 ^ (step_exponent i + 1) * 10 ^ 323)

all_step_low : T (every step_low 0 powers)
all_step_low = tt

all_step_high : T (every step_high 0 powers)
all_step_high = tt

or_cases : (a b : Bool) → T (a || b) → T a ⊎ T b
or_cases true b t = inl tt
or_cases false b t = inr t

-- ---- the decade

reaches_at : (i m : ℕ) → i < 633 → get_or powers i 0 ≤ m → power i ≤ scaled m
reaches_at i m h l = le_trans (reaches_entry i h) (mul-le-mul_right (10 ^ least_exp 52 11) (size_le 52 l))

under_at : (i m : ℕ) → i < 633 → m < get_or powers i 0 → scaled m < power i
under_at i m h l =
    lt_of_le_of_lt (mul-le-mul_right (10 ^ least_exp 52 11) (size_le 52 {m = m} {n = get_or powers i 0 - 1} (omega arith))) (first_entry i h)

finite_under : T (ltb (scaled 0x7fef_ffff_ffff_ffff) (power 633))
unfolding size exponent_field fraction least_exp
finite_under = tt

-- r is the place of the last power that is not above m
pub record Place (m r : ℕ) : Type 0 where
  pub within : r ≤ 632
  pub reaches : get_or powers r 0 ≤ m
  pub under : r < 632 → m < get_or powers (r + 1) 0

pub place_decade : (m r : ℕ) → 0 < m → m < 0x7ff0_0000_0000_0000 → Place m r → decade 52 11 m ≡ r + 751
place_decade m r p f d = decade_is 52 11 m (r + 750) p (reaches_at r m (omega (arith, d.within)) d.reaches) (next (dec_lt r 632)) ∙ omega arith
  where
    same : r + 1 + 750 ≡ suc (r + 750)
    same = omega arith

    next : Dec (r < 632) → scaled m < 10 ^ suc (r + 750) * 2 ^ least_exp 52 11
    next (yes l) = rw same at (under_at (r + 1) m (omega arith) (d.under l))
    next (no l) =
        let e : suc (r + 750) ≡ 633 + 750 = omega (arith, d.within) in
        rw e
        (lt_of_le_of_lt (mul-le-mul_right (10 ^ least_exp 52 11) (size_le 52 {m = m} {n = 0x7fef_ffff_ffff_ffff} (omega arith)))
        (ltb→lt (scaled 0x7fef_ffff_ffff_ffff) (power 633) finite_under))

-- ---- the estimate, which grows with the field

estimate_mono : {d e : ℕ} → d ≤ e → estimate d ≤ estimate e
estimate_mono h = omega arith

pub estimate_low : (m : ℕ) → 2 ^ 52 ≤ m → m < 0x7ff0_0000_0000_0000 → get_or powers (estimate (m / 2 ^ 52)) 0 ≤ m
estimate_low m n h = go (or_cases (leb p (2 ^ 52)) (ltb (estimate ((p - 1) / 2 ^ 52)) i) (at not_above powers all_not_above i (omega arith))) (dec_lt m p)
  where
    i : ℕ
    i = estimate (m / 2 ^ 52)

    p : ℕ
    p = get_or powers i 0

    go : T (leb p (2 ^ 52)) ⊎ T (ltb (estimate ((p - 1) / 2 ^ 52)) i) → Dec (m < p) → p ≤ m
    go (inl t) d = le_trans (leb→le p (2 ^ 52) t) n
    go (inr t) (no l) = omega arith
    go (inr t) (yes l) = absurd (omega (arith, ltb→lt (estimate ((p - 1) / 2 ^ 52)) i t, estimate_mono {d = m / 2 ^ 52} {e = (p - 1) / 2 ^ 52} (omega arith)))

pub estimate_high : (m i : ℕ) → i < 633 → i ≡ estimate (m / 2 ^ 52) + 2 → m < get_or powers i 0
estimate_high m i h e = go (leb→le i (suc (estimate (p / 2 ^ 52))) (at near powers all_near i h)) (dec_lt m p)
  where
    p : ℕ
    p = get_or powers i 0

    go : i ≤ suc (estimate (p / 2 ^ 52)) → Dec (m < p) → m < p
    go t (yes l) = l
    go t (no l) = absurd (omega (arith, t, e, estimate_mono {d = p / 2 ^ 52} {e = m / 2 ^ 52} (omega arith)))

-- ---- the step

pub step_at : (i : ℕ) → i ≤ 632 → (2 ^ step_exponent i * 10 ^ 323 ≤ 2 ^ 1074 * 10 ^ i) × (2 ^ 1074 * 10 ^ i < 2 ^ (step_exponent i + 1) * 10 ^ 323)
step_at i h = (
  leb→le (2 ^ step_exponent i * 10 ^ 323) (2 ^ 1074 * 10 ^ i) (at step_low powers all_step_low i (omega arith)),
  ltb→lt (2 ^ 1074 * 10 ^ i) (2 ^ (step_exponent i + 1) * 10 ^ 323) (at step_high powers all_step_high i (omega arith)),
)
