-- A single that isn't subnormal lies in one of the two decades that its exponent field leaves, by the field's limit; and its tail is the one that the decade and the
-- field give. The limit is where the double of the same size reaches the table's next power.
use mathlib.Core.Path.{◌≡◌, refl, sym, ◌∙◌, subst}
use mathlib.Core.Logic.{◌≢◌}
use mathlib.Core.Bool.{cond}
use mathlib.Core.List.{List}
use Prim.Native.Nat.{ℕ, ◌+◌, ◌-◌, ◌*◌, ◌/◌, ◌%◌, ◌^◌, ◌≤◌, ◌<◌}
use native.Mathlib.Nat.{min-eq_left, min-eq_right, sub-add_cancel, one-mul, mod-eq_of_lt}
use native.Mathlib.Decide.{dec_lt, ℕ_discrete}
use native.Mathlib.Omega.{arith}
use borrow.Author.Tests.{eq-eqb, ne_eqb, lt-ltb, le-ltb}
use lib.Dec.{ltb}
use lib.Pow.{pow-lt}
use lib.ListN.{get_or}
use Rattle.meaning.specs.Methods.{decade}
use Rattle.powers.specs.Table.{powers}
use Rattle.digit_tails.specs.Step.{step_exponent}
use Rattle.digit_tables.specs.Fields.{field_place, least_single, field_limit, field_tail}
use Rattle.digit_tails.proofs.Decades.{estimate, estimate_low, estimate_high, place_decade, step_at}
use Rattle.digit_tails.proofs.Singles.{normal_widened}
use Rattle.digit_tails.proofs.Widths.{Tail, single_some}

-- ---- the tail of a field

pub tail_zero : (n f s : ℕ) → f ≡ 0 → field_tail n f s ≡ 0
unfolding field_tail
tail_zero n f s e = rw (eq-eqb f 0 e) refl

pub tail_last : (n f s : ℕ) → f ≡ 255 → field_tail n f s ≡ 0
unfolding field_tail
tail_last n f s e = rw (ne_eqb f 0 (λ z. omega arith), eq-eqb f 255 e) refl

tail_some : (n f s : ℕ) → f ≢ 0 → f ≢ 255 → field_tail n f s ≡ step_exponent (field_place f + s - n) - (924 + f)
unfolding field_tail
tail_some n f s a b = rw (ne_eqb f 0 a, ne_eqb f 255 b) refl

-- it has fewer bits than a word, also where no magnitude of the field lies in the decade
pub tail_short : (n f s : ℕ) → f < 256 → s ≤ 1 → n ≤ 7 → field_tail n f s < 32
tail_short n f s l h k = go (ℕ_discrete f 0) (ℕ_discrete f 255)
  where
    go : Dec (f ≡ 0) → Dec (f ≡ 255) → field_tail n f s < 32
    go (yes z) d = rw (tail_zero n f s z) (omega arith)
    go (no z) (yes d) = rw (tail_last n f s d) (omega arith)
    go (no z) (no d) = rw (tail_some n f s z d) (omega arith)

-- the limit, from a table and a place in it
module _ (f p q : ℕ) (t : List ℕ) (e : t ≡ powers) (pp : p ≡ field_place f) (qq : q ≡ least_single (get_or t (p + 1) 0)) where
  same_least : q ≡ least_single (get_or powers (field_place f + 1) 0)
  same_least = qq ∙ rw (e, pp) refl

  pub limit_below : q < 0x7f80_0000 → q ≡ field_limit f
  unfolding field_limit
  limit_below h = same_least ∙ sym (min-eq_left (omega (arith, same_least)))

  pub limit_most : 0x7f80_0000 ≤ q → 0x7f80_0000 ≡ field_limit f
  unfolding field_limit
  limit_most h = sym (min-eq_right (omega (arith, same_least)))

module _ (m : ℕ) (l : 2 ^ 23 ≤ m) (h : m < 0x7f80_0000) where
  abbrev f : ℕ
  f = m / 2 ^ 23

  abbrev w : ℕ
  w = m * 2 ^ 29 + 0x3800_0000_0000_0000

  abbrev next : ℕ
  next = get_or powers (field_place (m / 2 ^ 23) + 1) 0

  field : w / 2 ^ 52 ≡ f + 896
  field = omega arith

  below_next : m < field_limit f → w < next
  unfolding field_limit
  below_next k = omega arith

  reaches_next : field_limit f ≤ m → next ≤ w
  unfolding field_limit
  reaches_next k = omega arith

  first : m < field_limit f → decade 52 11 w ≡ field_place f + 751
  first k =
      place_decade w (field_place f) (omega arith) (omega arith)
      (record {
        within = omega arith;
        reaches = subst (λ (e : ℕ). get_or powers (estimate e) 0 ≤ w) field (estimate_low w (omega arith) (omega arith));
        under = λ _. below_next k;
      })

  second : field_limit f ≤ m → decade 52 11 w ≡ field_place f + 1 + 751
  second k =
      place_decade w (field_place f + 1) (omega arith) (omega arith)
      (record {
        within = omega arith;
        reaches = reaches_next k;
        under = λ _. estimate_high w (field_place f + 1 + 1) (omega arith) (omega (arith, field));
      })

  module _ (n : ℕ) (one : 1 ≤ n) (few : n ≤ 7) where
    tail_at : (s : ℕ) → s ≤ 1 → decade 52 11 w ≡ field_place f + s + 751 → Tail 23 8 n m (field_tail n f s)
    tail_at s b d =
        let r : ℕ = field_place f + s in
        let e : 925 + (f - 1) ≡ 924 + f = omega arith in
        rw (tail_some n f s (λ z. omega arith) (λ z. omega arith))
        (subst (λ (x : ℕ). Tail 23 8 n m (step_exponent (r - n) - x)) e
        (single_some r n m w d (normal_widened m l) one (omega arith) h (omega arith) (step_exponent (r - n)) (r - n) (f - 1) (sub-add_cancel (omega arith))
        (step_at (r - n) (omega arith)) refl))

    pub field_tail_lem : Tail 23 8 n m (field_tail n (m / 2 ^ 23) (cond (ltb m (field_limit (m / 2 ^ 23))) 0 1))
    field_tail_lem = go (dec_lt m (field_limit f))
      where
        go : Dec (m < field_limit f) → Tail 23 8 n m (field_tail n f (cond (ltb m (field_limit f)) 0 1))
        go (yes k) = rw (lt-ltb m (field_limit f) k) (tail_at 0 (omega arith) (first k ∙ omega arith))
        go (no k) = rw (le-ltb m (field_limit f) (omega arith)) (tail_at 1 (omega arith) (second (omega arith)))

-- the mask, by the three ways through the code
pub mask_zero : (n f s : ℕ) → f ≡ 0 → 0 ≡ 2 ^ field_tail n f s - 1
mask_zero n f s e = rw (tail_zero n f s e) refl

pub mask_last : (n f s : ℕ) → f ≡ 255 → 0 ≡ 2 ^ field_tail n f s - 1
mask_last n f s e = rw (tail_last n f s e) refl

pub mask_some : (n f s p j t : ℕ) → f ≢ 0 → f ≢ 255 → f < 256 → s ≤ 1 → n ≤ 7 → p ≡ field_place f → j ≡ step_exponent (p + s - n) → t ≡ j - (924 + f)
    → 1 * 2 ^ t % 2 ^ 32 ≡ 2 ^ field_tail n f s
mask_some n f s p j t a b l h k pp jj tt' =
    let e : t ≡ field_tail n f s = tt' ∙ rw (jj, pp) (sym (tail_some n f s a b)) in
    rw (e, one-mul) (mod-eq_of_lt (pow-lt {i = field_tail n f s} {j = 32} (tail_short n f s l h k)))
