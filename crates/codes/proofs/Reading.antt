-- The code of a reading from two cut words.
use Rattle.std.proofs.Common.{◌≡◌, ℕ, suc, ◌+◌, ◌-◌, ◌*◌, ◌/◌, ◌%◌, ◌^◌, ◌<◌, ◌≤◌, eqb, ltb, leb, ◌≢◌, ◌⊎◌, sym, refl, ap, ◌∙◌, inl, inr, mul-le-mul_right, mod-lt, mul_assoc, div-lt_iff_lt-mul, mul-le-mul_left, mul-lt-mul_of_pos_right, div-add-mod', arith, lit<, pow_pos, pow_mono, pow-add, eq-eqb, ne_eqb, le-leb}
use mathlib.Core.Bool.{true}
use native.Mathlib.Nat.{mul-mod_left, le_of_lt}
use native.Mathlib.Decide.{dec_lt, dec_le, ℕ_discrete}
use borrow.Author.Tests.{lt-ltb, le-ltb, lt-leb}
use Rattle.meaning.specs.Readings.{spacing_exp, size, sign, magnitude, pattern, infinity, origin, position}
use Rattle.meaning.specs.Methods.{nearest}
use Rattle.meaning.specs.Layers.{missing_code, code}
use Rattle.meaning.proofs.Sizes.{Form, form, size_form}
use Rattle.meaning.proofs.Patterns.{magnitude_pattern, sign_pattern, size_below, position_plus, position_minus}
use Rattle.meaning.proofs.Powers.{pow_split}
use Rattle.meaning.proofs.Nearest.{nearest_scale}
use Rattle.codes.specs.declared.Cut.{Cut}
use Rattle.codes.specs.declared.Base.{Base}
use Rattle.codes.specs.declared.Span.{Span}
use Rattle.codes.specs.Cut.{lost_of, word_of, cut_of, reading_of, round_word, opposed, layer_by, code_by, CanCode}
use Rattle.codes.proofs.Leaf.{lost_small}
use Rattle.codes.proofs.Sum.{lift, lift_pos, lift_neg, lost_none, code_cut, sum_word}

-- a size below 2 ^ (e + 41) has a spacing of at most 2 ^ (e + 17)
pub shift_bound : (m e : ℕ) → size 23 m < 2 ^ (e + 41) → spacing_exp 23 m ≤ e + 17
shift_bound m e h = go (dec_le (spacing_exp 23 m) (e + 17)) f.above
  where
    f : Form 23 m
    f = form 23 m

    x : ℕ
    x = spacing_exp 23 m

    go : Dec (x ≤ e + 17) → (x ≡ 0) ⊎ (2 ^ 23 ≤ f.sig) → x ≤ e + 17
    go (yes l) b = l
    go (no l) (inl z) = omega arith
    go (no l) (inr b) =
        let p : 2 ^ (e + 41) ≡ 2 ^ (e + 41 - 23) * 2 ^ 23 = pow_split (e + 41) 23 (omega arith) in
        let q : 2 ^ (e + 41 - 23) ≤ 2 ^ x = pow_mono {i = e + 41 - 23} {j = x} (omega arith) in
        let r : 2 ^ 23 * 2 ^ x ≤ f.sig * 2 ^ x = mul-le-mul_right (2 ^ x) b in
        absurd (omega (arith, size_form 23 m f))

-- what loses something is small: below 2 ^ 24 units
lost_bound : (m s : ℕ) → lost_of (2 * size 23 m) (2 ^ s) ≡ 1 → (2 * size 23 m < 2 ^ 24 * 2 ^ s) × (0 < s)
lost_bound m s h = go (dec_le s x)
  where
    f : Form 23 m
    f = form 23 m

    x : ℕ
    x = spacing_exp 23 m

    is : 2 * size 23 m ≡ 2 * f.sig * 2 ^ x
    is = ap (λ (y : ℕ). 2 * y) (size_form 23 m f) ∙ sym (mul_assoc 2 f.sig (2 ^ x))

    go : Dec (s ≤ x) → (2 * size 23 m < 2 ^ 24 * 2 ^ s) × (0 < s)
    go (yes l) =
        let e : 2 * size 23 m ≡ 2 * f.sig * 2 ^ (x - s) * 2 ^ s = is ∙ ap (λ (y : ℕ). 2 * f.sig * y) (pow_split x s l) ∙ sym (mul_assoc (2 * f.sig) (2 ^ (x - s)) (2 ^ s)) in
        absurd (omega (arith, lost_none (2 * size 23 m) (2 ^ s) (ap (λ (y : ℕ). y % 2 ^ s) e ∙ mul-mod_left (2 * f.sig * 2 ^ (x - s)) (2 ^ s))))
    go (no l) =
        let p : 2 ^ suc x ≤ 2 ^ s = pow_mono {i = suc x} {j = s} (omega arith) in
        let q : 2 * f.sig * 2 ^ x < 2 ^ 25 * 2 ^ x = mul-lt-mul_of_pos_right (omega (arith, f.below)) (pow_pos x) in
        (omega (arith, is), omega arith)

grown : (C M g : ℕ) → 0 < M → 0 < g → C ≤ C * M * g
grown C M g p q = omega (arith, mul-le-mul_left {m = 1} {n = M} C p, mul-le-mul_left {m = 1} {n = g} (C * M) q)

doubled : (C M g : ℕ) → C * M * g + C * M * g ≡ 2 * C * M * g
doubled C M g = omega arith

-- the four outcomes of the test of T steps of 2 ^ e, from the word d and the top of the steps
pub record Test (T w r e d l : ℕ) : Type 0 where
  pub under : d < T * 2 ^ (e + 1 - (e - 39)) → position 23 8 w - position 23 8 r ≤ T * 2 ^ e
  pub over : T * 2 ^ (e + 1 - (e - 39)) < d → T * 2 ^ e < position 23 8 w - position 23 8 r
  pub kept : d ≡ T * 2 ^ (e + 1 - (e - 39)) → l ≡ 0 → position 23 8 w - position 23 8 r ≤ T * 2 ^ e
  pub lost : d ≡ T * 2 ^ (e + 1 - (e - 39)) → l ≢ 0 → T * 2 ^ e < position 23 8 w - position 23 8 r

module _ (w r : ℕ) (rs : sign 23 8 r ≤ 1) (fw : magnitude 23 8 w < infinity 23 8) (fr : magnitude 23 8 r < infinity 23 8) (le : position 23 8 r ≤ position 23 8 w) where
  abbrev a : ℕ
  a = size 23 (magnitude 23 8 w)

  abbrev b : ℕ
  b = size 23 (magnitude 23 8 r)

  abbrev O : ℕ
  O = origin 23 8

  abbrev n : ℕ
  n = position 23 8 w - position 23 8 r

  al : a < O
  al = size_below 23 8 fw

  bl : b < O
  bl = size_below 23 8 fr

  -- the difference of two readings is at most the sum of their sizes
  pub diff_le : n ≤ a + b
  diff_le = go (ℕ_discrete (sign 23 8 w) 0) (ℕ_discrete (sign 23 8 r) 0)
    where
      go : Dec (sign 23 8 w ≡ 0) → Dec (sign 23 8 r ≡ 0) → n ≤ a + b
      go (yes x) (yes y) = omega (arith, al, bl, position_plus 23 8 w x, position_plus 23 8 r y)
      go (yes x) (no y) = omega (arith, al, bl, position_plus 23 8 w x, position_minus 23 8 r y)
      go (no x) (yes y) = omega (arith, al, bl, position_minus 23 8 w x, position_plus 23 8 r y)
      go (no x) (no y) = omega (arith, al, bl, position_minus 23 8 w x, position_minus 23 8 r y)

  -- the reading and the opposite of the reference, both doubled, add up to twice the difference
  lift_sum : (C g : ℕ) → 0 < g → 2 * a < C → 2 * b < C → lift C (sign 23 8 w) (2 * a) g + lift C (1 - sign 23 8 r) (2 * b) g ≡ 2 * C * 2 ^ 64 * g + n * 2
  lift_sum C g p u v = go (ℕ_discrete (sign 23 8 w) 0) (ℕ_discrete (sign 23 8 r) 0)
    where
      K : ℕ
      K = C * 2 ^ 64 * g

      big : C ≤ K
      big = grown C (2 ^ 64) g (lit< tt) p

      twice : K + K ≡ 2 * C * 2 ^ 64 * g
      twice = doubled C (2 ^ 64) g

      go : Dec (sign 23 8 w ≡ 0) → Dec (sign 23 8 r ≡ 0) → lift C (sign 23 8 w) (2 * a) g + lift C (1 - sign 23 8 r) (2 * b) g ≡ 2 * C * 2 ^ 64 * g + n * 2
      go (yes x) (yes y) =
          rw (lift_pos C (sign 23 8 w) (2 * a) g x, lift_neg C (1 - sign 23 8 r) (2 * b) g (omega arith)) (omega (arith, big, al, bl, position_plus 23 8 w x, position_plus 23 8 r y, twice))
      go (yes x) (no y) =
          rw (lift_pos C (sign 23 8 w) (2 * a) g x, lift_pos C (1 - sign 23 8 r) (2 * b) g (omega (arith, rs))) (omega (arith, big, al, bl, position_plus 23 8 w x, position_minus 23 8 r y, twice))
      go (no x) (yes y) =
          rw (lift_neg C (sign 23 8 w) (2 * a) g x, lift_neg C (1 - sign 23 8 r) (2 * b) g (omega arith)) (omega (arith, big, al, bl, position_minus 23 8 w x, position_plus 23 8 r y, twice))
      go (no x) (no y) =
          rw (lift_neg C (sign 23 8 w) (2 * a) g x, lift_pos C (1 - sign 23 8 r) (2 * b) g (omega (arith, rs))) (omega (arith, big, al, bl, position_minus 23 8 w x, position_minus 23 8 r y, twice))

  module _ (e : ℕ) (holds : n ≤ 65534 * 2 ^ e) where
    abbrev s : ℕ
    s = e - 39

    abbrev k : ℕ
    k = e + 1 - s

    abbrev g : ℕ
    g = 2 ^ s

    k_low : 1 ≤ k
    k_low = omega arith

    k_high : k ≤ 40
    k_high = omega arith

    step : 2 ^ e * 2 ≡ 2 ^ k * g
    step = sym (pow-add 2 e 1) ∙ pow_split (e + 1) s (omega arith)

    small : n * 2 / g < 2 ^ 60
    small =
        let x : 65534 * 2 ^ k * g ≤ 65534 * 2 ^ 40 * g = mul-le-mul_right g (omega (arith, pow_mono {i = k} {j = 40} k_high)) in
        (div-lt_iff_lt-mul {k = g} {x = n * 2} {y = 2 ^ 60} (pow_pos s)).1 (omega (arith, holds, step, pow_pos s))

    both : lost_of (2 * a) g ≡ 1 → lost_of (2 * b) g ≡ 1 → n * 2 / g < 2 ^ (k - 1)
    both x y =
        let p : (2 * a < 2 ^ 24 * g) × (0 < s) = lost_bound (magnitude 23 8 w) s x in
        let q : (2 * b < 2 ^ 24 * g) × (0 < s) = lost_bound (magnitude 23 8 r) s y in
        let z : k - 1 ≡ 39 = omega arith in
        rw z ((div-lt_iff_lt-mul {k = g} {x = n * 2} {y = 2 ^ 39} (pow_pos s)).1 (omega (arith, diff_le)))

    words : round_word ((word_of (sign 23 8 w) (2 * a) g + word_of (1 - sign 23 8 r) (2 * b) g) % 2 ^ 64) k (lost_of (2 * a) g + lost_of (2 * b) g) ≡ nearest n (2 ^ e)
    words =
        code_cut C (n * 2) g k (sign 23 8 w) (2 * a) (1 - sign 23 8 r) (2 * b) (pow_pos s) k_low k_high (omega arith) (omega arith)
        (lift_sum C g (pow_pos s) (omega arith) (omega arith)) small both
        ∙ ap (λ (x : ℕ). nearest (n * 2) x) (sym step) ∙ nearest_scale n (2 ^ e) 2 (pow_pos e) (lit< tt)
      where
        C : ℕ
        C = 2 * a + 2 * b + 1

    -- the same with what the two calls and the sum of their words gave
    pub code_law : (t d c : ℕ) (x y : Cut) → t ≡ e - 39 → x ≡ reading_of w t → y ≡ reading_of (pattern 23 8 (1 - sign 23 8 r) (magnitude 23 8 r)) t
        → d ≡ (x.word + y.word) % 2 ^ 64 → c ≡ round_word d (e + 1 - t) (x.lost + y.lost) → c ≡ nearest n (2 ^ e)
    unfolding reading_of cut_of
    code_law t d c x y ti xi yi di ci =
        ci ∙ rw (di, xi, yi, ti, sign_pattern 23 8 (1 - sign 23 8 r) (magnitude 23 8 r) fr, magnitude_pattern 23 8 (1 - sign 23 8 r) (magnitude 23 8 r) fr) words

  -- ---- does 2 ^ e hold the difference

  module _ (T : ℕ) (one : 1 ≤ T) (e : ℕ) (small : n * 2 / 2 ^ (e - 39) < 2 ^ 60) where
    abbrev s' : ℕ
    s' = e - 39

    abbrev k' : ℕ
    k' = e + 1 - s'

    abbrev g' : ℕ
    g' = 2 ^ s'

    step' : 2 ^ e * 2 ≡ 2 ^ k' * g'
    step' = sym (pow-add 2 e 1) ∙ pow_split (e + 1) s' (omega arith)

    -- T of them
    steps : T * (2 ^ e * 2) ≡ T * (2 ^ k' * g')
    steps = ap (λ (y : ℕ). T * y) step'

    -- both lost something
    lost_both : lost_of (2 * a) g' + lost_of (2 * b) g' ≡ 2 → n ≤ T * 2 ^ e
    lost_both h =
        let x : lost_of (2 * a) g' ≡ 1 = omega (arith, lost_small (2 * a) g', lost_small (2 * b) g') in
        let y : lost_of (2 * b) g' ≡ 1 = omega (arith, lost_small (2 * a) g', lost_small (2 * b) g') in
        let p : (2 * a < 2 ^ 24 * g') × (0 < s') = lost_bound (magnitude 23 8 w) s' x in
        let q : (2 * b < 2 ^ 24 * g') × (0 < s') = lost_bound (magnitude 23 8 r) s' y in
        let z : k' ≡ 40 = omega arith in
        let t : 2 ^ e * 2 ≡ 2 ^ 40 * g' = step' ∙ ap (λ (i : ℕ). 2 ^ i * g') z in
        omega (arith, diff_le, mul-le-mul_right (2 ^ e) one)

    words' : (lost_of (2 * a) g' + lost_of (2 * b) g' ≢ 2)
        → ((word_of (sign 23 8 w) (2 * a) g' + word_of (1 - sign 23 8 r) (2 * b) g') % 2 ^ 64 ≡ n * 2 / g') × (lost_of (2 * a) g' + lost_of (2 * b) g' ≡ 0 → n * 2 % g' ≡ 0)
        × (lost_of (2 * a) g' + lost_of (2 * b) g' ≢ 0 → 0 < n * 2 % g')
    words' =
        sum_word C (n * 2) g' (sign 23 8 w) (2 * a) (1 - sign 23 8 r) (2 * b) (pow_pos s') (omega arith) (omega arith) (lift_sum C g' (pow_pos s') (omega arith) (omega arith)) small
      where
        C : ℕ
        C = 2 * a + 2 * b + 1

    test : (d l : ℕ) → d ≡ n * 2 / g' → (l ≡ 0 → n * 2 % g' ≡ 0) → (l ≢ 0 → 0 < n * 2 % g') → Test T w r e d l
    test d l di none some =
        record {
          under = λ h. let x : suc d * g' ≤ T * 2 ^ k' * g' = mul-le-mul_right g' h in omega (arith, whole, less, steps);
          over = λ h. let x : suc (T * 2 ^ k') * g' ≤ d * g' = mul-le-mul_right g' h in omega (arith, whole, steps, pow_pos s');
          kept = λ h z. let x : d * g' ≡ T * 2 ^ k' * g' = ap (λ (y : ℕ). y * g') h in omega (arith, whole, steps, none z);
          lost = λ h z. let x : d * g' ≡ T * 2 ^ k' * g' = ap (λ (y : ℕ). y * g') h in omega (arith, whole, steps, some z);
        }
      where
        whole : d * g' + n * 2 % g' ≡ n * 2
        whole = ap (λ (y : ℕ). y * g' + n * 2 % g') di ∙ div-add-mod' (n * 2) g'

        less : n * 2 % g' < g'
        less = mod-lt (n * 2) (pow_pos s')

    module _ (t : ℕ) (x y : Cut) (ti : t ≡ e - 39) (xi : x ≡ reading_of w t) (yi : y ≡ reading_of (pattern 23 8 (1 - sign 23 8 r) (magnitude 23 8 r)) t) where
      lx : x.lost ≡ lost_of (2 * a) g'
      unfolding reading_of cut_of
      lx = rw (xi, ti) refl

      ly : y.lost ≡ lost_of (2 * b) g'
      unfolding reading_of cut_of
      ly = rw (yi, ti, magnitude_pattern 23 8 (1 - sign 23 8 r) (magnitude 23 8 r) fr) refl

      wx : x.word ≡ word_of (sign 23 8 w) (2 * a) g'
      unfolding reading_of cut_of
      wx = rw (xi, ti) refl

      wy : y.word ≡ word_of (1 - sign 23 8 r) (2 * b) g'
      unfolding reading_of cut_of
      wy = rw (yi, ti, sign_pattern 23 8 (1 - sign 23 8 r) (magnitude 23 8 r) fr, magnitude_pattern 23 8 (1 - sign 23 8 r) (magnitude 23 8 r) fr) refl

      pub both_law : x.lost + y.lost ≡ 2 → position 23 8 w - position 23 8 r ≤ T * 2 ^ e
      both_law h = lost_both (omega (arith, lx, ly))

      pub test_law : (d : ℕ) → d ≡ (x.word + y.word) % 2 ^ 64 → x.lost + y.lost ≢ 2 → Test T w r e d (x.lost + y.lost)
      test_law d di h =
          let o = words' (λ z. h (omega (arith, lx, ly))) in
          test d (x.lost + y.lost) (di ∙ rw (wx, wy) o.0) (λ z. o.1 (omega (arith, lx, ly))) (λ z. o.2 (λ q. z (omega (arith, lx, ly))))

pub test_even : (T w r e d l : ℕ) → Test T w r e d l → d ≡ T * 2 ^ (e + 1 - (e - 39)) → eqb l 0 ≡ leb (position 23 8 w - position 23 8 r) (T * 2 ^ e)
test_even T w r e d l t h = go (ℕ_discrete l 0)
  where
    go : Dec (l ≡ 0) → eqb l 0 ≡ leb (position 23 8 w - position 23 8 r) (T * 2 ^ e)
    go (yes z) = eq-eqb l 0 z ∙ sym (le-leb (position 23 8 w - position 23 8 r) (T * 2 ^ e) (t.kept h z))
    go (no z) = ne_eqb l 0 z ∙ sym (lt-leb (position 23 8 w - position 23 8 r) (T * 2 ^ e) (t.lost h z))

pub test_order : (T w r e d l : ℕ) → Test T w r e d l → d ≢ T * 2 ^ (e + 1 - (e - 39)) → ltb d (T * 2 ^ (e + 1 - (e - 39))) ≡ leb (position 23 8 w - position 23 8 r) (T * 2 ^ e)
test_order T w r e d l t h = go (dec_lt d (T * 2 ^ (e + 1 - (e - 39))))
  where
    go : Dec (d < T * 2 ^ (e + 1 - (e - 39))) → ltb d (T * 2 ^ (e + 1 - (e - 39))) ≡ leb (position 23 8 w - position 23 8 r) (T * 2 ^ e)
    go (yes z) = lt-ltb d (T * 2 ^ (e + 1 - (e - 39))) z ∙ sym (le-leb (position 23 8 w - position 23 8 r) (T * 2 ^ e) (t.under z))
    go (no z) = le-ltb d (T * 2 ^ (e + 1 - (e - 39))) (omega arith) ∙ sym (lt-leb (position 23 8 w - position 23 8 r) (T * 2 ^ e) (t.over (omega arith)))

pub sign_small : (r : ℕ) → r < 4294967296 → sign 23 8 r ≤ 1
unfolding sign
sign_small r h = omega arith

pub reading_lost : (w s : ℕ) (c : Cut) → c ≡ reading_of w s → c.lost ≤ 1
unfolding reading_of cut_of
reading_lost w s c e = rw e (lost_small (2 * size 23 (magnitude 23 8 w)) (2 ^ s))

-- ---- the layer's part, done once

pub opposed_magnitude : (r : ℕ) → magnitude 23 8 r < infinity 23 8 → magnitude 23 8 (opposed r) ≡ magnitude 23 8 r
unfolding opposed
opposed_magnitude r f = magnitude_pattern 23 8 (1 - sign 23 8 r) (magnitude 23 8 r) f

pub base_lost : (b : Base) → b.opposite.lost ≤ 1
base_lost b = omega (arith, b.opposite_lost, reading_lost (opposed b.reference) (b.exponent - 39) _ refl)

pub with_law : (w : ℕ) (b : Base) (t d c : ℕ) (x : Cut) → sign 23 8 b.reference ≤ 1 → CanCode w b.reference b.exponent
    → t ≡ b.exponent - 39 → x ≡ reading_of w t → d ≡ (x.word + b.opposite.word) % 2 ^ 64 → c ≡ round_word d (b.exponent + 1 - t) (x.lost + b.opposite.lost)
    → c ≡ nearest (position 23 8 w - position 23 8 b.reference) (2 ^ b.exponent)
unfolding opposed
with_law w b t d c x rs can ti xi di ci =
    code_law w b.reference rs can.finite b.reference_finite can.above b.exponent can.holds t d c x y ti xi (ap (λ (z : ℕ). reading_of (opposed b.reference) z) (sym ti))
    (di ∙ ap (λ (z : ℕ). (x.word + z) % 2 ^ 64) b.opposite_word) (ci ∙ ap (λ (z : ℕ). round_word d (b.exponent + 1 - t) (x.lost + z)) b.opposite_lost)
  where
    y : Cut
    y = reading_of (opposed b.reference) (b.exponent - 39)

-- the definition's code, from the missing code of the layer's width and a base of its reference and exponent
pub by_layer : (b m mark r e q f w c : ℕ) → c ≡ code_by m mark q f w → m ≡ missing_code b → q ≡ r → f ≡ e → c ≡ code 23 8 mark (layer_by b r e) w
unfolding code
by_layer b m mark r e q f w c is h i j = is ∙ rw (h, i, j) refl

-- ---- the test of a span

-- what the two comparisons with the top of the steps say
pub span_test : (v : Span) (T e t top d : ℕ) (x y : Cut) → sign 23 8 v.low ≤ 1 → 1 ≤ T → (position 23 8 v.high - position 23 8 v.low) * 2 / 2 ^ (e - 39) < 2 ^ 60
    → t ≡ e - 39 → x ≡ reading_of v.high t → y ≡ reading_of (opposed v.low) t → d ≡ (x.word + y.word) % 2 ^ 64 → top ≡ T * 2 ^ (e + 1 - t) → x.lost + y.lost ≢ 2
    → (d ≡ top → eqb (x.lost + y.lost) 0 ≡ leb (position 23 8 v.high - position 23 8 v.low) (T * 2 ^ e)) × (d ≢ top → ltb d top ≡ leb (position 23 8 v.high - position 23 8 v.low) (T * 2 ^ e))
unfolding opposed
span_test v T e t top d x y rs one small ti xi yi di pi h = (λ z. test_even T v.high v.low e d _ law (z ∙ top_is), λ z. rw top_is (test_order T v.high v.low e d _ law (rw top_is at z)))
  where
    law : Test T v.high v.low e d (x.lost + y.lost)
    law = test_law v.high v.low rs v.high_finite v.low_finite (le_of_lt v.order) T one e small t x y ti xi yi d di h

    top_is : top ≡ T * 2 ^ (e + 1 - (e - 39))
    top_is = pi ∙ ap (λ (z : ℕ). T * 2 ^ (e + 1 - z)) ti

-- both lost something
pub span_both : (v : Span) (T e t : ℕ) (x y : Cut) → sign 23 8 v.low ≤ 1 → 1 ≤ T → (position 23 8 v.high - position 23 8 v.low) * 2 / 2 ^ (e - 39) < 2 ^ 60
    → t ≡ e - 39 → x ≡ reading_of v.high t → y ≡ reading_of (opposed v.low) t → x.lost + y.lost ≡ 2 → leb (position 23 8 v.high - position 23 8 v.low) (T * 2 ^ e) ≡ true
unfolding opposed
span_both v T e t x y rs one small ti xi yi h =
    le-leb _ _ (both_law v.high v.low rs v.high_finite v.low_finite (le_of_lt v.order) T one e small t x y ti xi yi h)
