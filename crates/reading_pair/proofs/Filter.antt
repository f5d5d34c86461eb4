-- A difference of two sizes that the float unit rounds, whichever is the larger, to a magnitude below a limit's is less than that limit: rounding keeps the order, and the limit is
-- a float itself. For both formats.
use mathlib.Core.Path.{◌≡◌, refl, sym, ap, ◌∙◌, subst}
use mathlib.Core.Logic.{◌⊎◌, inl, inr}
use mathlib.Core.Bool.{Bool, true, false, cond, ◌&&◌, ◌||◌, beq, true≢false}
use Prim.Native.Nat.{ℕ, ◌+◌, ◌-◌, ◌*◌, ◌%◌, ◌^◌, ◌≤◌, ◌<◌}
use native.Mathlib.Nat.{add-mod_left, eq_of_mul-eq-mul_right, le_of_mul-le-mul_right, mod-eq_of_lt, mul-le-mul_right, mul-pos, zero-add}
use native.Mathlib.Decide.{dec_lt}
use native.Mathlib.Omega.{arith}
use borrow.Author.Tests.{lt-ltb, le-ltb}
use mir.Facts.{and_yes, or_yes}
use lib.Dec.{T, ltb, eqb, leb, ltb→lt, eqb→eq}
use lib.Pow.{pow_pos}
use lib.Ieee.{Float, nan, inf, fin, Format, prec, low, top, hid, ones, up, down, units, round, sub, neg, lt, le, eq, of_bits, to_bits}
use lib.Ieee.Exact.{HasValue, round_exact}
use lib.Ieee.Fits.{down_pos, round_is, round-fits}
use lib.Ieee.Order.{round_mono}
use lib.Ieee.Scale.{grid, overflow}
use Rattle.meaning.specs.Readings.{size, magnitude, infinity, spacing_exp, distance}
use Rattle.meaning.proofs.Patterns.{finite_below}
use Rattle.meaning.proofs.Sizes.{form, size_form, size_mono}
use Rattle.absolute.proofs.Adding.{double_hidden}
use Rattle.absolute.proofs.NotNan.{Number, neg_value, round_number}
use Rattle.absolute.proofs.Values.{exponent_bits, infinity_is, bits_size, signed_bits, left_cross, right_cross}
use Rattle.decoding.proofs.Nearest.{round_value, infinity_size}
use Rattle.decoding.proofs.Numbers.{value_finite}
use Rattle.decoding.proofs.References.{pattern_finite, pattern_value}
use Rattle.decoding.proofs.Sums.{add_minus}

-- ---- two values

-- one float has one value
one_value : (x : Float) (s t : Bool) (a b c : ℕ) → HasValue x s a c → HasValue x t b c → a ≡ b
one_value nan s t a b c h k = absurd h
one_value (inf u) s t a b c h k = absurd h
one_value (fin u m e) s t a b c h k = eq_of_mul-eq-mul_right (down e) (down_pos e) a b (sym h.1 ∙ k.1)

-- what is at or below a value is no larger
le_values : (x y : Float) (a b c : ℕ) → HasValue x false a c → HasValue y false b c → T (le x y) → a ≤ b
unfolding lt le eq
le_values nan y a b c h k l = absurd h
le_values (inf s) y a b c h k l = absurd h
le_values (fin s m e) nan a b c h k l = absurd k
le_values (fin s m e) (inf t) a b c h k l = absurd k
le_values (fin true m e) (fin t n d) a b c h k l = absurd (true≢false h.0)
le_values (fin false m e) (fin true n d) a b c h k l = absurd (true≢false k.0)
le_values (fin false m e) (fin false n d) a b c h k l =
    let A = m * up e * down d in
    let B = n * up d * down e in
    let C = down e * down d in
    let i : A * c ≡ a * C = left_cross (m * up e) a c (down d) (down e) h.1 in
    let j : B * c ≡ b * C = right_cross (n * up d) b c (down d) (down e) k.1 in
    let o : A ≤ B = go A B (or_yes (ltb A B) (eqb A B && (beq false false || eqb A 0)) l) in
    le_of_mul-le-mul_right (omega (arith, i, j, mul-le-mul_right c o)) (mul-pos (down_pos e) (down_pos d))
  where
    go : (A B : ℕ) → T (ltb A B) ⊎ T (eqb A B && (beq false false || eqb A 0)) → A ≤ B
    go A B (inl t) = omega (arith, ltb→lt A B t)
    go A B (inr t) = omega (arith, eqb→eq A B (and_yes (eqb A B) (beq false false || eqb A 0) t).0)

-- and no infinity is
above_value : (y : Float) (b c : ℕ) → HasValue y false b c → T (le (inf false) y) → ⊥
unfolding lt le eq
above_value nan b c h l = h
above_value (inf t) b c h l = h
above_value (fin t n d) b c h l = l

-- ---- what rounding makes of a number of least spacings that is at most the size of a finite magnitude

module _ (f : Format) where
  abbrev F : ℕ
  F = prec f - 1

  abbrev X : ℕ
  X = exponent_bits f

  abbrev c : ℕ
  c = 2 ^ low f

  -- a size rounds to itself
  size_exact : (m : ℕ) → m < infinity F X → HasValue (round f false (size F m) c) false (size F m) c
  size_exact m h =
      let s = form F m in
      round_exact f false (size F m) c s.sig (spacing_exp F m) (pow_pos (low f)) (omega (arith, s.below, double_hidden f))
      (let k = size_mono F h in omega (arith, k, infinity_size f, size_form F m s))
      (ap (λ (n : ℕ). n * c) (size_form F m s))

  -- a magnitude is below the sign's bit
  under_sign : (s : Bool) (v : ℕ) → v < infinity F X → (cond s (top f) 0 + v) % top f ≡ v
  under_sign s v h = go s
    where
      small : v < top f
      small = let k : v < ones f * hid f = rw (infinity_is f) at h in omega (arith, k)

      go : (s : Bool) → (cond s (top f) 0 + v) % top f ≡ v
      go true = add-mod_left (top f) v ∙ mod-eq_of_lt small
      go false = ap (λ (n : ℕ). n % top f) (zero-add v) ∙ mod-eq_of_lt small

  module _ (N M : ℕ) (most : M < infinity F X) (room : N ≤ size F M) where
    -- rounding keeps the order, so nothing overflows
    over : overflow f ≤ grid f N c → round f false N c ≡ inf false
    unfolding units
    over h = round_is f false N c ∙ rw (le-ltb (grid f N c) (overflow f) h) refl

    under : grid f N c < overflow f
    under = go (dec_lt (grid f N c) (overflow f))
      where
        go : Dec (grid f N c < overflow f) → grid f N c < overflow f
        go (yes h) = h
        go (no h) =
            absurd
            (above_value (round f false (size F M) c) (size F M) c (size_exact M most)
            (subst (λ (x : Float). T (le x (round f false (size F M) c))) (over (omega arith)) (round_mono f N c (size F M) c (pow_pos (low f)) (pow_pos (low f)) (mul-le-mul_right c room))))

    -- with either sign
    rounded : (s : Bool) → HasValue (round f s N c) s (grid f N c) c
    rounded s = round_value f s N c under

    -- what is at least a float's size rounds to at least that
    at_least : (g : ℕ) → g < infinity F X → size F g ≤ N → size F g ≤ grid f N c
    at_least g h k =
        le_values (round f false (size F g) c) (round f false N c) (size F g) (grid f N c) c (size_exact g h) (rounded false)
        (round_mono f (size F g) c N c (pow_pos (low f)) (pow_pos (low f)) (mul-le-mul_right c k))

    -- the magnitude that it rounds to
    abbrev w : ℕ
    w = to_bits f (round f false N c)

    abbrev v : ℕ
    v = magnitude F X w

    is_finite : v < infinity F X
    is_finite = finite_below F X w (sym (pattern_finite f (round f false N c) (round-fits f false N c)) ∙ value_finite (round f false N c) false (grid f N c) c (rounded false))

    v_size : size F v ≡ grid f N c
    v_size =
        one_value (round f false N c) (leb (top f) w) false (size F v) (grid f N c) c
        (pattern_value f (round f false N c) (round-fits f false N c) (value_finite (round f false N c) false (grid f N c) c (rounded false))) (rounded false)

    pattern_is : (s : Bool) → to_bits f (round f s N c) % top f ≡ v
    pattern_is s =
        ap (λ (n : ℕ). n % top f) (signed_bits f v is_finite (round f s N c) s (rw v_size (rounded s))) ∙ under_sign s v is_finite

    pub below_limit : (s : Bool) (g : ℕ) → g < infinity F X → to_bits f (round f s N c) % top f < g → N < size F g
    below_limit s g h k = go (dec_lt N (size F g))
      where
        go : Dec (N < size F g) → N < size F g
        go (yes l) = l
        go (no l) =
            let a : size F g ≤ grid f N c = at_least g h (omega arith) in
            let b : v < g = rw (pattern_is s) at k in
            absurd (omega (arith, a, v_size, size_mono F b))

  -- ---- the filter

  module _ (a b : ℕ) (fa : a < infinity F X) (fb : b < infinity F X) where
    difference : sub f (of_bits f a) (of_bits f b) ≡ cond (ltb (size F a) (size F b)) (round f true (size F b - size F a) c) (round f false (size F a - size F b) c)
    unfolding sub
    difference =
        add_minus f (size F a) (size F b) c (pow_pos (low f)) (of_bits f a) (neg (of_bits f b)) (bits_size f a fa) (neg_value (of_bits f b) false (size F b) c (bits_size f b fb))

    pub difference_number : Number (sub f (of_bits f a) (of_bits f b))
    difference_number = rw difference (go (ltb (size F a) (size F b)))
      where
        go : (t : Bool) → Number (cond t (round f true (size F b - size F a) c) (round f false (size F a - size F b) c))
        go true = round_number f true (size F b - size F a) c
        go false = round_number f false (size F a - size F b) c

    pub filtered : (g : ℕ) → g < infinity F X → to_bits f (sub f (of_bits f a) (of_bits f b)) % top f < g → distance (size F a) (size F b) < size F g
    unfolding distance
    filtered g h k = go (dec_lt (size F a) (size F b)) (rw difference at k)
      where
        go : Dec (size F a < size F b)
            → to_bits f (cond (ltb (size F a) (size F b)) (round f true (size F b - size F a) c) (round f false (size F a - size F b) c)) % top f < g
            → (size F a - size F b) + (size F b - size F a) < size F g
        go (yes l) k = omega (arith, below_limit (size F b - size F a) b fb (omega arith) true g h (rw (lt-ltb (size F a) (size F b) l) at k))
        go (no l) k = omega (arith, below_limit (size F a - size F b) a fa (omega arith) false g h (rw (le-ltb (size F a) (size F b) (omega arith)) at k))
