-- "More than 2^q apart" of two sizes by words. The larger is sa * 2 ^ xa, the smaller sb * 2 ^ xb, and all is counted in halves of the larger's spacing: the larger is 2 * sa, and the
-- smaller 2 * sb / 2 ^ d with d = xa - xb. That is a fraction. A whole number is above it exactly where it is above its whole part, and below it where it is below the next whole
-- number: so it is rounded down where it is taken off, and up where it is added. The limit is a whole number of halves, or less than one. Then any two sizes that differ are beyond
-- it: the smaller may lie one binade lower, where the spacing is half as large.
use mathlib.Core.Path.{◌≡◌, refl, sym, ap, ◌∙◌}
use mathlib.Core.Logic.{◌⊎◌, inl, inr}
use Prim.Native.Nat.{ℕ, zero, suc, min, ◌+◌, ◌-◌, ◌*◌, ◌/◌, ◌^◌, ◌≤◌, ◌<◌}
use native.Mathlib.Nat.{mul_comm, mul-sub, mul-le-mul_right, mul-le-mul_left, mul-lt-mul_of_pos_right, lt_of_mul-lt-mul_right, le-div_iff_mul-le, div-lt_iff_lt-mul, div-eq_of_lt, div-eq_of_lt-le, min-eq_left, min-eq_right}
use native.Mathlib.Decide.{dec_lt, dec_le}
use native.Mathlib.Omega.{arith}
use lib.Dec.{ltb}
use lib.Pow.{pow_pos, pow-add, pow_mono}
use borrow.Author.Tests.{lt-ltb, le-ltb}
use Rattle.meaning.specs.Readings.{size, spacing_exp}
use Rattle.meaning.proofs.Powers.{pow_split}
use Rattle.meaning.proofs.Sizes.{Form, form, size_form, spacing_mono}
use Rattle.reading_apart.specs.Words.{cut_limit, significand}

-- two tests with one answer
same_test : (p q r s : ℕ) → (p < q → r < s) → (r < s → p < q) → ltb r s ≡ ltb p q
same_test p q r s f g = go (dec_lt p q) (dec_lt r s)
  where
    go : Dec (p < q) → Dec (r < s) → ltb r s ≡ ltb p q
    go (yes h) k = rw (lt-ltb p q h, lt-ltb r s (f h)) refl
    go (no h) (yes k) = absurd (h (g k))
    go (no h) (no k) = rw (le-ltb p q (omega arith), le-ltb r s (omega arith)) refl

-- ---- the words

module _ (F x q : ℕ) where
  pub cut_narrow : q + 1 < x → cut_limit F x q ≡ 0
  unfolding cut_limit
  cut_narrow h = rw (lt-ltb (q + 1) x h) refl

  pub cut_wide : x ≤ q + 1 → cut_limit F x q ≡ 2 ^ min (q + 1 - x) (F + 3)
  unfolding cut_limit
  cut_wide h = rw (le-ltb (q + 1) x h) refl

-- a magnitude of at most 52 fraction bits is its spacing's exponent above its significand
pub record Parts (F m : ℕ) : Type 0 where
  pub is : m ≡ spacing_exp F m * 2 ^ F + significand F m
  pub small : significand F m < 2 ^ 53

pub significand_parts : (F m : ℕ) → F ≤ 52 → Parts F m
unfolding significand
significand_parts F m h =
    let f = form F m in
    record { is = omega (arith, f.is); small = omega (arith, f.is, f.below, pow_mono h) }

-- ---- rounded down and rounded up

sub_times : (m n k : ℕ) → (m - n) * k ≡ m * k - n * k
sub_times m n k = mul_comm (m - n) k ∙ mul-sub k m n ∙ rw (mul_comm k m, mul_comm k n) refl

suc_times : (t k : ℕ) → (t + 1) * k ≡ t * k + k
suc_times t k = omega arith

module _ (u v g K Y : ℕ) (pK : 0 < K) (pY : 0 < Y) where
  down_to : g * (K * Y) + v * Y < u * (K * Y) → g + v / K < u
  down_to h =
      let a : (g * K + v) * Y < u * K * Y = omega (arith, h) in
      let b : g * K + v < u * K = lt_of_mul-lt-mul_right Y a in
      let e = sub_times u g K in
      let c : v / K < u - g = (div-lt_iff_lt-mul pK).1 (omega arith) in
      omega arith

  down_from : g + v / K < u → g * (K * Y) + v * Y < u * (K * Y)
  down_from h =
      let e = sub_times u g K in
      let c : v < (u - g) * K = (div-lt_iff_lt-mul {k = K} {x = v} {y = u - g} pK).0 (omega arith) in
      let b : g * K + v < u * K = omega arith in
      let a : (g * K + v) * Y < u * K * Y = mul-lt-mul_of_pos_right b pY in
      omega (arith, a)

  -- and up: (v + K - 1) / K
  up_to : g * (K * Y) < u * (K * Y) + v * Y → g < u + (v + (K - 1)) / K
  up_to h =
      let a : g * K * Y < (u * K + v) * Y = omega (arith, h) in
      let b : g * K < u * K + v = lt_of_mul-lt-mul_right Y a in
      fin (go b (dec_lt g u))
    where
      go : g * K < u * K + v → Dec (g < u) → (g - u + 1 ≤ (v + (K - 1)) / K) ⊎ (g < u)
      go b (yes l) = inr l
      go b (no l) =
          let m = mul-le-mul_right {m = u} {n = g} K (omega arith) in
          inl ((le-div_iff_mul-le pK).1 (omega (arith, sub_times g u K, suc_times (g - u) K)))

      fin : (g - u + 1 ≤ (v + (K - 1)) / K) ⊎ (g < u) → g < u + (v + (K - 1)) / K
      fin (inl l) = omega arith
      fin (inr l) = omega arith

  up_from : g < u + (v + (K - 1)) / K → g * (K * Y) < u * (K * Y) + v * Y
  up_from h = go (dec_lt g u)
    where
      lift : g * K < u * K + v → g * (K * Y) < u * (K * Y) + v * Y
      lift b = let a : g * K * Y < (u * K + v) * Y = mul-lt-mul_of_pos_right b pY in omega (arith, a)

      go : Dec (g < u) → g * (K * Y) < u * (K * Y) + v * Y
      go (yes l) = lift (omega (arith, mul-lt-mul_of_pos_right l pK))
      go (no l) =
          let m = mul-le-mul_right {m = u} {n = g} K (omega arith) in
          let c : (g - u + 1) * K ≤ v + (K - 1) = (le-div_iff_mul-le pK).0 (omega arith) in
          lift (omega (arith, sub_times g u K, suc_times (g - u) K))

-- a shift that is cut to F + 3 places gives the same of a number of F + 2 bits
module _ (F v d : ℕ) (small : v < 4 * 2 ^ F) where
  room : F + 3 ≤ d → v < 2 ^ d
  room h = omega (arith, small, pow_mono h, pow-add 2 F 3)

  cut_down : v / 2 ^ min d (F + 3) ≡ v / 2 ^ d
  cut_down = go (dec_le d (F + 3))
    where
      go : Dec (d ≤ F + 3) → v / 2 ^ min d (F + 3) ≡ v / 2 ^ d
      go (yes l) = rw (min-eq_left l) refl
      go (no l) =
          let k : F + 3 ≤ d = omega arith in
          rw (min-eq_right k, div-eq_of_lt (room k), div-eq_of_lt {n = v} {m = 2 ^ (F + 3)} (omega (arith, small, pow-add 2 F 3))) refl

  -- one where there is something, rounded up
  up_small : (K : ℕ) → 0 < v → v ≤ K → (v + (K - 1)) / K ≡ 1
  up_small K p h = div-eq_of_lt-le {k = 1} K (omega arith) (omega arith)

  cut_up : (v + (2 ^ min d (F + 3) - 1)) / 2 ^ min d (F + 3) ≡ (v + (2 ^ d - 1)) / 2 ^ d
  cut_up = go (dec_le d (F + 3)) (dec_lt 0 v)
    where
      go : Dec (d ≤ F + 3) → Dec (0 < v) → (v + (2 ^ min d (F + 3) - 1)) / 2 ^ min d (F + 3) ≡ (v + (2 ^ d - 1)) / 2 ^ d
      go (yes l) p = rw (min-eq_left l) refl
      go (no l) (yes p) =
          let k : F + 3 ≤ d = omega arith in
          rw (min-eq_right k)
          (up_small (2 ^ (F + 3)) p (omega (arith, small, pow-add 2 F 3)) ∙ sym (up_small (2 ^ d) p (omega (arith, room k))))
      go (no l) (no p) =
          let k : F + 3 ≤ d = omega arith in
          rw (min-eq_right k)
          (div-eq_of_lt {n = v + (2 ^ (F + 3) - 1)} {m = 2 ^ (F + 3)} (omega (arith, pow_pos (F + 3)))
          ∙ sym (div-eq_of_lt {n = v + (2 ^ d - 1)} {m = 2 ^ d} (omega (arith, pow_pos d))))

-- a limit that is cut to 2^(F + 3) says the same of numbers below it
cut_limit_lem : (F k a b : ℕ) → b ≤ 8 * 2 ^ F → (2 ^ min k (F + 3) + a < b → 2 ^ k + a < b) × (2 ^ k + a < b → 2 ^ min k (F + 3) + a < b)
cut_limit_lem F k a b h = go (dec_le k (F + 3))
  where
    go : Dec (k ≤ F + 3) → (2 ^ min k (F + 3) + a < b → 2 ^ k + a < b) × (2 ^ k + a < b → 2 ^ min k (F + 3) + a < b)
    go (yes l) = rw (min-eq_left l) ((λ x. x), (λ x. x))
    go (no l) =
        let k' : F + 3 ≤ k = omega arith in
        rw (min-eq_right k') ((λ x. absurd (omega (arith, x, pow-add 2 F 3))), (λ x. absurd (omega (arith, x, pow_mono k', pow-add 2 F 3))))

-- ---- the two sizes
module _ (F sa sb xa xb q : ℕ) (ha : sa < 2 * 2 ^ F) (hb : sb < 2 * 2 ^ F) (normal : (xa ≡ 0) ⊎ (2 ^ F ≤ sa)) (order : xb ≤ xa) where
  abbrev A : ℕ
  A = sa * 2 ^ xa

  abbrev B : ℕ
  B = sb * 2 ^ xb

  abbrev d : ℕ
  d = xa - xb

  spread : 2 ^ xa ≡ 2 ^ d * 2 ^ xb
  spread = pow_split xa xb order

  reach : xa ≤ q + 1 → 2 * 2 ^ q ≡ 2 ^ (q + 1 - xa) * (2 ^ d * 2 ^ xb)
  reach h =
      let e : 2 ^ (q + 1) ≡ 2 ^ (q + 1 - xa) * 2 ^ xa = pow_split (q + 1) xa h in
      omega (arith, e, pow-add 2 q 1, rw spread at e)

  -- where the limit is at least half a spacing of the larger
  same_wide : xa ≤ q + 1 → ltb (2 ^ min (q + 1 - xa) (F + 3) + 2 * sb / 2 ^ min d (F + 3)) (2 * sa) ≡ ltb (2 ^ q) (A - B)
  same_wide h =
      let k = q + 1 - xa in
      let K = 2 ^ d in
      let Y = 2 ^ xb in
      let r = reach h in
      let s = spread in
      let l = cut_limit_lem F k (2 * sb / K) (2 * sa) (omega arith) in
      rw (cut_down F (2 * sb) d (omega arith))
      (same_test (2 ^ q) (sa * 2 ^ xa - sb * Y) (2 ^ min k (F + 3) + 2 * sb / K) (2 * sa)
      (λ p. l.1 (down_to (2 * sa) (2 * sb) (2 ^ k) K Y (pow_pos d) (pow_pos xb) (omega (arith, p, r, ap (λ (n : ℕ). sa * n) s))))
      (λ p. let f = down_from (2 * sa) (2 * sb) (2 ^ k) K Y (pow_pos d) (pow_pos xb) (l.0 p) in omega (arith, f, r, ap (λ (n : ℕ). sa * n) s)))

  opposite_wide : xa ≤ q + 1 → ltb (2 ^ min (q + 1 - xa) (F + 3)) (2 * sa + (2 * sb + (2 ^ min d (F + 3) - 1)) / 2 ^ min d (F + 3)) ≡ ltb (2 ^ q) (A + B)
  opposite_wide h =
      let k = q + 1 - xa in
      let K = 2 ^ d in
      let Y = 2 ^ xb in
      let r = reach h in
      let s = spread in
      let c = (2 * sb + (K - 1)) / K in
      let few : c ≤ 4 * 2 ^ F = few_up in
      let l = cut_limit_lem F k 0 (2 * sa + c) (omega arith) in
      rw (cut_up F (2 * sb) d (omega arith))
      (same_test (2 ^ q) (sa * 2 ^ xa + sb * Y) (2 ^ min k (F + 3)) (2 * sa + c)
      (λ p. let t = l.1 (let y = up_to (2 * sa) (2 * sb) (2 ^ k) K Y (pow_pos d) (pow_pos xb) (omega (arith, p, r, ap (λ (n : ℕ). sa * n) s)) in omega (arith, y)) in omega (arith, t))
      (λ p. let f = up_from (2 * sa) (2 * sb) (2 ^ k) K Y (pow_pos d) (pow_pos xb) (let y = l.0 (omega (arith, p)) in omega (arith, y)) in omega (arith, f, r, ap (λ (n : ℕ). sa * n) s)))
    where
      few_up : (2 * sb + (2 ^ d - 1)) / 2 ^ d ≤ 4 * 2 ^ F
      few_up =
          let a : (2 * sb + (2 ^ d - 1)) / 2 ^ d < 4 * 2 ^ F + 1 = (div-lt_iff_lt-mul (pow_pos d)).1 (omega (arith, suc_times (4 * 2 ^ F) (2 ^ d), mul-le-mul_left (4 * 2 ^ F) (pow_pos d), pow_pos d)) in
          omega (arith, a)

  -- where it is less, any difference is beyond it
  step : q + 1 < xa → B < A → 2 ^ (xa - 1) ≤ A - B
  step h less = go (dec_lt xb xa)
    where
      half : 2 ^ xa ≡ 2 ^ (xa - 1) * 2
      half = pow_split xa 1 (omega arith)

      lower : xb < xa → 2 ^ (xa - 1) ≡ 2 ^ (xa - 1 - xb) * 2 ^ xb
      lower l = pow_split (xa - 1) xb (omega arith)

      big : (xa ≡ 0) ⊎ (2 ^ F ≤ sa) → 2 ^ F ≤ sa
      big (inl z) = absurd (omega arith)
      big (inr l) = l

      -- P * H is at least P + H - 1
      grid : (P H : ℕ) → 0 < P → 0 < H → P + H ≤ P * H + 1
      grid zero H a b = elim a [ ]
      grid (suc P) zero a b = elim b [ ]
      grid (suc P) (suc H) a b = omega arith

      go : Dec (xb < xa) → 2 ^ (xa - 1) ≤ sa * 2 ^ xa - sb * 2 ^ xb
      go (no l) =
          let e : xb ≡ xa = omega arith in
          let f : sb * 2 ^ xb ≡ sb * 2 ^ xa = ap (λ (n : ℕ). sb * 2 ^ n) e in
          let k : sb < sa = lt_of_mul-lt-mul_right (2 ^ xa) (omega (arith, f, less)) in
          let m = mul-le-mul_right {m = sb + 1} {n = sa} (2 ^ xa) (omega arith) in
          omega (arith, f, half, suc_times sb (2 ^ xa))
      go (yes l) =
          let P = 2 ^ (xa - 1 - xb) in
          let Y = 2 ^ xb in
          let g = grid P (2 * 2 ^ F) (pow_pos (xa - 1 - xb)) (omega (arith, pow_pos F)) in
          let t : P + sb ≤ P * (2 * 2 ^ F) = omega arith in
          let a : P * (2 * 2 ^ F) ≤ P * (2 * sa) = mul-le-mul_left P (omega (arith, big normal)) in
          let b : (P + sb) * Y ≤ P * (2 * sa) * Y = mul-le-mul_right Y (omega arith) in
          omega (arith, b, half, lower l, ap (λ (n : ℕ). sa * n) half, ap (λ (n : ℕ). sa * (n * 2)) (lower l))

  same_narrow : q + 1 < xa → ltb (0 + 2 * sb / 2 ^ min d (F + 3)) (2 * sa) ≡ ltb (2 ^ q) (A - B)
  same_narrow h =
      let K = 2 ^ d in
      let Y = 2 ^ xb in
      let s = ap (λ (n : ℕ). sa * n) spread in
      rw (cut_down F (2 * sb) d (omega arith))
      (same_test (2 ^ q) (sa * 2 ^ xa - sb * Y) (0 + 2 * sb / K) (2 * sa)
      (λ p. down_to (2 * sa) (2 * sb) 0 K Y (pow_pos d) (pow_pos xb) (omega (arith, p, s)))
      (λ p. let f = down_from (2 * sa) (2 * sb) 0 K Y (pow_pos d) (pow_pos xb) p in
      let t = step h (omega (arith, f, s)) in
      omega (arith, t, pow_mono {i = q + 1} {j = xa - 1} (omega arith), pow-add 2 q 1, pow_pos q)))

  opposite_narrow : q + 1 < xa → ltb 0 (2 * sa + (2 * sb + (2 ^ min d (F + 3) - 1)) / 2 ^ min d (F + 3)) ≡ ltb (2 ^ q) (A + B)
  opposite_narrow h = go normal
    where
      go : (xa ≡ 0) ⊎ (2 ^ F ≤ sa) → ltb 0 (2 * sa + (2 * sb + (2 ^ min d (F + 3) - 1)) / 2 ^ min d (F + 3)) ≡ ltb (2 ^ q) (sa * 2 ^ xa + sb * 2 ^ xb)
      go (inl z) = absurd (omega arith)
      go (inr l) =
          let p = pow_pos F in
          let m : 1 * 2 ^ xa ≤ sa * 2 ^ xa = mul-le-mul_right (2 ^ xa) (omega arith) in
          rw (
            lt-ltb 0 (2 * sa + (2 * sb + (2 ^ min d (F + 3) - 1)) / 2 ^ min d (F + 3)) (omega arith),
            lt-ltb (2 ^ q) (sa * 2 ^ xa + sb * 2 ^ xb) (omega (arith, m, pow_mono {i = q + 1} {j = xa} (omega arith), pow-add 2 q 1, pow_pos q)),
          ) refl

  same : ltb (cut_limit F xa q + 2 * sb / 2 ^ min d (F + 3)) (2 * sa) ≡ ltb (2 ^ q) (A - B)
  same = go (dec_lt (q + 1) xa)
    where
      go : Dec (q + 1 < xa) → ltb (cut_limit F xa q + 2 * sb / 2 ^ min d (F + 3)) (2 * sa) ≡ ltb (2 ^ q) (A - B)
      go (yes l) = rw (cut_narrow F xa q l) (same_narrow l)
      go (no l) = rw (cut_wide F xa q (omega arith)) (same_wide (omega arith))

  opposite : ltb (cut_limit F xa q) (2 * sa + (2 * sb + (2 ^ min d (F + 3) - 1)) / 2 ^ min d (F + 3)) ≡ ltb (2 ^ q) (A + B)
  opposite = go (dec_lt (q + 1) xa)
    where
      go : Dec (q + 1 < xa) → ltb (cut_limit F xa q) (2 * sa + (2 * sb + (2 ^ min d (F + 3) - 1)) / 2 ^ min d (F + 3)) ≡ ltb (2 ^ q) (A + B)
      go (yes l) = rw (cut_narrow F xa q l) (opposite_narrow l)
      go (no l) = rw (cut_wide F xa q (omega arith)) (opposite_wide (omega arith))

-- ---- and of two magnitudes

-- what the code has worked out of the larger magnitude a and the smaller one b
pub record Worked (F a b q u v limit d : ℕ) : Type 0 where
  pub first : u ≡ 2 * significand F a
  pub second : v ≡ 2 * significand F b
  pub cut : limit ≡ cut_limit F (spacing_exp F a) q
  pub shift : d ≡ min (spacing_exp F a - spacing_exp F b) (F + 3)

module _ (F a b q : ℕ) {u v limit d : ℕ} (w : Worked F a b q u v limit d) (order : b ≤ a) where
  significand_is : (m : ℕ) (f : Form F m) → significand F m ≡ f.sig
  unfolding significand
  significand_is m f = omega (arith, f.is)

  pub words_same : ltb (limit + v / 2 ^ d) u ≡ ltb (2 ^ q) (size F a - size F b)
  words_same =
      let f = form F a in
      let g = form F b in
      rw (w.first, w.second, w.cut, w.shift, significand_is a f, significand_is b g, size_form F a f, size_form F b g)
      (same F f.sig g.sig (spacing_exp F a) (spacing_exp F b) q f.below g.below f.above (spacing_mono F order))

  pub words_opposite : ltb limit (u + (v + (2 ^ d - 1)) / 2 ^ d) ≡ ltb (2 ^ q) (size F a + size F b)
  words_opposite =
      let f = form F a in
      let g = form F b in
      rw (w.first, w.second, w.cut, w.shift, significand_is a f, significand_is b g, size_form F a f, size_form F b g)
      (opposite F f.sig g.sig (spacing_exp F a) (spacing_exp F b) q f.below g.below f.above (spacing_mono F order))
