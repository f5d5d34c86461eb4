-- A number with a sign as the difference of two whole numbers: sums, multiples and distances of such differences.
use mathlib.Core.Path.{◌≡◌, refl, sym, ap, ◌∙◌}
use Prim.Native.Nat.{ℕ, zero, suc, ◌+◌, ◌-◌, ◌*◌, ◌≤◌, ◌<◌}
use native.Mathlib.Nat.{mul-add}
use native.Mathlib.Decide.{dec_lt}
use native.Mathlib.Omega.{arith}
use borrow.Author.Tests.{lt-ltb, le-ltb}
use lib.IntN.{ℤ, pos, negsuc, neg_ℤ, nat_abs, sub_ℕ, ◌+ℤ◌, ◌-ℤ◌, ◌*ℤ◌}
use Rattle.meaning.specs.Readings.{distance}

pub below : (a b : ℕ) → a < b → sub_ℕ a b ≡ negsuc (b - suc a)
below a b h = rw (lt-ltb a b h) refl

pub from : (a b : ℕ) → b ≤ a → sub_ℕ a b ≡ pos (a - b)
from a b h = rw (le-ltb a b h) refl

-- two differences are one where the sums across are
pub same_difference : (a b c d : ℕ) → a + d ≡ c + b → sub_ℕ a b ≡ sub_ℕ c d
same_difference a b c d e = go (dec_lt a b)
  where
    go : Dec (a < b) → sub_ℕ a b ≡ sub_ℕ c d
    go (yes h) = below a b h ∙ ap negsuc (let k : b - suc a ≡ d - suc c = omega arith in k) ∙ sym (below c d (omega arith))
    go (no h) = from a b (omega arith) ∙ ap pos (let k : a - b ≡ c - d = omega arith in k) ∙ sym (from c d (omega arith))

pub add_differences : (a b c d : ℕ) → sub_ℕ a b +ℤ sub_ℕ c d ≡ sub_ℕ (a + c) (b + d)
add_differences a b c d = go (dec_lt a b) (dec_lt c d)
  where
    go : Dec (a < b) → Dec (c < d) → sub_ℕ a b +ℤ sub_ℕ c d ≡ sub_ℕ (a + c) (b + d)
    go (yes h) (yes k) =
        rw (below a b h, below c d k)
        (ap negsuc (let e : suc (b - suc a + (d - suc c)) ≡ b + d - suc (a + c) = omega arith in e) ∙ sym (below (a + c) (b + d) (omega arith)))
    go (yes h) (no k) = rw (below a b h, from c d (omega arith)) (same_difference (c - d) (suc (b - suc a)) (a + c) (b + d) (omega arith))
    go (no h) (yes k) = rw (from a b (omega arith), below c d k) (same_difference (a - b) (suc (d - suc c)) (a + c) (b + d) (omega arith))
    go (no h) (no k) =
        rw (from a b (omega arith), from c d (omega arith)) (ap pos (let e : a - b + (c - d) ≡ a + c - (b + d) = omega arith in e) ∙ sym (from (a + c) (b + d) (omega arith)))

pub turned : (a b : ℕ) → neg_ℤ (sub_ℕ a b) ≡ sub_ℕ b a
turned a b = go (dec_lt a b)
  where
    zero_or : (n : ℕ) → neg_ℤ (pos n) ≡ sub_ℕ 0 n
    zero_or zero = refl
    zero_or (suc n) = sym (below 0 (suc n) (omega arith) ∙ ap negsuc (let e : suc n - 1 ≡ n = omega arith in e))

    go : Dec (a < b) → neg_ℤ (sub_ℕ a b) ≡ sub_ℕ b a
    go (yes h) = ap neg_ℤ (below a b h) ∙ ap pos (let e : suc (b - suc a) ≡ b - a = omega arith in e) ∙ sym (from b a (omega arith))
    go (no h) = ap neg_ℤ (from a b (omega arith)) ∙ zero_or (a - b) ∙ same_difference 0 (a - b) b a (omega arith)

size_of : (a b : ℕ) → nat_abs (sub_ℕ a b) ≡ distance a b
unfolding distance
size_of a b = go (dec_lt a b)
  where
    go : Dec (a < b) → nat_abs (sub_ℕ a b) ≡ a - b + (b - a)
    go (yes h) = ap nat_abs (below a b h) ∙ omega arith
    go (no h) = ap nat_abs (from a b (omega arith)) ∙ omega arith

-- how far two differences lie apart
pub apart_is : (a b c d : ℕ) → nat_abs (sub_ℕ a b -ℤ sub_ℕ c d) ≡ distance (a + d) (c + b)
unfolding distance
apart_is a b c d =
    ap (λ (z : ℤ). nat_abs (sub_ℕ a b +ℤ z)) (turned c d) ∙ ap nat_abs (add_differences a b d c) ∙ size_of (a + d) (b + c) ∙ omega arith

-- every number is a difference
pub record Difference (z : ℤ) : Type 0 where
  pub more : ℕ
  pub less : ℕ
  pub is : z ≡ sub_ℕ more less

pub difference : (z : ℤ) → Difference z
difference (pos n) = record { more = n; less = 0; is = sym (from n 0 (omega arith) ∙ ap pos (let e : n - 0 ≡ n = omega arith in e)) }
difference (negsuc n) = record { more = 0; less = suc n; is = sym (below 0 (suc n) (omega arith) ∙ ap negsuc (let e : suc n - 1 ≡ n = omega arith in e)) }

pub as_difference : (n : ℕ) → pos n ≡ sub_ℕ n 0
unfolding difference
as_difference n = (difference (pos n)).is

pub multiple : (n a b : ℕ) → pos n *ℤ sub_ℕ a b ≡ sub_ℕ (n * a) (n * b)
multiple n a b = go (dec_lt a b)
  where
    times : (x y z : ℕ) → x + y ≡ z → n * x + n * y ≡ n * z
    times x y z e = sym (mul-add n x y) ∙ ap (λ (k : ℕ). n * k) e

    go : Dec (a < b) → pos n *ℤ sub_ℕ a b ≡ sub_ℕ (n * a) (n * b)
    go (yes h) =
        ap (λ (z : ℤ). pos n *ℤ z) (below a b h)
        ∙ ap neg_ℤ (as_difference (n * suc (b - suc a))) ∙ turned (n * suc (b - suc a)) 0
        ∙ same_difference 0 (n * suc (b - suc a)) (n * a) (n * b) (omega (arith, times (suc (b - suc a)) a b (omega arith)))
    go (no h) =
        ap (λ (z : ℤ). pos n *ℤ z) (from a b (omega arith))
        ∙ as_difference (n * (a - b)) ∙ same_difference (n * (a - b)) 0 (n * a) (n * b) (omega (arith, times (a - b) b a (omega arith)))

-- two sums lie at most as far apart as their terms do
pub apart_sum : (a b c d : ℤ) → nat_abs (a +ℤ b -ℤ (c +ℤ d)) ≤ nat_abs (a -ℤ c) + nat_abs (b -ℤ d)
unfolding distance
apart_sum a b c d = go (difference a) (difference b) (difference c) (difference d)
  where
    go : Difference a → Difference b → Difference c → Difference d → nat_abs (a +ℤ b -ℤ (c +ℤ d)) ≤ nat_abs (a -ℤ c) + nat_abs (b -ℤ d)
    go p q r s =
        rw (
          p.is,
          q.is,
          r.is,
          s.is,
          add_differences p.more p.less q.more q.less,
          add_differences r.more r.less s.more s.less,
          apart_is (p.more + q.more) (p.less + q.less) (r.more + s.more) (r.less + s.less),
          apart_is p.more p.less r.more r.less,
          apart_is q.more q.less s.more s.less,
        )
        (omega arith)

-- and two numbers that lie 0 apart are one
pub apart_none : (a b : ℤ) → nat_abs (a -ℤ b) ≡ 0 → a ≡ b
unfolding distance
apart_none a b h = go (difference a) (difference b)
  where
    go : Difference a → Difference b → a ≡ b
    go p q =
        let z : distance (p.more + q.less) (q.more + p.less) ≡ 0 =
        sym (apart_is p.more p.less q.more q.less) ∙ rw (← p.is, ← q.is) h in
        p.is ∙ same_difference p.more p.less q.more q.less (omega (arith, z)) ∙ sym q.is
