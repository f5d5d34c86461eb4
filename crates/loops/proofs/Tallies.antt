-- What one reading counts for is 0 or 1 in each count; and the sums over an array, whatever counts they hold.
use mathlib.Core.Path.{◌≡◌}
use mathlib.Core.Bool.{cond}
use Prim.Native.Nat.{ℕ, ◌+◌, ◌≤◌, zero-le}
use native.Mathlib.Nat.{le_refl, add-zero, zero-add, add_assoc}
use native.Mathlib.Omega.{arith}
use lib.Dec.{eqb, ltb}
use Rattle.meaning.specs.Readings.{sign, magnitude}
use Rattle.meaning.specs.Methods.{Method, clips}
use Rattle.reading.specs.Left.{Tally, unless_missing, left_from, rose_from, settled_from, wanted_by, over, settled_by, settled_tail}
use Rattle.reading.proofs.Words.{cond_le}
use Rattle.loops.specs.Tallies.{none, plus, Few}

module _ (F X : ℕ) where
  rose_few : (x p : ℕ) → rose_from F X x p ≤ 1
  unfolding rose_from
  rose_few x p =
      let grows = ltb (magnitude F X x) (magnitude F X p) in
      cond_le (eqb p x) 0 _ 1 zero-le
      (cond_le (eqb (sign F X p) 0) (cond grows 1 0) (cond grows 0 1) 1 (cond_le grows 1 0 1 (le_refl 1) zero-le) (cond_le grows 0 1 1 zero-le (le_refl 1)))

  pub one_from : (mark x z over : ℕ) → over ≤ 1 → Few (settled_from F X mark x z over).tally 1
  unfolding settled_from
  one_from mark x z over h =
      record {
        changed_few = cond_le (eqb (left_from mark x z) x) 0 1 1 zero-le (le_refl 1);
        marked_few = cond_le (eqb (unless_missing mark x z) mark) 1 0 1 (le_refl 1) zero-le;
        clipped_few = cond_le (eqb (left_from mark x z) x) 0 over 1 zero-le h;
        missing_few = cond_le (eqb x mark) 1 0 1 (le_refl 1) zero-le;
        risen_few = rose_few x (left_from mark x z);
      }

  pub one_by : (x : Method) (mark turn w : ℕ) → Few (settled_by F X x mark turn w).tally 1
  unfolding settled_by over
  one_by x mark turn w = one_from mark w (wanted_by F X x turn w) (over F X x w) (cond_le (clips F X x (magnitude F X w)) 1 0 1 (le_refl 1) zero-le)

  pub one_tail : (t add mark w : ℕ) → Few (settled_tail F X t add mark w).tally 1
  unfolding settled_tail
  one_tail t add mark w = one_from mark w _ 0 zero-le

pub few_none : Few none 0
few_none = record { changed_few = zero-le; marked_few = zero-le; clipped_few = zero-le; missing_few = zero-le; risen_few = zero-le }

pub few_wider : (t : Tally) (m n : ℕ) → m ≤ n → Few t m → Few t n
few_wider t m n l h = record { changed_few = omega arith; marked_few = omega arith; clipped_few = omega arith; missing_few = omega arith; risen_few = omega arith }

pub few_plus : (s t : Tally) (m n : ℕ) → Few s m → Few t n → Few (plus s t) (m + n)
unfolding plus
few_plus s t m n h k = record { changed_few = omega arith; marked_few = omega arith; clipped_few = omega arith; missing_few = omega arith; risen_few = omega arith }

pub plus_none : (t : Tally) → plus t none ≡ t
unfolding plus
plus_none t = simp add-zero

pub none_plus : (t : Tally) → plus none t ≡ t
unfolding plus
none_plus t = simp zero-add

pub plus_assoc : (r s t : Tally) → plus (plus r s) t ≡ plus r (plus s t)
unfolding plus
plus_assoc r s t = simp add_assoc
