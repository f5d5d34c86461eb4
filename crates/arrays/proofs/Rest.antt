-- The readings of a part from a place on are not subnormal: kept by a store before that place, and found out by a count.
use mathlib.Core.Path.{◌≡◌, ap, ◌∙◌}
use mathlib.Core.Bool.{cond}
use mathlib.Core.List.{List}
use Prim.Native.Nat.{ℕ, ◌+◌, ◌^◌, ◌≤◌, ◌<◌}
use native.Mathlib.Decide.{ℕ_discrete}
use native.Mathlib.Omega.{arith}
use lib.Dec.{eqb, ltb}
use lib.ListN.{length, get_or, set, length-set}
use lib.Seq.{get_or-set_other}
use Rattle.meaning.specs.Readings.{magnitude}
use Rattle.reading.proofs.Words.{cond_lt}
use Rattle.single.specs.Left.{subnormal}

abbrev pub Rest : List ℕ → ℕ → Type 0
Rest ws i = (k : ℕ) → i ≤ k → k < length ws → subnormal 23 8 (get_or ws k 0) ≡ 0

pub rest_turn : (ws : List ℕ) (i v : ℕ) → Rest ws i → Rest (set ws i v) (i + 1)
rest_turn ws i v h k l b =
    ap (λ (w : ℕ). subnormal 23 8 w) (get_or-set_other ws i k v 0 (λ z. omega arith)) ∙ h k (omega arith) (omega (arith, length-set ws i v))

-- none of the first i, where none was counted
abbrev pub Found : List ℕ → ℕ → ℕ → Type 0
Found ws i found = (found ≤ i) × (found ≡ 0 → (k : ℕ) → k < i → subnormal 23 8 (get_or ws k 0) ≡ 0)

pub few_subnormal : (w : ℕ) → subnormal 23 8 w < 2
unfolding subnormal
few_subnormal w = cond_lt (eqb (magnitude 23 8 w) 0) 0 (cond (ltb (magnitude 23 8 w) (2 ^ 23)) 1 0) 2 (omega arith) (cond_lt (ltb (magnitude 23 8 w) (2 ^ 23)) 1 0 2 (omega arith) (omega arith))

pub found_turn : (ws : List ℕ) (i found r : ℕ) → r ≡ subnormal 23 8 (get_or ws i 0) → Found ws i found → Found ws (i + 1) (found + r)
found_turn ws i found r e h = (omega (arith, h.0, e, few_subnormal (get_or ws i 0)), λ z k l. go z k l (ℕ_discrete k i))
  where
    go : found + r ≡ 0 → (k : ℕ) → k < i + 1 → Dec (k ≡ i) → subnormal 23 8 (get_or ws k 0) ≡ 0
    go z k l (yes d) = rw (d, ← e) (omega arith)
    go z k l (no d) = h.1 (omega arith) k (omega arith)
