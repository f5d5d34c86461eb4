-- The power after the place stays above m. The first entry is 1, so the walk down ends before the front.
use native.Mathlib.Omega.{arith}
use Prim.Native.Nat.{ℕ, zero, suc, ◌+◌, ◌-◌, ◌≤◌, ◌<◌}
use mathlib.Core.List.{List}
use mathlib.Core.Path.{◌≡◌, subst}
use lib.ListN.{get_or}
use Rattle.powers.specs.Table.{powers}
use Rattle.digit_tails.proofs.Decades.{place_decade}
use Rattle.digit_tails.proofs.subnormal_place.Goals as goal

not_first : (m r : ℕ) (t : List ℕ) → 0 < m → t ≡ powers → m < get_or t r 0 → (1 ≤ r) × (m < get_or powers (r - 1 + 1) 0)
not_first m r t p e l = go r (subst (λ (xs : List ℕ). m < get_or xs r 0) e l)
  where
    go : (s : ℕ) → m < get_or powers s 0 → (1 ≤ s) × (m < get_or powers (s - 1 + 1) 0)
    go zero h = absurd (omega arith)
    go (suc s) h = let e : suc s ≡ suc s - 1 + 1 = omega arith in (omega arith, subst (λ (i : ℕ). m < get_or powers i 0) e h)

above : (c : goal.In-loop-r) → (1 ≤ c.loop-r.r) × (c.args.m < get_or powers (c.loop-r.r - 1 + 1) 0)
above c = not_first c.args.m c.loop-r.r c.args.table.now c.requires.0 c.requires.2 c.loop-r-test.true

pub overflow_sub-r : goal.overflow_sub-r
overflow_sub-r c = (above c).0

pub loop-r-smaller : goal.loop-r-smaller
loop-r-smaller c = omega (arith, (above c).0)

pub loop-r-preserved : goal.loop-r-preserved
loop-r-preserved c = (omega arith, (above c).1)

pub returns : goal.returns
returns c =
    let r = c.loop-r.r in
    let left : get_or powers r 0 ≤ c.args.m = subst (λ (l : List ℕ). get_or l r 0 ≤ c.args.m) c.requires.2 c.loop-r-test.false in
    (omega arith, place_decade c.args.m r c.requires.0 (omega arith) (record { within = omega arith; reaches = left; under = λ _. c.loop-r.invariant.1 }))
