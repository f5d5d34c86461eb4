-- The estimate is the place or the one before it, and the test of the entry after it says which.
use native.Mathlib.Omega.{arith}
use Prim.Native.Nat.{ℕ, ◌+◌, ◌/◌, ◌^◌, ◌≤◌, ◌<◌}
use mathlib.Core.List.{List}
use mathlib.Core.Path.{subst}
use lib.ListN.{get_or}
use Rattle.powers.specs.Table.{powers}
use Rattle.digit_tails.proofs.Decades.{estimate, estimate_low, estimate_high, place_decade}
use Rattle.digit_tails.proofs.decade_place.Goals as goal

pub subnormal_place-requires : goal.subnormal_place-requires
subnormal_place-requires c = (c.requires.0, omega arith, c.requires.2)

pub returns-then-e-eq0 : goal.returns-then-e-eq0
returns-then-e-eq0 c = c.subnormal_place.ensures

pub returns-then-table-r : goal.returns-then-table-r
returns-then-table-r c =
    let m = c.args.m in
    let r = estimate (m / 2 ^ 52) in
    let taken : get_or powers (r + 1) 0 ≤ m = subst (λ (l : List ℕ). get_or l (r + 1) 0 ≤ m) c.requires.2 c.if-table-r.true in
    let within : r + 1 ≤ 632 = omega arith in
    let under : r + 1 < 632 → m < get_or powers (r + 1 + 1) 0 = λ h. estimate_high m (r + 1 + 1) (omega arith) (omega arith) in
    (within, place_decade m (r + 1) c.requires.0 c.requires.1 (record { within = within; reaches = taken; under = under }))

pub returns : goal.returns
returns c =
    let m = c.args.m in
    let r = estimate (m / 2 ^ 52) in
    let left : m < get_or powers (r + 1) 0 = subst (λ (l : List ℕ). m < get_or l (r + 1) 0) c.requires.2 c.if-table-r.false in
    let within : r ≤ 632 = omega arith in
    (within, place_decade m r c.requires.0 c.requires.1 (record { within = within; reaches = estimate_low m (omega arith) c.requires.1; under = λ _. left }))
