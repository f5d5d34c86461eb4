-- `gather` meets its contract: two turns of four places at a time, and the last seven places at most.
use borrow.Author.Rules.{rules}
use mathlib.Core.Path.{◌≡◌, refl}
use Prim.Native.Nat.{◌+◌}
use native.Mathlib.Omega.{arith}
use Rattle.totals.proofs.Gathering.{start, room, turned, end}
use Rattle.totals.proofs.gather.Goals as goal

pub loop-i-init : goal.loop-i-init
loop-i-init c = (search rules, search rules, start _ _ _ refl refl refl refl)

pub add_four-lanes-requires : goal.add_four-lanes-requires
add_four-lanes-requires c = record { room = room _ _ _ _ (omega arith) c.loop-i.invariant.2; i_in_bounds = omega arith }

pub add_four-lanes-requires-in-loop-i : goal.add_four-lanes-requires-in-loop-i
add_four-lanes-requires-in-loop-i c = record { room = room _ _ _ _ (omega arith) (turned c.args.missing c.args.codes.now (omega arith) (λ i. search rules) c.loop-i.i c.loop-i.lanes _ c.add_four-lanes.ensures c.loop-i.invariant.2); i_in_bounds = omega arith }

pub loop-i-preserved : goal.loop-i-preserved
loop-i-preserved c =
    let m = c.args.missing in
    let xs = c.args.codes.now in
    let first = turned m xs (omega arith) (λ i. search rules) c.loop-i.i c.loop-i.lanes _ c.add_four-lanes.ensures c.loop-i.invariant.2 in
    let e : c.loop-i.i + 4 + 4 ≡ c.onward-i.result = omega arith in (
      omega arith,
      omega arith,
      rw (← e) (turned m xs (omega arith) (λ i. search rules) (c.loop-i.i + 4) _ _ c.add_four-lanes-in-loop-i.ensures first),
    )

pub add_last-lanes-requires : goal.add_last-lanes-requires
add_last-lanes-requires c = record { room = room _ _ _ _ (omega arith) c.loop-i.invariant.2; i_bound = omega arith }

pub add_last-requires : goal.add_last-requires
add_last-requires c = record { room = room _ _ _ _ (omega arith) (turned c.args.missing c.args.codes.now (omega arith) (λ i. search rules) c.loop-i.i c.loop-i.lanes _ c.add_last-lanes.ensures c.loop-i.invariant.2); i_bound = omega arith }

pub returns : goal.returns
returns c =
    let m = c.args.missing in
    let xs = c.args.codes.now in
    let first = turned m xs (omega arith) (λ i. search rules) c.loop-i.i c.loop-i.lanes _ c.add_last-lanes.ensures c.loop-i.invariant.2 in
    end m xs (c.loop-i.i + 4 + 4) c.add_last.result (omega arith) (turned m xs (omega arith) (λ i. search rules) (c.loop-i.i + 4) _ _ c.add_last.ensures first)
