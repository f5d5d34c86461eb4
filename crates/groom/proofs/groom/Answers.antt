-- Block after block, by the walk's laws.
use mathlib.Core.Path.{◌≡◌, sym, ap, ◌∙◌, subst}
use mathlib.Core.List.{map}
use Prim.Native.Nat.{min, ◌+◌, ◌-◌, ◌*◌, ◌≤◌}
use native.Mathlib.Omega.{arith}
use lib.ListN.{length, take, drop}
use Rattle.std.proofs.lemmas.List.{length-map}
use Rattle.loops.specs.Walk.{state_at}
use Rattle.loops.specs.Methods.{Filling}
use Rattle.loops.proofs.Tallies.{one_tail, few_wider}
use Rattle.loops.proofs.Walks.{begin, end, end_state}
use Rattle.loops.proofs.Words.{part_at, few_part_at}
use Rattle.loops.proofs.Turns.{states_two}
use Rattle.groom.proofs.Words.{walk_at}
use Rattle.groom.proofs.groom.Goals as goal

pub loop-b-init : goal.loop-b-init
loop-b-init g c =
    let start : 0 ≡ min (0 * 16384) (length c.args.readings.now) = omega arith in
    (walk_at start (begin (λ s w. one_tail g.W.Word.FRACTION g.W.Word.EXPONENT _ s _ w) c.new-sums.ensures), c.requires.1)

pub join-sums-requires : goal.join-sums-requires
join-sums-requires g c =
    let at = c.loop-b in
    let value = g.W.Word.value in
    let start = at.b * 16384 in
    let k = start + c.min.result - start in
    let starts : min start (length c.args.readings.now) ≡ start = omega (arith, c.div_ceil-b-end.ensures) in
    few_wider _ (start + k) 0xffff_ffff_ffff_ffff (omega (arith, c.min.ensures))
    (few_part_at value at.readings (walk_at starts at.invariant.0) k
    (omega (arith, c.min.ensures, at.invariant.0.same, length-map at.readings value, length-map c.args.readings.now value, c.div_ceil-b-end.ensures)) c.groom_block-block.ensures.sums)

pub loop-b-preserved : goal.loop-b-preserved
loop-b-preserved g c =
    let s = c.args in
    let at = c.loop-b in
    let value = g.W.Word.value in
    let r = c.groom_block-block in
    let start = at.b * 16384 in
    let k = start + c.min.result - start in
    let starts : min start (length s.readings.now) ≡ start = omega (arith, c.div_ceil-b-end.ensures) in
    let block = take k (drop start at.readings) in
    let to : start + k ≡ min ((at.b + 1) * 16384) (length s.readings.now) = omega (arith, c.min.ensures, c.div_ceil-b-end.ensures) in (
      part_at value at.readings (walk_at starts at.invariant.0) k
          (omega (arith, c.min.ensures, at.invariant.0.same, length-map at.readings value, length-map s.readings.now value, c.div_ceil-b-end.ensures)) r.new.block to
          r.ensures.content r.ensures.sums c.join-sums.ensures (r.ensures.add ∙ ap (state_at _ _ (map value block)) (sym (length-map block value))),
      subst (Filling (value s.tail.ones)) (sym r.ensures.add) (states_two g.W.Word.FRACTION g.W.Word.EXPONENT (value s.mark) (value s.tail.ones) (value at.add) at.invariant.1 (map value block) (length block)),
    )

pub returns : goal.returns
returns g c =
    let value = g.W.Word.value in
    let at = c.loop-b in
    let long : length (map value at.readings) ≤ min (at.b * 16384) (length c.args.readings.now) =
    omega (arith, c.div_ceil-b-end.ensures, at.invariant.0.same, length-map c.args.readings.now value) in
    let done = end at.invariant.0 long in
    record { sums = done.0; add = end_state at.invariant.0 long ∙ ap (state_at _ _ _) (length-map c.args.readings.now value); content = done.1 }
