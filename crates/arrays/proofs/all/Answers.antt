-- Part after part, by the walk's laws.
use Rattle.std.proofs.Common.{◌≡◌, ◌+◌, ◌-◌, ◌*◌, length, min, take, drop, arith}
use mathlib.Core.List.{map}
use Rattle.std.proofs.lemmas.List.{length-map}
use Rattle.loops.proofs.Tallies.{one_by, few_wider}
use Rattle.loops.proofs.Walks.{begin, end}
use Rattle.loops.proofs.Words.{few_part_at, part_at}
use Rattle.loops.proofs.Methods.{stays_at}
use Rattle.arrays.proofs.all.Goals as goal

pub loop-part-init : goal.loop-part-init
loop-part-init g c =
    let zero : min 0 (length c.args.readings.now) ≡ 0 = omega arith in
    rw zero (begin (λ s w. one_by g.W.Word.FRACTION g.W.Word.EXPONENT _ _ 0 w) c.new-totals.ensures)

pub join-totals-requires : goal.join-totals-requires
join-totals-requires g c =
    let at = c.loop-part in
    let a = at.part * 65536 in
    let k = a + c.min.result - a in
    let here : min a (length c.args.readings.now) ≡ a = omega (arith, c.div_ceil-part-end.ensures) in
    few_wider _ (a + k) 0xffff_ffff_ffff_ffff (omega (arith, c.div_ceil-part-end.ensures)) (few_part_at g.W.Word.value at.readings (rw here at at.invariant) k (omega (arith, c.div_ceil-part-end.ensures)) c.plain-sums.ensures.sums)

pub loop-part-preserved : goal.loop-part-preserved
loop-part-preserved g c =
    let at = c.loop-part in
    let a = at.part * 65536 in
    let k = a + c.min.result - a in
    let here : min a (length c.args.readings.now) ≡ a = omega (arith, c.div_ceil-part-end.ensures) in
    let ws = map g.W.Word.value (take k (drop a at.readings)) in
    part_at g.W.Word.value at.readings (rw here at at.invariant) k (omega (arith, c.div_ceil-part-end.ensures)) _ (omega (arith, c.div_ceil-part-end.ensures)) c.plain-sums.ensures.content c.plain-sums.ensures.sums c.join-totals.ensures (stays_at 0 ws (length ws))

pub returns : goal.returns
returns g c =
    let it = end c.loop-part.invariant (simp length-map (omega (arith, c.div_ceil-part-end.ensures))) in
    record { sums = it.0; content = it.1 }
