use Rattle.std.proofs.Common.{arith, rules, ◌+◌, ◌-◌, ◌*◌, w32}
use Rattle.std.proofs.lemmas.Int.{to_z-of_z}
use Rattle.listing.proofs.Series.{series_start, answer_room, part_small, part_turn, series_done}
use Rattle.listing.proofs.trim_series.Goals as goal

pub loop-j-init : goal.loop-j-init
loop-j-init c = let h = c.requires in series_start _ _ _ _ _ _ _ h.0 h.1 (search rules) h.2

pub put_answer-p-requires : goal.put_answer-p-requires
put_answer-p-requires c =
    let x = c.loop-j.invariant in
    let m = c.args.job.text.lines in
    let z = c.args.job.text.job.setting in
    let answer = simp (to_z-of_z w32 z (search rules)) at c.trim_singles-answer.ensures.answer in
    record { small = part_small _ _ _ _ _ _ _ _ _ _ _ x c.loop-j-test.true (512 * c.loop-j.j + m - 512 * c.loop-j.j) (omega arith) _ answer; at_in_bounds = answer_room _ _ _ _ _ _ _ _ _ _ _ x c.loop-j-test.true }

pub loop-j-preserved : goal.loop-j-preserved
loop-j-preserved c =
    let x = c.loop-j.invariant in
    let m = c.args.job.text.lines in
    let z = c.args.job.text.job.setting in
    let t = c.trim_singles-answer in
    let answer = simp (to_z-of_z w32 z (search rules)) at t.ensures.answer in
    let content = simp (to_z-of_z w32 z (search rules)) at t.ensures.content in
    part_turn _ _ _ _ _ _ _ _ _ _ _ x c.loop-j-test.true (512 * c.loop-j.j + m - 512 * c.loop-j.j) (omega arith) _ answer _ (search rules) content _ _ (c.put_answer-p.ensures.value, c.put_answer-p.ensures.out_after)

pub returns : goal.returns
returns c =
    let d = series_done _ _ _ _ _ _ _ _ _ _ _ c.loop-j.invariant c.loop-j-test.false _ c.number-number.ensures in
    record { work = d.0; answer = d.1; counts = d.2; short = d.3 }
