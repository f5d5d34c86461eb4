-- Refused or accepted, by the laws of `Calls`.
use Rattle.std.proofs.Common.{◌∙◌, ap, ℤ, w32, refl}
use Rattle.std.proofs.lemmas.Int.{to_z-of_z}
use Rattle.std.proofs.lemmas.Result.{err_from_is_err_and}
use Rattle.meaning.specs.Questions.{accepted}
use Rattle.meaning.specs.Planes.{readings}
use Rattle.asking.specs.Asked.{refusal_of}
use Rattle.method.specs.Kinds.{number_of}
use Rattle.loops.specs.Tallies.{totals_of}
use Rattle.trim.proofs.Calls.{single_fitting}
use Rattle.planes.proofs.Calls.{refused_early, refused_late, accepted_planes}
use Rattle.planes.proofs.trim_planes_singles.Goals as goal

pub returns-in_err-asked : goal.returns-in_err-asked
returns-in_err-asked c =
    let p = err_from_is_err_and c.from_residual.result c.from_residual.ensures.1 in
    let a = c.in_err-asked.ensures in
    let e = a.refusal ∙ ap (λ (z : ℤ). refusal_of 23 8 c.args.method z) (to_z-of_z w32 c.args.setting c.ranges.setting) in
    let it = refused_early 4 23 8 c.args.method c.args.setting c.args.mark c.args.n c.args.planes.now c.in_err-asked.field-0.0 e in
    rw (p.1, p.2) record { answer = it.0; content = it.1 }

pub returns-in_err-ask_planes : goal.returns-in_err-ask_planes
returns-in_err-ask_planes c =
    let p = err_from_is_err_and c.from_residual-in_err-ask_planes.result c.from_residual-in_err-ask_planes.ensures.1 in
    let a = c.in_ok-asked.ensures in
    let e = simp (to_z-of_z w32 c.args.setting c.ranges.setting) at a.refusal in
    let m = simp (to_z-of_z w32 c.args.setting c.ranges.setting) at a.number in
    let it = refused_late 4 23 8 c.args.method c.args.setting c.args.mark c.args.n c.args.planes.now c.args.method c.in_ok-asked.asked.number refl e m c.in_err-ask_planes.ensures.1 in
    rw (p.1, p.2, c.in_err-ask_planes.ensures.0) record { answer = it.0; content = it.1 }

pub method_singles-sums-requires : goal.method_singles-sums-requires
method_singles-sums-requires c =
    let a = c.in_ok-asked.ensures in
    let e = simp (to_z-of_z w32 c.args.setting c.ranges.setting) at a.refusal in
    let m = simp (to_z-of_z w32 c.args.setting c.ranges.setting) at a.number in
    (single_fitting c.args.method c.args.setting (number_of c.in_ok-asked.asked.method) c.in_ok-asked.asked.number a.method e m, c.in_ok-ask_planes.ensures)

pub returns : goal.returns
returns c =
    let a = c.in_ok-asked.ensures in
    let e = simp (to_z-of_z w32 c.args.setting c.ranges.setting) at a.refusal in
    let m = simp (to_z-of_z w32 c.args.setting c.ranges.setting) at a.number in
    let sums = c.method_singles-sums in
    let call = accepted_planes 4 23 8 c.args.method c.args.setting c.args.mark c.args.n c.args.planes.now (number_of c.in_ok-asked.asked.method) c.in_ok-asked.asked.number a.method e m
    c.in_ok-ask_planes.ensures (totals_of sums.result) sums.ensures.sums sums.new.planes sums.ensures.content in
    record { answer = ap accepted c.from.ensures ∙ call.0; content = call.1 }
