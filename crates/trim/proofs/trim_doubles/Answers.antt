-- Refused or accepted, by the laws of `Calls`.
use Rattle.std.proofs.Common.{◌∙◌, ap, ℤ, w32}
use Rattle.std.proofs.lemmas.Int.{to_z-of_z}
use Rattle.std.proofs.lemmas.Result.{err_from_is_err_and}
use Rattle.meaning.specs.Questions.{accepted}
use Rattle.asking.specs.Asked.{refusal_of}
use Rattle.method.specs.Kinds.{number_of}
use Rattle.loops.specs.Tallies.{totals_of}
use Rattle.arrays.proofs.Outcomes.{of_numbers}
use Rattle.trim.proofs.Calls.{refused_call, double_fitting, accepted_call}
use Rattle.trim.proofs.trim_doubles.Goals as goal

pub returns-in_err-asked : goal.returns-in_err-asked
returns-in_err-asked c =
    let p = err_from_is_err_and c.from_residual.result c.from_residual.ensures.1 in
    let a = c.in_err-asked.ensures in
    let e = a.refusal ∙ ap (λ (z : ℤ). refusal_of 52 11 c.args.method z) (to_z-of_z w32 c.args.setting c.ranges.setting) in
    let it = refused_call 52 11 c.args.method c.args.setting c.args.mark c.args.readings.now c.in_err-asked.field-0.0 e in
    rw (p.1, p.2) record { answer = it.0; content = it.1 }

pub by_method-sums-requires : goal.by_method-sums-requires
by_method-sums-requires c =
    let a = c.in_ok-asked.ensures in
    let e = simp (to_z-of_z w32 c.args.setting c.ranges.setting) at a.refusal in
    let m = simp (to_z-of_z w32 c.args.setting c.ranges.setting) at a.number in
    double_fitting c.args.method c.args.setting (number_of c.in_ok-asked.asked.method) c.in_ok-asked.asked.number a.method e m

pub returns : goal.returns
returns c =
    let a = c.in_ok-asked.ensures in
    let e = simp (to_z-of_z w32 c.args.setting c.ranges.setting) at a.refusal in
    let m = simp (to_z-of_z w32 c.args.setting c.ranges.setting) at a.number in
    let sums = c.by_method-sums in
    let call = accepted_call 52 11 c.args.method c.args.setting (number_of c.in_ok-asked.asked.method) c.in_ok-asked.asked.number a.method e m
    c.args.mark c.args.readings.now (totals_of sums.result) (of_numbers sums.ensures).0 sums.new.readings (of_numbers sums.ensures).1 in
    record { answer = ap accepted c.from.ensures ∙ call.0; content = call.1 }
