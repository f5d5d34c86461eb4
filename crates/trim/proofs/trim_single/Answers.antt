-- Refused or accepted, by the laws of `Loader`.
use Rattle.std.proofs.Common.{◌∙◌, ap, ap₂, ℕ, ◌+◌, w32}
use Rattle.std.proofs.lemmas.Int.{to_z-of_z}
use Rattle.method.specs.Kinds.{number_of}
use Rattle.reading.specs.Words.{settled_of}
use Rattle.trim.proofs.Calls.{single_fitting}
use Rattle.trim.proofs.Loader.{refused_loader, one_few, accepted_loader}
use Rattle.trim.proofs.trim_single.Goals as goal

pub returns-in-Err : goal.returns-in-Err
returns-in-Err c =
    let e = simp (to_z-of_z w32 c.args.setting c.ranges.setting) at (c.in-Err.ensures.refusal) in
    ap (λ (k : ℕ). 4294967296 + k) (c.from.ensures ∙ c.number.ensures)
    ∙ refused_loader c.args.method c.args.setting c.args.mark c.args.turn c.args.x c.in-Err.refusal e

pub one_by_method-one-requires : goal.one_by_method-one-requires
one_by_method-one-requires c =
    let a = c.in-Ok.ensures in
    let e = simp (to_z-of_z w32 c.args.setting c.ranges.setting) at a.refusal in
    let m = simp (to_z-of_z w32 c.args.setting c.ranges.setting) at a.number in
    single_fitting c.args.method c.args.setting (number_of c.in-Ok.asked.method) c.in-Ok.asked.number a.method e m

pub gain-requires : goal.gain-requires
gain-requires c =
    let a = c.in-Ok.ensures in
    let e = simp (to_z-of_z w32 c.args.setting c.ranges.setting) at a.refusal in
    let m = simp (to_z-of_z w32 c.args.setting c.ranges.setting) at a.number in
    one_few c.args.method c.args.setting c.args.mark c.args.turn c.args.x (number_of c.in-Ok.asked.method) c.in-Ok.asked.number a.method e m (settled_of c.one_by_method-one.result) c.one_by_method-one.ensures

pub returns : goal.returns
returns c =
    let a = c.in-Ok.ensures in
    let e = simp (to_z-of_z w32 c.args.setting c.ranges.setting) at a.refusal in
    let m = simp (to_z-of_z w32 c.args.setting c.ranges.setting) at a.number in
    ap₂ (λ (p g : ℕ). p + g) c.from-2.ensures c.gain.ensures.value
    ∙ accepted_loader c.args.method c.args.setting c.args.mark c.args.turn c.args.x (number_of c.in-Ok.asked.method) c.in-Ok.asked.number a.method e m (settled_of c.one_by_method-one.result) c.one_by_method-one.ensures
