-- Refused or accepted, by the laws of `Calls`.
use Rattle.std.proofs.Common.{◌∙◌, ap, ℤ, w32, arith}
use Rattle.std.proofs.lemmas.Int.{to_z-of_z}
use Rattle.std.proofs.lemmas.List.{map-id}
use Rattle.std.proofs.lemmas.Result.{err_from_is_err_and}
use Rattle.meaning.specs.Questions.{accepted}
use Rattle.asking.specs.Asked.{refusal_of}
use Rattle.beyond.proofs.Calls.{lengths_refused, limit_refused, in_range, double_limit}
use Rattle.beyond.proofs.first_beyond_doubles.Goals as goal

pub returns-in_err-ask_lengths : goal.returns-in_err-ask_lengths
returns-in_err-ask_lengths c =
    let p = err_from_is_err_and c.from_residual.result c.from_residual.ensures.1 in
    rw (p.1, p.2, c.in_err-ask_lengths.ensures.0) (lengths_refused 52 11 c.args.mark c.args.p c.args.raw.now c.args.trimmed.now c.in_err-ask_lengths.ensures.1)

pub returns-in_err-asked : goal.returns-in_err-asked
returns-in_err-asked c =
    let p = err_from_is_err_and c.from_residual-in_err-asked.result c.from_residual-in_err-asked.ensures.1 in
    let e = rw c.number.ensures at c.in_err-asked.ensures.refusal in
    rw (p.1, p.2) (limit_refused 52 11 c.args.mark c.args.p c.args.raw.now c.args.trimmed.now c.in_ok-ask_lengths.ensures c.in_err-asked.field-0.0
    (e ∙ ap (λ (z : ℤ). refusal_of 52 11 5 z) (to_z-of_z w32 c.args.p c.ranges.p)))

pub first_beyond-requires : goal.first_beyond-requires
first_beyond-requires c =
    let a = rw (c.number.ensures, to_z-of_z w32 c.args.p c.ranges.p) at c.in_ok-asked.ensures.refusal in
    let b = rw (c.number.ensures, to_z-of_z w32 c.args.p c.ranges.p) at c.in_ok-asked.ensures.number in
    (c.in_ok-ask_lengths.ensures, omega (arith, double_limit c.args.p c.in_ok-asked.asked.number a b))

pub returns : goal.returns
returns c =
    let a = rw (c.number.ensures, to_z-of_z w32 c.args.p c.ranges.p) at c.in_ok-asked.ensures.refusal in
    let b = rw (c.number.ensures, to_z-of_z w32 c.args.p c.ranges.p) at c.in_ok-asked.ensures.number in
    let found = rw (map-id c.args.raw.now, map-id c.args.trimmed.now) at c.first_beyond.ensures in
    ap accepted found ∙ in_range 52 11 c.args.mark c.args.p c.args.raw.now c.args.trimmed.now c.in_ok-ask_lengths.ensures c.in_ok-asked.asked.number a b
