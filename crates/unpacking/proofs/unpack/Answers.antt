-- `unpack` meets its contract: the questions' numbers tell a refused call, and in an accepted one all layers are unpacked.
use mathlib.Core.Path.{sym, ap, ◌∙◌}
use borrow.Author.Rules.{rules}
use Rattle.std.proofs.lemmas.Result.{err_from_is_err_and}
use Rattle.meaning.specs.Questions.{refused}
use Rattle.asking_layers.proofs.Layers.{number_not_0}
use Rattle.unpacking.proofs.Calls.{refused_layers, refused_values, refused_codes, accepted_call, known, in_layers}
use Rattle.unpacking.proofs.unpack.Goals as goal

pub returns-in_err-ask_layers : goal.returns-in_err-ask_layers
returns-in_err-ask_layers c =
    let s = c.args in
    let e = c.in_err-ask_layers.ensures in
    let p = err_from_is_err_and c.from_residual.result c.from_residual.ensures.1 in
    let it =
    refused_layers s.mark s.length s.widths.now s.codes.now s.references.now s.exponents.now s.readings.now (λ i. search rules) (λ z. number_not_0 _ (e ∙ z)) in
    rw (p.1, p.2) (record { answer = ap refused e ∙ it.0; content = it.1 })

pub returns-in_err-ask_values : goal.returns-in_err-ask_values
returns-in_err-ask_values c =
    let s = c.args in
    let e = c.in_err-ask_values.ensures in
    let p = err_from_is_err_and c.from_residual-in_err-ask_values.result c.from_residual-in_err-ask_values.ensures.1 in
    let it =
    refused_values s.mark s.length s.widths.now s.codes.now s.references.now s.exponents.now s.readings.now (λ i. search rules) (sym c.in_ok-ask_layers.ensures) (λ z. number_not_0 _ (e ∙ z)) in
    rw (p.1, p.2) (record { answer = ap refused e ∙ it.0; content = it.1 })

pub all_known-requires : goal.all_known-requires
all_known-requires c =
    let s = c.args in
    in_layers s.mark s.length s.widths.now s.codes.now s.references.now s.exponents.now s.readings.now (λ i. search rules) (sym c.in_ok-ask_layers.ensures) (sym c.in_ok-ask_values.ensures)

pub returns-then-not-all_known : goal.returns-then-not-all_known
returns-then-not-all_known c =
    let s = c.args in
    let it =
    refused_codes s.mark s.length s.widths.now s.codes.now s.references.now s.exponents.now s.readings.now (λ i. search rules)
    (sym c.in_ok-ask_layers.ensures) (sym c.in_ok-ask_values.ensures) (sym c.all_known.ensures ∙ c.if-not-all_known.true) in
    record { answer = it.0; content = it.1 }

pub unpack_layers-requires : goal.unpack_layers-requires
unpack_layers-requires c =
    let s = c.args in
    known s.mark s.length s.widths.now s.codes.now s.references.now s.exponents.now s.readings.now (λ i. search rules) (sym c.in_ok-ask_layers.ensures) (sym c.in_ok-ask_values.ensures)

pub returns : goal.returns
returns c =
    let s = c.args in
    let it =
    accepted_call s.mark s.length s.widths.now s.codes.now s.references.now s.exponents.now s.readings.now (λ i. search rules)
    (sym c.in_ok-ask_layers.ensures) (sym c.in_ok-ask_values.ensures) (sym c.all_known.ensures ∙ c.if-not-all_known.false) in
    record { answer = it.0; content = c.unpack_layers.ensures ∙ it.1 }
