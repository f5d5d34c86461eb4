use mathlib.Core.Path.{sym, ap, ◌∙◌}
use Rattle.std.proofs.lemmas.Result.{err_from_is_err_and}
use Rattle.meaning.specs.Questions.{refused}
use Rattle.asking_layers.proofs.Layers.{number_not_0}
use Rattle.packing.proofs.Asked.{wrong_length, wrong_reading, fit, packable, acceptance}
use Rattle.packing.proofs.pack.Goals as goal

pub returns-in_err-ask_layers : goal.returns-in_err-ask_layers
returns-in_err-ask_layers c =
    let s = c.args in
    let e = c.in_err-ask_layers.ensures in
    let p = err_from_is_err_and c.from_residual.result c.from_residual.ensures.1 in
    let w = wrong_length _ _ _ _ s.codes.now s.references.now s.exponents.now (λ z. number_not_0 _ (e ∙ z)) in
    rw (p.1, p.2) (record { answer = ap refused e ∙ w.answer; codes = w.codes; references = w.references; exponents = w.exponents })

pub pack_layers-requires : goal.pack_layers-requires
pack_layers-requires c =
    let s = c.args in
    let h = sym c.in_ok-ask_layers.ensures in
    let g = sym c.each_packable.ensures ∙ c.if-not-each_packable.false in
    record {
      fit = fit s.mark s.length s.widths.now s.readings.now s.codes.now s.references.now s.exponents.now h;
      packable = packable s.mark s.length s.widths.now s.readings.now s.codes.now s.references.now s.exponents.now h g;
    }

pub returns-then-not-each_packable : goal.returns-then-not-each_packable
returns-then-not-each_packable c =
    let s = c.args in
    let w = wrong_reading _ _ _ _ s.codes.now s.references.now s.exponents.now (sym c.in_ok-ask_layers.ensures) (sym c.each_packable.ensures ∙ c.if-not-each_packable.true) in
    record { answer = w.answer; codes = w.codes; references = w.references; exponents = w.exponents }

pub returns : goal.returns
returns c =
    let s = c.args in
    let a = acceptance _ _ _ _ s.codes.now s.references.now s.exponents.now (sym c.in_ok-ask_layers.ensures) (sym c.each_packable.ensures ∙ c.if-not-each_packable.false) in
    let p = c.pack_layers.ensures in
    record { answer = a.answer; codes = p.codes ∙ a.codes; references = p.references ∙ a.references; exponents = p.exponents ∙ a.exponents }
