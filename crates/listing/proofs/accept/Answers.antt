use Rattle.std.proofs.Common.{rules, ◌≡◌, ◌∙◌, sym, ap, subst, w32}
use Rattle.std.proofs.lemmas.Int.{to_z-of_z}
use Rattle.std.proofs.lemmas.Result.{err_from_is_err_and}
use Rattle.refusal.specs.declared.Refusal.TheVariants.{TextNotOfTheForm, MethodUnknown}
use Rattle.asking.proofs.Answers.{never_zero}
use Rattle.text_in.specs.Places.{TextRead}
use Rattle.method_word.specs.Words.{named_number}
use Rattle.listing.proofs.Whole.{wrong_listed, unknown_is, refused_listed}
use Rattle.listing.proofs.accept.Goals as goal

pub returns-in_err-text : goal.returns-in_err-text
returns-in_err-text c =
    let p = err_from_is_err_and c.from_residual.result c.from_residual.ensures.1 in
    let f : c.in_err-text.field-0.0 ≡ TextNotOfTheForm = search (rules, c.in_err-text.ensures) in
    rw (p.1, p.2, f) (wrong_listed c.args.input.now (subst (TextRead c.args.input.now c.read_text.new.work) c.in_err-text.ensures.ok_part c.read_text.ensures))

pub returns-in_err-method : goal.returns-in_err-method
returns-in_err-method c =
    let p = err_from_is_err_and c.from_residual-in_err-method.result c.from_residual-in_err-method.ensures.1 in
    let f : c.in_err-method.field-0.0 ≡ MethodUnknown = search (rules, c.in_err-method.ensures) in
    let x = subst (TextRead c.args.input.now c.read_text.new.work) c.in_ok-text.ensures.ok_part c.read_text.ensures in
    let unknown = ap named_number (sym c.in_err-method.ensures.ok_part) ∙ c.method_of.ensures in
    rw (p.1, p.2, f) (refused_listed _ _ _ _ _ _ _ _ _ x 7 unknown 1 (unknown_is c.in_ok-text.text.job.setting) (never_zero MethodUnknown))

pub returns-in_err-ask_single : goal.returns-in_err-ask_single
returns-in_err-ask_single c =
    let p = err_from_is_err_and c.from_residual-in_err-ask_single.result c.from_residual-in_err-ask_single.ensures.1 in
    let x = subst (TextRead c.args.input.now c.read_text.new.work) c.in_ok-text.ensures.ok_part c.read_text.ensures in
    let known = c.number-number.ensures ∙ ap named_number (sym c.in_ok-method.ensures.ok_part) ∙ c.method_of.ensures in
    let asked = simp (to_z-of_z w32 c.in_ok-text.text.job.setting (search rules)) at c.in_err-ask_single.ensures.refusal in
    rw (p.1, p.2) (refused_listed _ _ _ _ _ _ _ _ _ x _ known _ asked (never_zero _))
