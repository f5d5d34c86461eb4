-- One answer for each question, by the laws of `Answers`.
use Rattle.std.proofs.Common.{rules, ◌≡◌, ◌∙◌, sym, ℕ, ◌<◌, w32}
use Rattle.std.proofs.lemmas.Int.{to_z-of_z}
use Rattle.std.proofs.lemmas.Result.{err_from_is_err_and}
use Rattle.method.specs.Kinds.{number_of as method_number}
use Rattle.refusal.specs.declared.Refusal.TheVariants.{MethodUnknown, SettingOutOfRange}
use Rattle.asking.specs.Asked.{limits_of}
use Rattle.asking.proofs.Answers.{method_unknown, out_of_range, asked_is}
use Rattle.asking.proofs.ask.Goals as goal

pub returns-in_err-method : goal.returns-in_err-method
returns-in_err-method c =
    let p = err_from_is_err_and c.from_residual.result c.from_residual.ensures.1 in
    let x : (c.in_err-method.field-0.0 ≡ MethodUnknown) × (6 < c.args.method) = search (rules, c.in_err-method.ensures) in
    rw (p.1, p.2, x.0) record {
      refusal = λ F X e. (method_unknown F X c.args.method c.args.setting x.1).0;
      number = λ F X e. (method_unknown F X c.args.method c.args.setting x.1).1;
      method = tt;
    }

pub returns-in_err-number : goal.returns-in_err-number
returns-in_err-number c =
    let p = err_from_is_err_and c.from_residual-in_err-number.result c.from_residual-in_err-number.ensures.1 in
    let x : c.in_err-number.field-0.0 ≡ SettingOutOfRange = search (rules, c.in_err-number.ensures) in
    let m : method_number c.in_ok-method.method ≡ c.args.method = search (rules, c.in_ok-method.ensures) in
    let it = λ (F X : ℕ) (e : c.args.limits ≡ limits_of F X).
    let n = simp (to_z-of_z w32 c.args.setting c.ranges.setting) at (c.natural.ensures F X e) in
    out_of_range F X c.args.method c.args.setting c.in_ok-method.method m (sym c.in_err-number.ensures.ok_part ∙ n) in
    rw (p.1, p.2, x) record { refusal = λ F X e. (it F X e).0; number = λ F X e. (it F X e).1; method = tt }

pub returns : goal.returns
returns c =
    let m : method_number c.in_ok-method.method ≡ c.args.method = search (rules, c.in_ok-method.ensures) in
    let it = λ (F X : ℕ) (e : c.args.limits ≡ limits_of F X).
    let n = simp (to_z-of_z w32 c.args.setting c.ranges.setting) at (c.natural.ensures F X e) in
    asked_is F X c.args.method c.args.setting c.in_ok-method.method c.in_ok-number.number m (sym c.in_ok-number.ensures.ok_part ∙ n) in
    record { refusal = λ F X e. (it F X e).0; number = λ F X e. (it F X e).1; method = m }
