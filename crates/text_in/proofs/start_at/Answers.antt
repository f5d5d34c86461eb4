use Rattle.std.proofs.Common.{arith, rules, ℤ, sym, subst}
use mir.Syntax.{w32}
use mir.Val.{SFits}
use mir.Facts.{to_z-of_z}
use Rattle.text_in.specs.Places.{StartAt}
use Rattle.form.specs.Form.{is_letter}
use Rattle.text_in.proofs.NameLaws.{run_within, start_none, start_unparted, start_unset, start_unparted_2, start_unmarked, start_unended, start_done}
use Rattle.text_in.proofs.start_at.Goals as goal

pub returns-then-letters-eq0 : goal.returns-then-letters-eq0
returns-then-letters-eq0 c =
    let t = c.args.s.now in
    start_none t c.args.at _ c.letters_at-letters.ensures c.if-letters-eq0.true

pub overflow_add-at : goal.overflow_add-at
overflow_add-at c =
    omega (arith, run_within is_letter 16 c.args.s.now c.args.at c.letters_at-letters.result c.requires c.letters_at-letters.ensures)

pub returns-in_err-after_word : goal.returns-in_err-after_word
returns-in_err-after_word c =
    let t = c.args.s.now in
    rw c.from_residual.ensures (start_unparted t c.args.at _ c.letters_at-letters.ensures c.if-letters-eq0.false c.in_err-after_word.ensures)

pub returns-in_err-setting : goal.returns-in_err-setting
returns-in_err-setting c =
    let t = c.args.s.now in
    rw c.from_residual-in_err-setting.ensures (start_unset t c.args.at _ c.letters_at-letters.ensures c.if-letters-eq0.false _ c.in_ok-after_word.ensures c.in_err-setting.ensures)

pub returns-in_err-after_setting : goal.returns-in_err-after_setting
returns-in_err-after_setting c =
    let t = c.args.s.now in
    rw c.from_residual-in_err-after_setting.ensures (start_unparted_2 t c.args.at _ c.letters_at-letters.ensures c.if-letters-eq0.false _ c.in_ok-after_word.ensures _ _ c.in_ok-setting.ensures c.in_err-after_setting.ensures)

pub returns-in_err-mark : goal.returns-in_err-mark
returns-in_err-mark c =
    let t = c.args.s.now in
    rw c.from_residual-in_err-mark.ensures (start_unmarked t c.args.at _ c.letters_at-letters.ensures c.if-letters-eq0.false _ c.in_ok-after_word.ensures _ _ c.in_ok-setting.ensures _ c.in_ok-after_setting.ensures c.in_err-mark.ensures)

pub returns-in_err-next : goal.returns-in_err-next
returns-in_err-next c =
    let t = c.args.s.now in
    rw c.from_residual-in_err-next.ensures (start_unended t c.args.at _ c.letters_at-letters.ensures c.if-letters-eq0.false _ c.in_ok-after_word.ensures _ _ c.in_ok-setting.ensures _ c.in_ok-after_setting.ensures _ c.in_ok-mark.ensures c.in_err-next.ensures)

pub returns : goal.returns
returns c =
    let t = c.args.s.now in
    let z = c.in_ok-setting.setting.value in
    let fit : SFits w32 z = search rules in
    subst (λ (y : ℤ). StartAt t c.args.at c.letters_at-letters.result y c.in_ok-mark.mark c.in_ok-next.next) (sym (to_z-of_z fit)) (start_done t c.args.at _ c.letters_at-letters.ensures c.if-letters-eq0.false _ c.in_ok-after_word.ensures _ _ c.in_ok-setting.ensures _ c.in_ok-after_setting.ensures _ c.in_ok-mark.ensures _ c.in_ok-next.ensures)
