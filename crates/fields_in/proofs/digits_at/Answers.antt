use Rattle.std.proofs.Common.{rules, tests, arith, ◌≡◌, ◌-◌, ◌∙◌, length, take, drop, length-drop}
use Rattle.std.proofs.lemmas.Iterator.{YieldsList-from_slice, YieldsList-from_take}
use Rattle.std.proofs.lemmas.Iterator.Consumers.{count_from_yields_List}
use Rattle.std.proofs.lemmas.Iterator.Search.{YieldsList-from_take_while}
use Rattle.std.proofs.lemmas.List.{take_all}
use Rattle.form.specs.Form.{is_digit}
use Rattle.fields_in.proofs.Walk.{run_taken}
use Rattle.fields_in.proofs.digits_at.Goals as goal

pub returns : goal.returns
returns c =
    let s = c.args.s.now in
    let rest = drop c.args.at s in
    let whole : take (length s - c.args.at) rest ≡ rest = take_all _ _ (omega (arith, length-drop c.args.at s)) in
    let source : c.take_while.result.iter.iter.rest.now ≡ rest = rw c.take_while.ensures.source (rw c.take.ensures.source (rw c.iter.ensures.rest whole)) in
    let count : c.take_while.result.iter.n ≡ 4 = simp (c.take_while.ensures.source, c.take.ensures.count) in
    count_from_yields_List c.take_while.result _ c.count.ensures.ran (YieldsList-from_take_while _ is_digit (YieldsList-from_take 4 (YieldsList-from_slice rest source) count) c.take_while.ensures.closure c.take_while.ensures.done (λ x b q k. search (rules, tests)))
    ∙ run_taken is_digit 4 rest
