use Rattle.std.proofs.Common.{rules, ◌∙◌, ap, length}
use Rattle.text_out.specs.Places.{paste}
use Rattle.listing.proofs.Whole.{counts_few, few_series, few_lines, names_short, accepted_listed}
use Rattle.listing.proofs.listing.Goals as goal

pub trim_series-n-requires : goal.trim_series-n-requires
trim_series-n-requires c =
    let x = c.in-Ok.ensures.0 in
    (few_series _ _ _ _ _ _ _ _ _ x, few_lines _ _ _ _ _ _ _ _ _ x, search rules)

pub put_output-requires : goal.put_output-requires
put_output-requires c =
    let x = c.in-Ok.ensures.0 in
    let few = few_series _ _ _ _ _ _ _ _ _ x in
    record { count_bound = (few, few_lines _ _ _ _ _ _ _ _ _ x, search rules); names_len_bound = (names_short _ _ _ _ _ _ _ _ _ x, counts_few _ _ _ c.trim_series-n.ensures.short few) }

pub returns-in-Ok : goal.returns-in-Ok
returns-in-Ok c =
    let a = c.in-Ok.ensures in
    let n = c.trim_series-n.ensures in
    let e = accepted_listed _ _ _ _ _ _ _ _ _ a.0 _ a.1 a.2 _ _ _ _ n.work n.answer n.counts in
    record { answer = c.put_output.ensures.value ∙ ap length e; content = c.put_output.ensures.out_after ∙ ap (paste c.args.out.now 0) e }
