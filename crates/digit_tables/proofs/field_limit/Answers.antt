-- The table's entry after the field's place, as a single.
use Rattle.digit_tables.proofs.Fields.{limit_below, limit_most}
use Rattle.digit_tables.proofs.field_limit.Goals as goal

pub returns-then-least-lt2139095040 : goal.returns-then-least-lt2139095040
returns-then-least-lt2139095040 c =
    limit_below c.args.f c.field_place-place.result c.least_single-least.result c.args.table.now c.requires.1
    c.field_place-place.ensures c.least_single-least.ensures c.if-least-lt2139095040.true

pub returns : goal.returns
returns c =
    limit_most c.args.f c.field_place-place.result c.least_single-least.result c.args.table.now c.requires.1
    c.field_place-place.ensures c.least_single-least.ensures c.if-least-lt2139095040.false
