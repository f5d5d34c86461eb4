use Rattle.text_out.proofs.FieldLaws.{field_room, field_done}
use Rattle.text_out.proofs.put_field.Goals as goal

pub bounds-out-p : goal.bounds-out-p
bounds-out-p c =
    let a = c.requires in
    (field_room _ _ _ 0 _ _ a.0 a.1 c.put_number-p.ensures.value c.put_number-p.ensures.out_after).0

pub returns-clause-out_after : goal.returns-clause-out_after
returns-clause-out_after c =
    let a = c.requires in
    (field_done _ _ _ c.args.left _ _ a.0 a.1 c.put_number-p.ensures.value c.put_number-p.ensures.out_after _ c.ending_byte.ensures).1
