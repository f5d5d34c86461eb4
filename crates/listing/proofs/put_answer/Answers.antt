use Rattle.listing.proofs.Answers.{answer_counts, answer_none}
use Rattle.listing.proofs.put_answer.Goals as goal

pub returns-in-Ok : goal.returns-in-Ok
returns-in-Ok c =
    let it = answer_counts _ _ c.in-Ok.is _ _ _ _ (c.put_counts.ensures.value, c.put_counts.ensures.out_after) in
    record { value = it.0; out_after = it.1 }

pub returns-in-Err : goal.returns-in-Err
returns-in-Err c =
    let it = answer_none _ _ c.in-Err.is _ _ in
    record { value = it.0; out_after = it.1 }
