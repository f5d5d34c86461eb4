-- `add_last` meets its contract: by the four codes, or the missing one past the end.
use Rattle.totals.proofs.add_last.Goals as goal

pub returns : goal.returns
returns c =
    rw (← c.code_at-a.ensures, ← c.code_at-b.ensures, ← c.code_at-c.ensures, ← c.code_at-d.ensures) c.add_codes.ensures
