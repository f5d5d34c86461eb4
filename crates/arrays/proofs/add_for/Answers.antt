-- By the method.
use Rattle.std.proofs.Common.{refl, ◌∙◌, sym}
use Rattle.loops.specs.Methods.{add_by}
use Rattle.arrays.proofs.Others.{others_add}
use Rattle.arrays.proofs.add_for.Goals as goal

pub returns-in-Set : goal.returns-in-Set
unfolding add_by
returns-in-Set g c = rw c.in-Set.is refl

pub returns-in-Halfshave : goal.returns-in-Halfshave
unfolding add_by
returns-in-Halfshave g c = rw c.in-Halfshave.is refl

pub returns-in_default : goal.returns-in_default
returns-in_default g c = c.zero.ensures ∙ sym (others_add c.args.method _ c.in_default.not-Set c.in_default.not-Halfshave)
