-- By the method.
use Rattle.std.proofs.Common.{sym}
use mathlib.Core.Logic.{⊎_elim}
use Rattle.loops.specs.Methods.{keep_of}
use Rattle.arrays.proofs.Others.{others_keep}
use Rattle.arrays.proofs.keep_bits.Goals as goal

pub returns-in-Absolute : goal.returns-in-Absolute
unfolding keep_of
returns-in-Absolute g c = ⊎_elim (λ e. rw e c.FRACTION.ensures) (λ e. rw e c.FRACTION.ensures) c.in-Absolute.is

pub returns-in_default : goal.returns-in_default
returns-in_default g c = sym (others_keep g.W.Word.FRACTION c.args.method c.args.n c.in_default.not-Absolute c.in_default.not-Digits)
