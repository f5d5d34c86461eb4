-- The constants are those of the method's keep bits.
use Rattle.std.proofs.Common.{refl, ap, ◌∙◌}
use Rattle.reading.specs.Tails.{constants}
use Rattle.arrays.proofs.Others.{keep_fits}
use Rattle.arrays.proofs.job_of.Goals as goal

pub tail_of-requires : goal.tail_of-requires
tail_of-requires g c = rw c.keep_bits.ensures (keep_fits g.W.Word.FRACTION g.W.Word.DIGITS c.args.method c.args.n c.requires)

pub returns : goal.returns
returns g c =
    record {
      method = refl;
      setting = refl;
      tail = record { fitting = c.requires; tail = c.tail_of.ensures ∙ ap (constants g.W.Word.FRACTION) c.keep_bits.ensures };
    }
