-- The documents' six counts, by a trim's answer and by the sums over an array.
use Rattle.std.specs.Prelude.{◌-◌}
use Rattle.meaning.specs.Methods as meant
use Rattle.reading.specs.Left.{Tally}
use Rattle.trim.specs.declared.Counts.{Counts}

abbrev pub counts : Counts → meant.Counts
counts c =
    record {
      changed_places = c.changed;
      spared_places = c.spared;
      clipped_places = c.clipped;
      missing_places = c.missing;
      risen_places = c.risen;
      fallen_places = c.fallen;
    }

-- a spared place is one of the mark that isn't missing, a fallen one is a changed one that didn't rise
abbrev pub counts_of : Tally → meant.Counts
counts_of t =
    record {
      changed_places = t.changed;
      spared_places = t.marked - t.missing;
      clipped_places = t.clipped;
      missing_places = t.missing;
      risen_places = t.risen;
      fallen_places = t.changed - t.risen;
    }
