use Rattle.all_layers.proofs.Turns.{Turn}
use Rattle.all_layers.proofs.pack_layers.Given as goal

abbrev pub invariant-loop-i : goal.invariant-loop-i
invariant-loop-i l = Turn l.readings l.mark l.run l.widths l.initial.codes l.initial.references l.initial.exponents l.codes l.references l.exponents l.from l.i
