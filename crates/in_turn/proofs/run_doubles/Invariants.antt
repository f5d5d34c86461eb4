-- The calls that are left give of the array as it is now what the whole list gives of the array as it was.
use Rattle.std.proofs.Common.{◌≡◌}
use Rattle.std.specs.Iterator.Adapters.{zip_first, zip_second}
use Rattle.std.specs.Slice.Iter.{iter_rest}
use Rattle.meaning.specs.Calls.{in_turn}
use Rattle.in_turn.specs.Lists.{calls_of}
use Rattle.in_turn.proofs.run_doubles.Given as goal

abbrev pub invariant-loop-method : goal.invariant-loop-method
invariant-loop-method l =
    in_turn 52 11 (calls_of (iter_rest (zip_first l.method-iterator)) (iter_rest (zip_second l.method-iterator))) l.mark l.readings
    ≡ in_turn 52 11 (calls_of l.methods l.settings) l.mark l.initial.readings
