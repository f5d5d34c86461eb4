use Rattle.std.proofs.Common.{◌-◌, ◌*◌, ◌^◌, ◌≤◌}
use Rattle.meaning.specs.Readings.{position}
use Rattle.meaning.specs.Layers.{last_code}
use Rattle.codes.proofs.least_step.Given as goal

abbrev pub invariant-loop-exponent : goal.invariant-loop-exponent
invariant-loop-exponent l =
    (position 23 8 l.span.high - position 23 8 l.span.low ≤ last_code l.width * 2 ^ l.exponent) × (l.exponent ≤ 277)

abbrev pub decreases-loop-exponent : goal.decreases-loop-exponent
decreases-loop-exponent l = l.exponent
