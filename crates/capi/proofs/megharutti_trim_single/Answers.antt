-- The same call.
use mathlib.Core.Path.{ap, ◌∙◌}
use lib.IntN.{ℤ}
use mir.Facts.{to_z-of_z}
use Rattle.meaning.specs.Calls.{loader}
use Rattle.capi.proofs.megharutti_trim_single.Goals as goal

pub returns : goal.returns
returns c =
    c.trim_single.ensures ∙ ap (λ (z : ℤ). loader c.args.method z c.args.mark c.args.turn c.args.reading) (to_z-of_z c.ranges.setting)
