use mathlib.Core.Path.{◌∙◌}
use Rattle.layering.proofs.One.{one_reference, one_stored, one_codes}
use Rattle.layering.proofs.flat_layer.Goals as goal

pub returns : goal.returns
returns c =
    let m = c.missing_of-missing.ensures in
    let o = c.requires.one in
    record { layer = record { reference = one_reference _ _ _ _ o; exponent = one_stored _ _ _ _ o }; content = c.flat_codes.ensures ∙ one_codes _ _ _ _ o _ m }
