-- The rule of the table at the place i.
use Rattle.powers.proofs.Powers.{reaches_entry, first_entry}
use Rattle.powers.proofs.power.Goals as goal

pub returns : goal.returns
returns c = record { reaches = reaches_entry c.args.i c.requires; first = first_entry c.args.i c.requires }
