use Rattle.summary.proofs.Patterns.{key_number, key_back}
use Rattle.summary.proofs.value_of.Goals as goal

pub float_from_bits-result : goal.float_from_bits-result
float_from_bits-result c = key_number _ _ c.requires c.reading_of.ensures

pub returns : goal.returns
returns c = key_back _ _ c.requires c.reading_of.ensures
