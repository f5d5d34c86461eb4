-- Rounding keeps the order.
use borrow.Author.Tests.{ltb-true}
use lib.Ieee.{binary32}
use Rattle.absolute.proofs.Values.{bits_number}
use Rattle.reading_pair.proofs.Filter.{difference_number, filtered}
use Rattle.reading_pair.proofs.U32Near.near.Goals as goal

pub float_from_bits-result : goal.float_from_bits-result
float_from_bits-result c = bits_number binary32 _ c.requires.0

pub float_from_bits-result-2 : goal.float_from_bits-result-2
float_from_bits-result-2 c = bits_number binary32 _ c.requires.1

pub float_to_bits-result : goal.float_to_bits-result
float_to_bits-result c = difference_number binary32 _ _ c.requires.0 c.requires.1

pub returns : goal.returns
returns c e = filtered binary32 _ _ c.requires.0 c.requires.1 _ c.requires.2 (ltb-true _ _ e)
