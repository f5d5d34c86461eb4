-- What the bits of singles and of doubles come to.
use Rattle.std.specs.Prelude.{◌≡◌, ◌+◌, ◌^◌, ◌<◌, ◌≤◌, refl}
use Rattle.std.proofs.Common.{lit≤}
use Rattle.meaning.specs.Readings.{infinity}

pub sign_single : 0x80000000 ≡ 2 ^ (23 + 8)
sign_single = refl

pub sign_double : 0x8000000000000000 ≡ 2 ^ (52 + 11)
sign_double = refl

pub infinity_single : 0x7f800000 ≡ infinity 23 8
unfolding infinity
infinity_single = refl

pub infinity_double : 0x7ff0000000000000 ≡ infinity 52 11
unfolding infinity
infinity_double = refl

pub narrow_single : (23 ≤ 52) × (1 < 2 ^ 8) × (2 ^ 8 + 23 < 4096)
narrow_single = (lit≤ tt, lit≤ tt, lit≤ tt)

pub narrow_double : (52 ≤ 52) × (1 < 2 ^ 11) × (2 ^ 11 + 52 < 4096)
narrow_double = (lit≤ tt, lit≤ tt, lit≤ tt)
