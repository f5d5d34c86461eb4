use Rattle.std.proofs.Common.{◌-◌, refl, arith, pow_mono}
use Rattle.codes.specs.Cut.{round_word}
use Rattle.codes.proofs.Leaf.{bump_small}
use Rattle.codes.proofs.round_word.Goals as goal

pub overflow_add-raised : goal.overflow_add-raised
overflow_add-raised c =
    let s = c.args in
    omega (arith, c.half.ensures, pow_mono {i = s.k - 1} {j = 39} (omega arith), c.bump_of-bump.ensures, bump_small s.d s.k s.lost)

pub returns : goal.returns
unfolding round_word
returns c = rw (c.half.ensures, c.bump_of-bump.ensures) refl
