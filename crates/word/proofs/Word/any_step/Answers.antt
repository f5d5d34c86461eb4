-- By `coarse_step`, with infinity worked out of a word of ones. What comes back is a finite magnitude, so it has room in a word.
use Rattle.std.proofs.Common.{◌≡◌, ℕ, ◌+◌, ◌-◌, ◌/◌, ◌%◌, ◌^◌, ◌<◌, ◌≤◌, ap, ◌∙◌, arith}
use Rattle.meaning.specs.Readings.{infinity}
use Rattle.absolute.specs.Stepped.{Stepped}
use Rattle.absolute.proofs.Whole.{stepped_finite}
use Rattle.word.proofs.Room.{two, infinity_le, ones_room, ones_infinity, fraction_short}
use Rattle.word.proofs.Word.any_step.Given.{Over}
use Rattle.word.proofs.Word.any_step.Goals as goal

-- the word of ones as a number of 64 bits
ones : (g : Over) (c : goal.After-from g) → let w = g.Self.Word in c.wide-ones.result ≡ (w.value c.zero.result + (2 ^ (w.FRACTION + w.EXPONENT + 1) - w.value c.one.result)) % 2 ^ (w.FRACTION + w.EXPONENT + 1)
ones g c = c.wide-ones.ensures ∙ c.wrapping_sub.ensures

unit : (g : Over) (c : goal.After-from g) → c.wide-fraction.result ≡ 2 ^ g.Self.Word.FRACTION
unit g c = c.wide-fraction.ensures ∙ c.unit.ensures ∙ ap (λ (t : ℕ). 2 ^ t) c.FRACTION.ensures

pub overflow_sub-ones : goal.overflow_sub-ones
overflow_sub-ones g c = let w = g.Self.Word in omega (arith, ones_room w.FRACTION w.EXPONENT _ _ _ _ c.zero.ensures c.one.ensures (ones g c) (unit g c))

limit : (g : Over) (c : goal.After-from g) → c.wide-ones.result / 2 - (c.wide-fraction.result - 1) ≡ infinity g.Self.Word.FRACTION g.Self.Word.EXPONENT
limit g c = let w = g.Self.Word in ones_infinity w.FRACTION w.EXPONENT _ _ _ _ c.zero.ensures c.one.ensures (ones g c) (unit g c)

pub coarse_step-step-requires : goal.coarse_step-step-requires
coarse_step-step-requires g c =
    let w = g.Self.Word in
    let s = c.before.before in
    let short = fraction_short w.FRACTION w.EXPONENT _ _ _ _ c.zero.ensures c.one.ensures (ones g s) (unit g s) c.wide-ones.type_inv (omega (arith, g.met.Self.Word.one_finite)) in
    (omega (arith, c.from.ensures, c.FRACTION-2.ensures, short), (omega (arith, limit g s, c.wide.ensures, c.requires), omega (arith, c.wide-ones.type_inv)))

stepped : (g : Over) (c : goal.After-coarse_step-step g) → let w = g.Self.Word in Stepped w.FRACTION w.EXPONENT (w.value c.args.q) (w.value c.args.self) c.coarse_step-step.result.magnitude c.coarse_step-step.result.clipped
stepped g c =
    let w = g.Self.Word in
    let bits = c.from.ensures ∙ c.FRACTION-2.ensures in
    rw (bits, c.wide.ensures, c.wide-2.ensures) at (c.coarse_step-step.ensures w.EXPONENT (rw bits (omega (arith, limit g c.before.before.before))))

finite : (g : Over) (c : goal.After-coarse_step-step g) → let w = g.Self.Word in (c.coarse_step-step.result.magnitude < infinity w.FRACTION w.EXPONENT) × (c.coarse_step-step.result.clipped ≤ 1)
finite g c = stepped_finite c.requires (stepped g c)

-- both have room, the clip too: it is at most 1
room : (g : Over) (c : goal.After-coarse_step-step g) → let w = g.Self.Word in let n = 2 ^ (w.FRACTION + w.EXPONENT + 1) in (c.coarse_step-step.result.magnitude < n) × (c.coarse_step-step.result.clipped < n)
room g c =
    let w = g.Self.Word in
    let f = finite g c in
    (omega (arith, f.0, infinity_le w.FRACTION w.EXPONENT, two w.FRACTION w.EXPONENT), omega (arith, f.1, g.met.Self.Word.one_finite, infinity_le w.FRACTION w.EXPONENT, two w.FRACTION w.EXPONENT))

pub from_wide-requires : goal.from_wide-requires
from_wide-requires g c = omega (arith, room g c)

pub from_wide-requires-2 : goal.from_wide-requires-2
from_wide-requires-2 g c = omega (arith, room g c.before)

pub returns-clause-magnitude : goal.returns-clause-magnitude
returns-clause-magnitude g c = c.from_wide.ensures ∙ (stepped g c.before.before).new

pub returns-clause-clipped : goal.returns-clause-clipped
returns-clause-clipped g c = c.from_wide-2.ensures ∙ (stepped g c.before.before).clip
