-- With one sign, what is near is not beyond.
use mathlib.Core.Path.{◌≡◌, sym, ◌∙◌}
use Prim.Native.Nat.{ℕ, ◌<◌}
use native.Mathlib.Omega.{arith}
use Rattle.meaning.specs.Readings.{infinity}
use Rattle.reading_pair.specs.Limit.{finite_or0}
use Rattle.reading_pair.proofs.Pairs.{chosen_finite, near_pair}
use Rattle.reading_pair.proofs.is_within.Goals as goal

ends : (F X w m : ℕ) → 0 < infinity F X → m ≡ finite_or0 F X w → m < infinity F X
ends F X w m p e = rw e (chosen_finite F X w p)

pub near-requires : goal.near-requires
near-requires g c =
    let w = g.W.Word in
    let p : 0 < infinity w.FRACTION w.EXPONENT = omega (arith, g.met.W.Word.one_finite) in
    (ends _ _ _ _ p c.finite_or_zero.ensures, ends _ _ _ _ p c.finite_or_zero-2.ensures, c.requires)

pub returns : goal.returns
returns g c e mark q h =
    let w = g.W.Word in
    let same = sym c.sign.ensures ∙ sym c.wide.ensures ∙ c.if-wide.false ∙ c.wide-2.ensures ∙ c.sign-2.ensures in
    near_pair w.FRACTION w.EXPONENT mark q _ _ _ _ _ same c.finite_or_zero.ensures c.finite_or_zero-2.ensures (c.near.ensures e) h
