-- The field counts the binades from the least normal number's on.
use Prim.Native.Nat.{ℕ, suc, ◌-◌, ◌*◌, ◌^◌}
use Rattle.std.proofs.Common.{◌≡◌, ap, ◌∙◌, arith}
use Rattle.reading_pair.specs.Limit.{limit_for}
use Rattle.reading_pair.proofs.limit_of.Goals as goal

pub overflow_add-q : goal.overflow_add-q
overflow_add-q g c = omega (arith, c.requires, g.met.W.Near.narrow.2)

pub binade-requires : goal.binade-requires
binade-requires g c = omega (arith, c.requires, g.met.W.Near.narrow.1, c.saturating_sub.ensures, c.from.ensures, c.FRACTION.ensures)

pub returns : goal.returns
unfolding limit_for
returns g c =
    let w = g.W.Word in
    let field : c.saturating_sub.result ≡ suc c.args.q - w.FRACTION = omega (arith, c.saturating_sub.ensures, c.from.ensures, c.FRACTION.ensures) in
    c.binade.ensures ∙ ap (λ (n : ℕ). n * 2 ^ w.FRACTION) field
