-- Both present and finite, then the words.
use mathlib.Core.Path.{◌∙◌}
use Rattle.reading_pair.proofs.Pairs.{sign_small, first_left_out, second_left_out, both_in}
use Rattle.reading_pair.proofs.is_beyond_exactly.Goals as goal

pub returns-then-not-is_trimmable : goal.returns-then-not-is_trimmable
returns-then-not-is_trimmable g c =
    let w = g.W.Word in
    first_left_out w.FRACTION w.EXPONENT _ _ _ _ _ c.is_trimmable.ensures.value c.if-not-is_trimmable.true

pub returns-then-not-is_trimmable-2 : goal.returns-then-not-is_trimmable-2
returns-then-not-is_trimmable-2 g c =
    let w = g.W.Word in
    second_left_out w.FRACTION w.EXPONENT _ _ _ _ _ c.is_trimmable-2.ensures.value c.if-not-is_trimmable-2.true

pub returns : goal.returns
returns g c =
    let w = g.W.Word in
    let F = w.FRACTION in
    let X = w.EXPONENT in
    let says = rw (c.from.ensures, c.FRACTION.ensures, c.wide.ensures, c.wide-2.ensures) at c.apart.ensures in
    both_in F X _ _ _ _ _ _ _ c.is_trimmable.ensures.value c.is_trimmable-2.ensures.value c.if-not-is_trimmable.false c.if-not-is_trimmable-2.false
    (λ f h. says X (c.SIGN.ensures ∙ g.met.W.Near.sign_is)
    (record { below = f; signed = sign_small F X (w.value c.args.w) (c.is_trimmable.ensures.room c.if-not-is_trimmable.false) })
    (record { below = h; signed = sign_small F X (w.value c.args.v) (c.is_trimmable-2.ensures.room c.if-not-is_trimmable-2.false) }))
