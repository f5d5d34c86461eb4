-- By the laws of `Walk`.
use Rattle.std.proofs.Common.{ℕ, ap, ◌∙◌, rules, sym, map, subst}
use Rattle.std.proofs.lemmas.List.{length-map}
use Rattle.meaning.specs.Comparing.{compared}
use Rattle.beyond.specs.Answers.{FirstTrue}
use Rattle.beyond.proofs.Walk.{Says, scanned, FirstTrue-weaker}
use Rattle.beyond.proofs.first_beyond.Goals as goal

pub returns : goal.returns
returns g c =
    let w = g.W.Word in
    let v = w.value in
    let q = c.from-q.result in
    let raw = c.args.raw.now in
    let trimmed = c.args.trimmed.now in
    let says = Says w.FRACTION w.EXPONENT (v c.args.mark) q (map v raw) (map v trimmed) in
    let long = length-map raw v ∙ c.requires.0 ∙ sym (length-map trimmed v) in
    let same = c.requires.0 in
    let s = FirstTrue-weaker says c.scan.ensures (λ i b h k. search rules) in
    scanned w.FRACTION w.EXPONENT (v c.args.mark) q (map v raw) (map v trimmed) long c.scan.result
    (subst (λ (n : ℕ). FirstTrue says n c.scan.result) (sym (length-map raw v)) s)
    ∙ ap (λ (n : ℕ). compared w.FRACTION w.EXPONENT (v c.args.mark) n (map v raw) (map v trimmed)) c.from-q.ensures
