use Rattle.std.proofs.Common.{ap, sym, ◌∙◌, ℕ, [], ◌∷◌, drop}
use Rattle.form.specs.Parse.{skip, ending}
use Rattle.fields_in.proofs.Walk.{byte_is, skip_byte, ending_more}
use Rattle.fields_in.proofs.ending_at.Goals as goal
use Rattle.fields_in.proofs.ending_at.Goals.{then-left-eq0, else-left-eq0}

pub returns : goal.returns
returns c =
    let skipped = skip_byte c.args.s.now c.args.at _ _ (byte_is c.args.s.now c.args.at _ c.get.ensures.lookup _ _ c.eq.ensures) in
    elim c.if-left-eq0.branch [
      | then-left-eq0 w ↦ ap (λ (n : ℕ). skip (n ∷ []) (drop c.args.at c.args.s.now)) (ap ending w.if-left-eq0.true ∙ sym w.ending-is) ∙ skipped
      | else-left-eq0 w ↦ ap (λ (n : ℕ). skip (n ∷ []) (drop c.args.at c.args.s.now)) (ending_more _ w.if-left-eq0.false ∙ sym w.ending-is) ∙ skipped
    ]
