-- What one reading is left as, all are.
use Rattle.std.proofs.Common.{ℕ, rules}
use Rattle.meaning.specs.Methods.{digits}
use Rattle.reading.specs.Left.{settled_by}
use Rattle.loops.proofs.Tallies.{one_by}
use Rattle.arrays.proofs.Outcomes.{counts_of}
use Rattle.arrays.proofs.U32Digits.with_digits_kept.Goals as goal

pub each-requires-clause-counted : goal.each-requires-clause-counted
each-requires-clause-counted c = counts_of (λ (w : ℕ). w) (settled_by 23 8 (digits c.args.n) c.args.mark 0) (one_by 23 8 _ _ _) (λ x r made. search rules)

pub returns : goal.returns
returns c = c.each.ensures (settled_by 23 8 (digits c.args.n) c.args.mark 0) (one_by 23 8 _ _ _) (λ x r made. search rules)
