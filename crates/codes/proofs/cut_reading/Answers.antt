use Rattle.std.proofs.Common.{◌≡◌, ℕ, ◌^◌, ap, ◌∙◌, arith}
use Rattle.meaning.specs.Readings.{magnitude, spacing_exp}
use Rattle.codes.specs.Cut.{cut_of}
use Rattle.codes.proofs.Leaf.{make, reading_pos, reading_neg}
use Rattle.codes.proofs.cut_reading.Goals as goal

pub cut_size-size-requires : goal.cut_size-size-requires
unfolding magnitude
cut_size-size-requires c =
    let e : c.spacing_of-spacing.result ≡ spacing_exp 23 (magnitude 23 8 c.args.reading) = c.spacing_of-spacing.ensures in
    record { a_bound = c.twice_sig.ensures.small; x_bound = omega (arith, e, c.requires) }

pub returns-then-reading-lt2147483648 : goal.returns-then-reading-lt2147483648
unfolding magnitude
returns-then-reading-lt2147483648 c =
    let s = c.args in
    c.cut_size-size.ensures ∙ ap (λ (t : ℕ). cut_of 0 t (2 ^ s.unit)) c.twice_sig.ensures.size ∙ reading_pos s.reading s.unit (omega arith)

pub returns-else-reading-lt2147483648 : goal.returns-else-reading-lt2147483648
unfolding make magnitude
returns-else-reading-lt2147483648 c =
    let s = c.args in
    let e = c.cut_size-size.ensures ∙ ap (λ (t : ℕ). cut_of 0 t (2 ^ s.unit)) c.twice_sig.ensures.size in
    reading_neg s.reading s.unit c.wrapping_neg.result c.cut_size-size.result (omega arith) (omega arith) (omega arith) e c.wrapping_neg.ensures
