-- The bits that the two passes leave are what the rows ask for.
use mathlib.Core.Path.{refl, ap, ◌∙◌}
use mathlib.Core.List.{map}
use native.Mathlib.Omega.{arith}
use Rattle.std.proofs.lemmas.List.{length-map}
use Rattle.rows.specs.Rows.{bit_of}
use Rattle.rows.proofs.Rows.{row_length, counted}
use Rattle.groom.proofs.Words.{all_zero}
use Rattle.groom.proofs.groom_block.Goals as goal

pub mark_rows-requires : goal.mark_rows-requires
mark_rows-requires g c = (omega (arith, g.met.W.Word.narrow), (c.requires.1, refl, all_zero g.W.Word.value 513 c.zero-turns.ensures))

pub count_turns-requires : goal.count_turns-requires
count_turns-requires g c = (omega (arith, g.met.W.Word.narrow), (omega (arith, c.min.ensures), c.mark_rows.ensures.long))

pub groom_rows-requires : goal.groom_rows-requires
groom_rows-requires g c =
    let value = g.W.Word.value in
    let ws = map value c.args.block.now in
    let marks = c.mark_rows in (
      omega (arith, g.met.W.Word.narrow),
      (
        c.requires.0,
        c.requires.1,
        λ r k h.
            ap (bit_of r) (c.count_turns.ensures.content k (omega (arith, row_length ws r, c.min.ensures, length-map c.args.block.now value)))
            ∙ counted g.W.Word.FRACTION g.W.Word.EXPONENT (value c.args.mark) ws (map value marks.new.turns) marks.ensures.content (length-map marks.new.turns value ∙ marks.ensures.long) r k h,
      ),
    )
