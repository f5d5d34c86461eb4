-- Row by row, each with a bit of its own.
use borrow.Author.Rules.{rules}
use native.Mathlib.Omega.{arith}
use mathlib.Core.Path.{◌≡◌, sym, ap, ap₂, ◌∙◌, subst}
use mathlib.Core.List.{List, map}
use Prim.Native.Nat.{ℕ, min, ◌-◌, ◌*◌, ◌^◌}
use lib.Bits.{bit_xor}
use lib.ListN.{length, drop, get_or, length-drop}
use Rattle.std.proofs.lemmas.List.{length-map}
use Rattle.std.specs.Iterator.Adapters.{enumerate_source, enumerate_count}
use Rattle.std.specs.Slice.Iter.{chunks_rest}
use Rattle.reading.specs.Left.{takes}
use Rattle.rows.proofs.Rows.{Marked, rows_begin, rows_next, rows_end}
use Rattle.groom.proofs.Words.{chunk_is, chunk_next}
use Rattle.groom.proofs.mark_rows.Goals as goal

pub loop-r-init : goal.loop-r-init
loop-r-init g c =
    let value = g.W.Word.value in
    let same = c.into_iter-r-iterator.ensures.into_iter_gives in
    let none : enumerate_count c.into_iter-r-iterator.result ≡ 0 = ap enumerate_count same ∙ c.enumerate-r-items.ensures.count in (
      subst (Marked g.W.Word.FRACTION g.W.Word.EXPONENT (value c.args.mark) (map value c.args.block.now) (map value c.args.turns.now)) (sym none)
          (rows_begin g.W.Word.FRACTION g.W.Word.EXPONENT (value c.args.mark) (map value c.args.block.now) c.requires.2),
      c.requires.1,
      search rules,
      ap (λ (i : _). chunks_rest (enumerate_source i)) same ∙ ap chunks_rest c.enumerate-r-items.ensures.source ∙ c.chunks.ensures.rest ∙ ap (λ (n : ℕ). drop (n * 512) c.args.block.now) (sym none),
      search rules,
      search rules,
    )

pub bit-requires : goal.bit-requires
bit-requires g c =
    let at = c.loop-r in
    let s = c.in-Some.ensures.steps in
    let r = enumerate_count at.r-iterator in
    let some = s.0.1.2 in
    omega (arith, s.1, some, ap length at.invariant.3, length-drop (r * 512) c.args.block.now, c.requires.0)

pub mark_row-requires : goal.mark_row-requires
mark_row-requires g c =
    let at = c.loop-r in
    (omega (arith, g.met.W.Word.narrow), (omega (arith, c.in-Some.ensures.steps.0.1.1, at.invariant.2), at.invariant.1))

pub loop-r-preserved : goal.loop-r-preserved
loop-r-preserved g c =
    let value = g.W.Word.value in
    let F = g.W.Word.FRACTION in
    let X = g.W.Word.EXPONENT in
    let mark = value c.args.mark in
    let at = c.loop-r in
    let block = c.args.block.now in
    let s = c.in-Some.ensures.steps in
    let r = enumerate_count at.r-iterator in
    let long : length c.in-Some.row.now ≡ min 512 (length (chunks_rest (enumerate_source at.r-iterator))) = omega (arith, s.0.1.1, at.invariant.2) in
    let next = sym s.2 in (
      subst (Marked F X mark (map value block) (map value c.mark_row.new.turns)) next
          (rows_next F X mark (map value block) at.invariant.0
          (λ k. c.mark_row.ensures.content k
          ∙ ap₂ (λ (l : List ℕ) (b : ℕ). bit_xor (get_or (map value at.turns) k 0) (takes F X b mark (get_or l k mark))) (chunk_is value block r _ _ _ at.invariant.3 s.0.1.0 long s.0.1.2)
          (c.bit.ensures ∙ ap (λ (n : ℕ). 2 ^ n) s.1))),
      c.mark_row.ensures.long,
      s.0.0 ∙ at.invariant.2,
      chunk_next value block r _ _ _ at.invariant.3 s.0.1.0 long s.0.1.2 ∙ ap (λ (n : ℕ). drop (n * 512) block) next,
      search rules,
      search rules,
    )

pub returns-clause-content : goal.returns-clause-content
returns-clause-content g c =
    let value = g.W.Word.value in
    let at = c.loop-r in
    let block = c.args.block.now in
    let r = enumerate_count at.r-iterator in
    let over : length block - r * 512 ≡ 0 = sym (ap length at.invariant.3 ∙ length-drop (r * 512) block) ∙ c.in-None.ensures.steps.0.1.0 in
    rows_end g.W.Word.FRACTION g.W.Word.EXPONENT (value c.args.mark) (map value block) at.invariant.0 (omega (arith, over, length-map block value))
