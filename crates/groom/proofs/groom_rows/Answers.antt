-- Row after row, by the walk's laws; each row's fillings are those of its turns.
use mathlib.Core.Path.{◌≡◌, refl, sym, ap, ap₂, ◌∙◌, subst}
use mathlib.Core.List.{map}
use Prim.Native.Nat.{ℕ, min, ◌+◌, ◌-◌, ◌*◌, ◌≤◌, ◌<◌}
use native.Mathlib.Nat.{zero-add}
use native.Mathlib.Omega.{arith}
use mathlib.Core.Bool.{cond}
use lib.Dec.{eqb}
use lib.ListN.{length, take, drop, length-take, length-drop}
use Rattle.std.proofs.lemmas.List.{length-map}
use Rattle.reading.specs.Left.{Settled, settled_tail}
use Rattle.loops.specs.Tallies.{sums_at, totals_of}
use Rattle.loops.specs.Walk.{state_at, walked_by, tallied_by}
use Rattle.loops.specs.Methods.{Filling, filling_after}
use Rattle.loops.proofs.Tallies.{one_tail, few_wider}
use Rattle.loops.proofs.Walks.{Walk, begin, walked_length, end, end_state}
use Rattle.loops.proofs.Words.{part_at, few_part_at}
use Rattle.loops.proofs.Turns.{states_two, told_walked, told_tallied}
use Rattle.rows.specs.Rows.{fill_at}
use Rattle.rows.proofs.Rows.{filled}
use Rattle.groom.proofs.Words.{walk_at, fill_is, row_is_at, rest_same_at}
use Rattle.groom.proofs.groom_rows.Given as given
use Rattle.groom.proofs.groom_rows.Goals as goal
use Rattle.groom.proofs.groom_rows.Goals.{After-groom_row-row}

-- where the row starts
starts : (g : given.Over) (c : After-groom_row-row g) → min (c.loop-r.r * 512) (length c.args.block.now) ≡ c.loop-r.r * 512
starts g c = omega (arith, c.div_ceil-r-end.ensures)

-- the rows from this one on are as they were
same : (g : given.Over) (c : After-groom_row-row g)
    → let value = g.W.Word.value in
    drop (c.loop-r.r * 512) (map value c.loop-r.block) ≡ drop (c.loop-r.r * 512) (map value c.args.block.now)
same g c =
    let value = g.W.Word.value in
    subst (λ (i : ℕ). drop i (map value c.loop-r.block) ≡ drop i (map value c.args.block.now)) (starts g c) c.loop-r.invariant.2

-- each column of this row gets what its turn says, and so does what comes after it
columns : (g : given.Over) (c : After-groom_row-row g)
    → let s = c.args in
    let at = c.loop-r in
    let value = g.W.Word.value in
    let start = at.r * 512 in
    let row = map value (take (start + c.min-n.result - start) (drop start at.block)) in
    (k : ℕ) → k ≤ length row
    → fill_at (map value s.turns.now) (value c.bit-bit.result) (value c.choose-want.result) (value s.tail.ones) k
    ≡ state_at (filling_after g.W.Word.FRACTION g.W.Word.EXPONENT (value s.tail.ones) (value s.mark)) (value at.add) row k
columns g c =
    let s = c.args in
    let at = c.loop-r in
    let value = g.W.Word.value in
    let start = at.r * 512 in
    filled g.W.Word.FRACTION g.W.Word.EXPONENT (value s.mark) (map value s.block.now) (map value s.turns.now) c.requires.2 (value s.tail.ones) (value at.add) at.invariant.1 at.r c.bit-bit.ensures
    (c.choose-want.ensures ∙ ap₂ (λ (a b : ℕ). cond (eqb (value at.add) a) b (value c.bit-bit.result)) c.zero.ensures c.zero-in-loop-r.ensures)
    (row_is_at value at.block s.block.now start at.r (start + c.min-n.result - start) refl (same g c) (omega (arith, c.div_ceil-r-end.ensures)) (omega (arith, c.min-n.ensures)))

-- and so the row is walked as the whole is
walks : (g : given.Over) (c : After-groom_row-row g)
    → let s = c.args in
    let at = c.loop-r in
    let value = g.W.Word.value in
    let start = at.r * 512 in
    let row = map value (take (start + c.min-n.result - start) (drop start at.block)) in
    let next = filling_after g.W.Word.FRACTION g.W.Word.EXPONENT (value s.tail.ones) (value s.mark) in
    let f : ℕ → ℕ → Settled = λ v w. settled_tail g.W.Word.FRACTION g.W.Word.EXPONENT s.tail.bits v (value s.mark) w in
    (sums_at value c.groom_row-row.result ≡ tallied_by next f (value at.add) row)
    × (map value c.groom_row-row.new.row ≡ walked_by next f (value at.add) row)
walks g c =
    let s = c.args in
    let at = c.loop-r in
    let value = g.W.Word.value in
    let start = at.r * 512 in
    let row = map value (take (start + c.min-n.result - start) (drop start at.block)) in
    let next = filling_after g.W.Word.FRACTION g.W.Word.EXPONENT (value s.tail.ones) (value s.mark) in
    let f : ℕ → ℕ → Settled = λ v w. settled_tail g.W.Word.FRACTION g.W.Word.EXPONENT s.tail.bits v (value s.mark) w in
    let fill = fill_at (map value s.turns.now) (value c.bit-bit.result) (value c.choose-want.result) (value s.tail.ones) in
    let told : (k : ℕ) → k < length row → fill (0 + k) ≡ state_at next (value at.add) row k = λ k h. ap fill (zero-add k) ∙ columns g c k (omega arith) in
    (c.groom_row-row.ensures.sums ∙ told_tallied f next fill row (value at.add) 0 told, c.groom_row-row.ensures.content ∙ told_walked f next fill row (value at.add) 0 told)

fits : (g : given.Over) (c : After-groom_row-row g) → let start = c.loop-r.r * 512 in start + (start + c.min-n.result - start) ≤ length c.loop-r.block
fits g c =
    let value = g.W.Word.value in
    omega (arith, c.min-n.ensures, c.loop-r.invariant.0.same, length-map c.loop-r.block value, length-map c.args.block.now value, c.div_ceil-r-end.ensures)

-- the walk so far, from where the row starts
here : (g : given.Over) (c : After-groom_row-row g)
    → let s = c.args in
    let at = c.loop-r in
    let value = g.W.Word.value in
    Walk (filling_after g.W.Word.FRACTION g.W.Word.EXPONENT (value s.tail.ones) (value s.mark)) (λ v w. settled_tail g.W.Word.FRACTION g.W.Word.EXPONENT s.tail.bits v (value s.mark) w)
    (value s.first) (map value s.block.now) (map value at.block) (totals_of at.sums) (value at.add) (at.r * 512)
here g c = walk_at (starts g c) c.loop-r.invariant.0

pub loop-r-init : goal.loop-r-init
loop-r-init g c =
    let start : 0 ≡ min (0 * 512) (length c.args.block.now) = omega arith in
    (walk_at start (begin (λ s w. one_tail g.W.Word.FRACTION g.W.Word.EXPONENT _ s _ w) c.new-sums.ensures), c.requires.0.1, refl)

pub join-sums-requires : goal.join-sums-requires
join-sums-requires g c =
    let at = c.loop-r in
    let value = g.W.Word.value in
    let start = at.r * 512 in
    let k = start + c.min-n.result - start in
    let row = (goal.at.join-sums-requires g c).After-groom_row-row in
    few_wider _ (start + k) 0xffff_ffff_ffff_ffff (omega (arith, c.min-n.ensures, c.requires.1))
    (few_part_at value at.block (here g row) k (fits g row) (walks g row).0)

pub loop-r-preserved : goal.loop-r-preserved
loop-r-preserved g c =
    let s = c.args in
    let at = c.loop-r in
    let value = g.W.Word.value in
    let start = at.r * 512 in
    let n = c.min-n.result in
    let k = start + n - start in
    let row = (goal.at.loop-r-preserved g c).After-groom_row-row in
    let now = map value (take k (drop start at.block)) in
    let next = filling_after g.W.Word.FRACTION g.W.Word.EXPONENT (value s.tail.ones) (value s.mark) in
    let f : ℕ → ℕ → Settled = λ v w. settled_tail g.W.Word.FRACTION g.W.Word.EXPONENT s.tail.bits v (value s.mark) w in
    let long : length now ≡ n = omega (arith, length-map (take k (drop start at.block)) value, length-take k (drop start at.block), length-drop start at.block, fits g row) in
    let to : start + k ≡ min ((at.r + 1) * 512) (length s.block.now) = omega (arith, c.min-n.ensures, c.div_ceil-r-end.ensures) in
    let after = c.filling-add.ensures.value ∙ fill_is value s.turns.now (value c.bit-bit.result) (value c.choose-want.result) (value s.tail.ones) n _ (omega (arith, c.type_inv.turns, c.min-n.ensures)) ∙ columns g row n (omega arith) in (
      part_at value at.block (here g row) k (fits g row) row.groom_row-row.new.row to (walks g row).1 (walks g row).0 c.join-sums.ensures (after ∙ ap (state_at next (value at.add) now) (sym long)),
      subst (Filling (value s.tail.ones)) (sym after) (states_two g.W.Word.FRACTION g.W.Word.EXPONENT (value s.mark) (value s.tail.ones) (value at.add) at.invariant.1 now n),
      rest_same_at value at.block s.block.now row.groom_row-row.new.row start k (min ((at.r + 1) * 512) (length s.block.now)) to
          (sym (length-map row.groom_row-row.new.row value) ∙ ap length (walks g row).1 ∙ walked_length next f (value at.add) now ∙ omega arith) (fits g row) (same g row),
    )

pub returns : goal.returns
returns g c =
    let value = g.W.Word.value in
    let at = c.loop-r in
    let long : length (map value at.block) ≤ min (at.r * 512) (length c.args.block.now) =
    omega (arith, c.div_ceil-r-end.ensures, at.invariant.0.same, length-map c.args.block.now value) in
    let done = end at.invariant.0 long in
    record { sums = done.0; add = end_state at.invariant.0 long ∙ ap (state_at _ _ _) (length-map c.args.block.now value); content = done.1 }
