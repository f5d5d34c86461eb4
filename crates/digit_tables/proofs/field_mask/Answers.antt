-- The mask by the field: none at either end, and elsewhere the tail that the place gives.
use mathlib.Core.Path.{◌≡◌, ap}
use Prim.Native.Nat.{ℕ, ◌*◌, ◌/◌, ◌%◌, ◌^◌, ◌-◌}
use native.Mathlib.Omega.{arith}
use lib.Pow.{pow_pos}
use Rattle.digit_tables.specs.Fields.{field_tail}
use Rattle.digit_tables.proofs.Fields.{mask_zero, mask_last, mask_some}
use Rattle.digit_tables.proofs.field_mask.Goals as goal

-- the shifted one
one : (c : goal.After-saturating_sub-t) → 1 * 2 ^ c.saturating_sub-t.result % 2 ^ 32 ≡ 2 ^ field_tail c.args.n (c.args.i / 2) (c.args.i % 2)
one c =
    mask_some c.args.n (c.args.i / 2) (c.args.i % 2) c.field_place.result c.step_exponent-j.result c.saturating_sub-t.result
    c.if-f-eq0.false c.if-f-eq255.false (omega arith) (omega arith) c.requires.1
    c.field_place.ensures c.step_exponent-j.ensures.is c.saturating_sub-t.ensures

pub returns-then-f-eq0 : goal.returns-then-f-eq0
returns-then-f-eq0 c = let s = c.args in mask_zero s.n (s.i / 2) (s.i % 2) c.if-f-eq0.true

pub returns-then-f-eq255 : goal.returns-then-f-eq255
returns-then-f-eq255 c = let s = c.args in mask_last s.n (s.i / 2) (s.i % 2) c.if-f-eq255.true

pub overflow_sub-result : goal.overflow_sub-result
overflow_sub-result c =
    let s = c.args in
    omega (arith, one c, pow_pos (field_tail s.n (s.i / 2) (s.i % 2)))

pub returns : goal.returns
returns c = ap (λ (x : ℕ). x - 1) (one c)
