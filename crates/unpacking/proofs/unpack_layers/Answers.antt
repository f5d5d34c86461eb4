-- `unpack_layers` meets its contract: each turn of the loop unpacks a layer.
use mathlib.Core.Path.{refl, ap, ◌∙◌}
use Prim.Native.Nat.{ℕ}
use native.Mathlib.Omega.{arith}
use borrow.Author.Rules.{rules}
use lib.IntN.{pos}
use lib.Ieee.{binary64, of_int}
use lib.ListN.{get_or, length-take, length-drop}
use mir.Facts.{to_z-of_z}
use mir.Syntax.{w32}
use mir.Val.{SFits}
use Rattle.meaning.specs.Questions.{exponent_in_range}
use Rattle.decoding.specs.Floats.{finite_float, two_to}
use Rattle.unpacking.proofs.Turns.{Singles, Below, start, as_many, fits_in, exponent_there, width_there, exponent_step, width_few, reference_finite, turn, finish}
use Rattle.unpacking.proofs.unpack_layers.Goals as goal

pub loop-i-init : goal.loop-i-init
loop-i-init c = start _ _ _ _ _ _ _ _ refl c.requires

pub overflow_add-to : goal.overflow_add-to
overflow_add-to c = omega (arith, fits_in _ _ _ _ _ _ _ _ _ _ c.loop-i.invariant (omega arith))

pub offset_bounds-exponents-i : goal.offset_bounds-exponents-i
offset_bounds-exponents-i c = omega (arith, exponent_there _ _ _ _ _ _ _ _ _ _ c.loop-i.invariant (omega arith))

pub bounds-exponents-i : goal.bounds-exponents-i
bounds-exponents-i c = exponent_there _ _ _ _ _ _ _ _ _ _ c.loop-i.invariant (omega arith)

pub step_of-requires : goal.step_of-requires
step_of-requires c =
    let z = get_or c.args.exponents.now c.loop-i.i (pos 0) in
    let fit : SFits w32 z = search rules in
    ap exponent_in_range (to_z-of_z fit) ∙ exponent_step _ _ _ _ _ _ _ _ _ _ c.loop-i.invariant (omega arith)

pub offset_bounds-widths-i : goal.offset_bounds-widths-i
offset_bounds-widths-i c = omega (arith, width_there _ _ _ _ _ _ _ _ _ _ c.loop-i.invariant (omega arith))

pub bounds-widths-i : goal.bounds-widths-i
bounds-widths-i c = width_there _ _ _ _ _ _ _ _ _ _ c.loop-i.invariant (omega arith)

pub missing_of-requires : goal.missing_of-requires
missing_of-requires c = width_few _ _ _ _ _ _ _ _ _ _ c.loop-i.invariant (omega arith)

pub slice_bounds-unpack_layer-end : goal.slice_bounds-unpack_layer-end
slice_bounds-unpack_layer-end c = fits_in _ _ _ _ _ _ _ _ _ _ c.loop-i.invariant (omega arith)

pub slice_bounds-unpack_layer-end-in-loop-i : goal.slice_bounds-unpack_layer-end-in-loop-i
slice_bounds-unpack_layer-end-in-loop-i c =
    let inv = c.loop-i.invariant in
    omega (arith, fits_in _ _ _ _ _ _ _ _ _ _ inv (omega arith), as_many _ _ _ _ _ _ _ _ _ _ inv)

pub unpack_layer-requires : goal.unpack_layer-requires
unpack_layer-requires c =
    let inv = c.loop-i.invariant in (
      record { reference = reference_finite _ _ _ _ _ _ _ _ _ _ inv (omega arith); step = ap finite_float c.step_of.ensures },
      simp (length-take, length-drop) (omega (arith, fits_in _ _ _ _ _ _ _ _ _ _ inv (omega arith), as_many _ _ _ _ _ _ _ _ _ _ inv)),
    )

pub loop-i-preserved : goal.loop-i-preserved
loop-i-preserved c =
    let fit : SFits w32 (get_or c.args.exponents.now c.loop-i.i (pos 0)) = search rules in
    let single : Singles c.args.references.now = λ k. search rules in
    let small : Below 65536 c.args.codes.now = λ k. search rules in
    turn _ _ _ _ _ _ _ _ _ _ c.loop-i.invariant (omega arith) small _ (single _) refl (c.step_of.ensures ∙ ap two_to (to_z-of_z fit))
    (ap (λ (n : ℕ). of_int binary64 (pos n)) c.missing_of.ensures) _ c.unpack_layer.ensures

pub shape_of-readings : goal.shape_of-readings
shape_of-readings c = c.loop-i.invariant.as_long

pub returns : goal.returns
returns c = let at = c.loop-i in finish _ _ _ _ _ _ _ _ _ _ at.invariant (omega arith)
