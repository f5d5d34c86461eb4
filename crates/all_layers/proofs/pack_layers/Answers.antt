use native.Mathlib.Omega.{arith}
use borrow.Author.Rules.{rules}
use mir.Facts.{to_z-of_z}
use mir.Syntax.{w32}
use Prim.Native.Nat.{◌+◌, ◌-◌, ◌≤◌}
use lib.ListN.{length, length-take, length-drop}
use Rattle.all_layers.proofs.Turns.{start, part_packable, room, turn, codes_end, references_end, exponents_end}
use Rattle.all_layers.proofs.pack_layers.Goals as goal

pub loop-i-init : goal.loop-i-init
loop-i-init c = start _ _ _ _ _ _ _ c.requires.fit

pub overflow_add-to : goal.overflow_add-to
overflow_add-to c =
    let f = c.requires.fit in
    let r = room _ _ _ _ _ _ _ _ _ _ _ _ c.loop-i.invariant (omega (arith, f.one_width, f.one_reference)) in omega (arith, r)

pub slice_bounds-pack_layer-end : goal.slice_bounds-pack_layer-end
slice_bounds-pack_layer-end c = let f = c.requires.fit in room _ _ _ _ _ _ _ _ _ _ _ _ c.loop-i.invariant (omega (arith, f.one_width, f.one_reference))

pub slice_bounds-pack_layer-end-in-loop-i : goal.slice_bounds-pack_layer-end-in-loop-i
slice_bounds-pack_layer-end-in-loop-i c =
    let f = c.requires.fit in
    let r = room _ _ _ _ _ _ _ _ _ _ _ _ c.loop-i.invariant (omega (arith, f.one_width, f.one_reference)) in omega (arith, r, f.as_many, c.loop-i.invariant.codes_long)

pub pack_layer-layer-requires : goal.pack_layer-layer-requires
pack_layer-layer-requires c =
    let s = c.args in
    let i = c.loop-i.invariant in
    let from = c.loop-i.from in
    let f = c.requires.fit in
    let r = room _ _ _ _ _ _ _ _ _ _ _ _ i (omega (arith, f.one_width, f.one_reference)) in
    record {
      width = f.in_range c.loop-i.i (omega arith);
      readings_len = simp (length-take, length-drop) (omega (arith, r, f.as_many, i.codes_long));
      packable = part_packable _ _ from (from + s.run - from) (omega (arith, r)) c.requires.packable;
    }

pub loop-i-preserved : goal.loop-i-preserved
loop-i-preserved c =
    let r = c.pack_layer-layer in
    let f = c.requires.fit in
    turn _ _ _ _ _ _ _ _ _ _ _ _ c.loop-i.invariant (omega (arith, f.one_width, f.one_reference)) r.new.out r.result _ (to_z-of_z {w = w32} {z = r.result.exponent} (search rules)) r.ensures.content r.ensures.layer

pub returns : goal.returns
returns c =
    let i = c.loop-i.invariant in
    let f = c.requires.fit in
    let h : length c.args.references.now ≤ c.loop-i.i = omega (arith, f.one_width, f.one_reference) in
    record {
      codes = codes_end _ _ _ _ _ _ _ _ _ _ _ _ i h;
      references = references_end _ _ _ _ _ _ _ _ _ _ _ _ i h;
      exponents = exponents_end _ _ _ _ _ _ _ _ _ _ _ _ i h;
    }
