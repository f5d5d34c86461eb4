use mathlib.Core.Path.{◌∙◌}
use borrow.Author.Rules.{rules}
use mir.Facts.{to_z-of_z}
use mir.Syntax.{w32}
use Rattle.summary.proofs.Patterns.{bits_number}
use Rattle.layering.proofs.Ready.{values, few, size_low, all_ready, all_within, reference_is, stored_is, codes_are}
use Rattle.layering.proofs.spread_layer.Goals as goal

pub float_to_bits-span : goal.float_to_bits-span
float_to_bits-span c = bits_number c.args.low (values _ _ _ _ c.requires.packable c.type_inv.readings c.requires.readings_value).low

pub float_to_bits-span-2 : goal.float_to_bits-span-2
float_to_bits-span-2 c = bits_number c.args.high (values _ _ _ _ c.requires.packable c.type_inv.readings c.requires.readings_value).high

pub invariant_of-span : goal.invariant_of-span
invariant_of-span c =
    let v = values _ _ _ _ c.requires.packable c.type_inv.readings c.requires.readings_value in
    record { low_finite = v.low; high_finite = v.high; order = v.differ }

pub invariant_of-layer : goal.invariant_of-layer
invariant_of-layer c =
    let r = c.requires in
    let v = values _ _ _ _ r.packable c.type_inv.readings r.readings_value in
    let e = c.least_step-exponent.ensures in
    record {
      reference_finite = v.low;
      reference_small = rw e (size_low _ r.width _ _ _ _ r.packable v r.readings_value);
      exponent_bound = rw e (few _ r.width _ _ _ _ r.packable v r.readings_value);
      width_bound = r.width.high;
    }

pub codes_of-requires : goal.codes_of-requires
codes_of-requires c =
    let r = c.requires in
    let v = values _ _ _ _ r.packable c.type_inv.readings r.readings_value in
    let e = c.least_step-exponent.ensures in
    record {
      all_ready = rw e (all_ready _ r.width _ _ _ _ r.packable v r.readings_value);
      all_held = rw e (all_within _ r.width _ _ _ _ r.packable v r.readings_value);
      readings_len = r.readings_len;
    }

pub returns : goal.returns
returns c =
    let r = c.requires in
    let v = values _ _ _ _ r.packable c.type_inv.readings r.readings_value in
    let e = c.least_step-exponent in
    record {
      layer = record {
        reference = reference_is _ r.width _ _ _ _ r.packable v r.readings_value;
        exponent = to_z-of_z {w = w32} {z = c.stored.result} (search rules) ∙ c.stored.ensures ∙ stored_is _ r.width _ _ _ _ r.packable v r.readings_value e.result e.ensures;
      };
      content = c.codes_of.ensures ∙ codes_are _ r.width _ _ _ _ r.packable v r.readings_value e.result e.ensures;
    }
