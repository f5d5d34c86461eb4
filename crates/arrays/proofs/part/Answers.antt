-- Groomed, or by a method that doesn't look at the state.
use Rattle.std.proofs.Common.{◌∙◌, ap, arith}
use mathlib.Core.List.{map}
use Prim.Native.Nat.{◌≤◌}
use Rattle.std.proofs.lemmas.List.{length-map}
use Rattle.method.specs.Kinds.{number_of}
use Rattle.reading.specs.Words.{constants_at}
use Rattle.loops.proofs.Methods.{suits_tail, suits_keep, groom_tallied, groom_walked, groom_state, other_tallied, other_walked, other_state}
use Rattle.arrays.proofs.Others.{not_groom}
use Rattle.arrays.proofs.part.Goals as goal

pub groom-requires : goal.groom-requires
groom-requires g c = let p = c.requires in (suits_tail p.0, p.1)

pub returns-in-Groom : goal.returns-in-Groom
returns-in-Groom g c =
    let m = g.W.Word in
    let s = c.args in
    let j = s.job in
    let k = number_of j.method in
    let two = ap number_of c.in-Groom.is in
    let l : k ≤ 4 = omega (arith, two) in
    let tail = suits_keep c.requires.0 l in
    let constants = constants_at m.value j.tail in
    let ws = map m.value s.readings.now in
    record {
      trimmed = record {
        sums = c.groom.ensures.sums ∙ groom_tallied m.FRACTION m.EXPONENT k j.n (m.value s.mark) two constants tail (m.value s.add) ws;
        content = c.groom.ensures.content ∙ groom_walked m.FRACTION m.EXPONENT k j.n (m.value s.mark) two constants tail (m.value s.add) ws;
      };
      add = c.groom.ensures.add ∙ (rw length-map at (groom_state m.FRACTION m.EXPONENT k j.n (m.value s.mark) two constants tail (m.value s.add) ws));
    }

pub all-requires : goal.all-requires
all-requires g c = let p = c.requires in (p.0, not_groom c.args.job.method c.in_default.not-Groom)

pub returns-in_default : goal.returns-in_default
returns-in_default g c =
    let m = g.W.Word in
    let s = c.args in
    let j = s.job in
    let k = number_of j.method in
    let other = not_groom j.method c.in_default.not-Groom in
    let ws = map m.value s.readings.now in
    record {
      trimmed = record {
        sums = c.all.ensures.sums ∙ other_tallied m.FRACTION m.EXPONENT k j.n (m.value s.mark) other (m.value s.add) ws;
        content = c.all.ensures.content ∙ other_walked m.FRACTION m.EXPONENT k j.n (m.value s.mark) other (m.value s.add) ws;
      };
      add = rw length-map at (other_state m.FRACTION m.EXPONENT k j.n (m.value s.mark) other (m.value s.add) ws);
    }
