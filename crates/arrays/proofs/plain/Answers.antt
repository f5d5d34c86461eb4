-- By the method, each loop's outcome is the method's.
use Rattle.std.proofs.Common.{ℕ, sym, ap, arith}
use mathlib.Core.Path.{subst}
use Prim.Native.Nat.{◌≤◌}
use Rattle.method.specs.Kinds.{number_of}
use Rattle.loops.proofs.Methods.{suits_tail, suits_keep, add_fits, by_tail, by_round, by_absolute, by_digits}
use Rattle.arrays.proofs.Outcomes.{trimmed_as}
use Rattle.arrays.proofs.Others.{tails_only}
use Rattle.arrays.proofs.plain.Goals as goal
use Rattle.arrays.proofs.plain.Goals.{In_default}

pub with_digits_kept-requires : goal.with_digits_kept-requires
with_digits_kept-requires g c =
    let p = c.requires in
    let six = ap number_of c.in-Digits.is in
    ((p.0.fitting.some six, p.0.fitting.few six), p.2)

pub returns-in-Digits : goal.returns-in-Digits
returns-in-Digits g c =
    let m = g.W.Word in
    let j = c.args.job in
    trimmed_as _ _ (by_digits m.FRACTION m.EXPONENT (m.value c.args.mark) (number_of j.method) j.n (ap number_of c.in-Digits.is)) c.with_digits_kept.ensures

pub returns-in-Absolute : goal.returns-in-Absolute
returns-in-Absolute g c =
    let m = g.W.Word in
    let j = c.args.job in
    trimmed_as _ _ (by_absolute m.FRACTION m.EXPONENT (m.value c.args.mark) (number_of j.method) j.n (ap number_of c.in-Absolute.is)) c.stepped.ensures

pub rounded-requires : goal.rounded-requires
rounded-requires g c = let p = c.requires in (suits_tail p.0, p.2)

pub returns-in-Round : goal.returns-in-Round
returns-in-Round g c =
    let m = g.W.Word in
    let j = c.args.job in
    let four = ap number_of c.in-Round.is in
    let l : number_of j.method ≤ 4 = omega (arith, four) in
    trimmed_as _ _ (by_round m.FRACTION m.EXPONENT (m.value c.args.mark) (number_of j.method) j.n (suits_keep c.requires.0 l) (c.requires.0.fitting.keep l) four) c.rounded.ensures

pub with_tails-requires : goal.with_tails-requires
with_tails-requires g c =
    let m = g.W.Word in
    let tail = suits_tail c.requires.0 in
    ((tail, subst (λ (a : ℕ). a ≤ m.value c.args.job.tail.ones) (sym c.add_for.ensures) (add_fits (number_of c.args.job.method) tail)), c.requires.2)

pub returns-in_default : goal.returns-in_default
returns-in_default g c =
    let m = g.W.Word in
    let j = c.args.job in
    let l = tails_only j.method c.in_default.not-Digits c.in_default.not-Absolute c.in_default.not-Round in
    trimmed_as _ _ (by_tail m.FRACTION m.EXPONENT (m.value c.args.mark) (number_of j.method) j.n (suits_keep c.requires.0 (omega (arith, l))) l c.requires.1 c.add_for.ensures) c.with_tails.ensures
