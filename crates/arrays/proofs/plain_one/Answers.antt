-- By the method, each outcome is the method's.
use Rattle.std.proofs.Common.{ℕ, ◌∙◌, refl, sym, ap, arith}
use mathlib.Core.Path.{subst}
use Prim.Native.Nat.{◌≤◌}
use Rattle.method.specs.Kinds.{number_of}
use Rattle.loops.proofs.Methods.{suits_tail, suits_keep, add_fits, by_tail, by_round, by_absolute, by_digits}
use Rattle.arrays.proofs.Others.{tails_only}
use Rattle.arrays.proofs.plain_one.Goals as goal

pub with_digits-requires : goal.with_digits-requires
with_digits-requires g c =
    let p = c.requires in
    let six = ap number_of c.in-Digits.is in
    ((p.0.fitting.some six, p.0.fitting.few six), refl)

pub returns-in-Digits : goal.returns-in-Digits
returns-in-Digits g c =
    let m = g.W.Word in
    let s = c.args in
    c.with_digits.ensures ∙ by_digits m.FRACTION m.EXPONENT (m.value s.mark) (number_of s.job.method) s.job.n (ap number_of c.in-Digits.is) (m.value s.x)

pub returns-in-Absolute : goal.returns-in-Absolute
returns-in-Absolute g c =
    let m = g.W.Word in
    let s = c.args in
    let stepped = rw c.of.ensures at c.stepped_by_words.ensures in
    stepped ∙ by_absolute m.FRACTION m.EXPONENT (m.value s.mark) (number_of s.job.method) s.job.n (ap number_of c.in-Absolute.is) (m.value s.x)

pub rounded_one-requires : goal.rounded_one-requires
rounded_one-requires g c = suits_tail c.requires.0

pub returns-in-Round : goal.returns-in-Round
returns-in-Round g c =
    let m = g.W.Word in
    let s = c.args in
    let four = ap number_of c.in-Round.is in
    let l : number_of s.job.method ≤ 4 = omega (arith, four) in
    c.rounded_one.ensures ∙ by_round m.FRACTION m.EXPONENT (m.value s.mark) (number_of s.job.method) s.job.n (suits_keep c.requires.0 l) (c.requires.0.fitting.keep l) four (m.value s.x)

pub with_tail-requires : goal.with_tail-requires
with_tail-requires g c =
    let m = g.W.Word in
    let tail = suits_tail c.requires.0 in
    (tail, subst (λ (a : ℕ). a ≤ m.value c.args.job.tail.ones) (sym c.add_for.ensures) (add_fits (number_of c.args.job.method) tail))

pub returns-in_default : goal.returns-in_default
returns-in_default g c =
    let m = g.W.Word in
    let s = c.args in
    let l = tails_only s.job.method c.in_default.not-Digits c.in_default.not-Absolute c.in_default.not-Round in
    c.with_tail.ensures ∙ by_tail m.FRACTION m.EXPONENT (m.value s.mark) (number_of s.job.method) s.job.n (suits_keep c.requires.0 (omega (arith, l))) l c.requires.1 c.add_for.ensures (m.value s.x)
