-- Groomed by the turn's parity, or by a method that doesn't look at the turn.
use Rattle.std.proofs.Common.{ℕ, ◌∙◌, ap, ap₂, refl, arith}
use Rattle.method.specs.Kinds.{number_of}
use Rattle.method.specs.declared.Method.{Method}
use Rattle.asking.specs.Asked.{method_by}
use Rattle.reading.specs.Left.{settled_by}
use Rattle.reading.specs.Words.{constants_at}
use Rattle.loops.proofs.Methods.{suits_tail, suits_keep, groom_at, turnless}
use Rattle.arrays.proofs.Others.{not_groom}
use Rattle.arrays.proofs.one_by_method.Goals as goal

pub groomed_one-requires : goal.groomed_one-requires
groomed_one-requires g c = suits_tail c.job_of-job.ensures.tail

pub returns-in-Groom : goal.returns-in-Groom
returns-in-Groom g c =
    let m = g.W.Word in
    let s = c.args in
    let j = c.job_of-job in
    let two = ap number_of (j.ensures.method ∙ c.in-Groom.is) in
    c.groomed_one.ensures
    ∙ groom_at m.FRACTION m.EXPONENT (number_of j.result.method) j.result.n (m.value s.mark) two (constants_at m.value j.result.tail) (suits_keep j.ensures.tail (omega (arith, two))) s.turn (m.value s.x) refl
    ∙ ap₂ (λ (k : Method) (n : ℕ). settled_by m.FRACTION m.EXPONENT (method_by (number_of k) n) (m.value s.mark) s.turn (m.value s.x)) j.ensures.method j.ensures.setting

pub plain_one-requires : goal.plain_one-requires
plain_one-requires g c = let j = c.job_of-job in (j.ensures.tail, rw j.ensures.method (not_groom c.args.method c.in_default.not-Groom))

pub returns-in_default : goal.returns-in_default
returns-in_default g c =
    let m = g.W.Word in
    let s = c.args in
    let j = c.job_of-job in
    c.plain_one.ensures
    ∙ turnless m.FRACTION m.EXPONENT (number_of j.result.method) j.result.n (m.value s.mark) (rw j.ensures.method (not_groom c.args.method c.in_default.not-Groom)) s.turn (m.value s.x)
    ∙ ap₂ (λ (k : Method) (n : ℕ). settled_by m.FRACTION m.EXPONENT (method_by (number_of k) n) (m.value s.mark) s.turn (m.value s.x)) j.ensures.method j.ensures.setting
