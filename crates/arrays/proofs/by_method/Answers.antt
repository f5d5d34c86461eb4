-- The method's walk from the first turn on.
use Rattle.std.proofs.Common.{ℕ, ◌∙◌, ap₂}
use mathlib.Core.Logic.{inl}
use mathlib.Core.List.{map}
use Rattle.meaning.specs.Methods.{turn_after}
use Rattle.method.specs.Kinds.{number_of}
use Rattle.method.specs.declared.Method.{Method}
use Rattle.asking.specs.Asked.{method_by}
use Rattle.reading.specs.Left.{settled_by}
use Rattle.loops.specs.Walk.{walked_by, tallied_by}
use Rattle.loops.proofs.Methods.{whole_walked, whole_tallied}
use Rattle.arrays.proofs.by_method.Goals as goal

pub job_of-requires : goal.job_of-requires
job_of-requires g c = c.requires

pub part-requires : goal.part-requires
part-requires g c = (c.job_of.ensures.tail, inl c.zero.ensures)

pub returns : goal.returns
returns g c =
    let m = g.W.Word in
    let s = c.args in
    let j = c.job_of in
    let ws = map m.value s.readings.now in
    let it = rw c.zero.ensures at c.part.ensures.trimmed in
    record {
      sums = it.sums ∙ whole_tallied m.FRACTION m.EXPONENT (number_of j.result.method) j.result.n (m.value s.mark) ws
          ∙ ap₂ (λ (k : Method) (n : ℕ). tallied_by (turn_after m.FRACTION m.EXPONENT (m.value s.mark)) (settled_by m.FRACTION m.EXPONENT (method_by (number_of k) n) (m.value s.mark)) 0 ws) j.ensures.method j.ensures.setting;
      content = it.content ∙ whole_walked m.FRACTION m.EXPONENT (number_of j.result.method) j.result.n (m.value s.mark) ws
          ∙ ap₂ (λ (k : Method) (n : ℕ). walked_by (turn_after m.FRACTION m.EXPONENT (m.value s.mark)) (settled_by m.FRACTION m.EXPONENT (method_by (number_of k) n) (m.value s.mark)) 0 ws) j.ensures.method j.ensures.setting;
    }
