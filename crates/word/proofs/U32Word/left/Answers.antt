-- The two patterns by what the reading loses.
use Rattle.std.proofs.Common.{◌≡◌, ℕ, ◌+◌, ◌%◌, ◌^◌, eqb, ap, ◌∙◌, add_comm, rules}
use Rattle.reading.specs.Left.{unless_missing, left_from}
use Rattle.reading.proofs.Settled.{lost}
use Rattle.word.proofs.U32Word.left.Goals as goal
use Rattle.word.proofs.U32Word.left.Goals.{After-wrapping_sub_u32-pattern}

-- a difference, the other way round
back : (a b x : ℕ) → (a + b) % 2 ^ 32 ≡ x → (b + a) % 2 ^ 32 ≡ x
back a b x e = ap (λ (y : ℕ). y % 2 ^ 32) (add_comm b a) ∙ e

-- the reading where it is missing, and the new pattern elsewhere
wanted : (c : After-wrapping_sub_u32-pattern) → let s = c.args in c.wrapping_sub_u32-wanted.result ≡ unless_missing s.mark s.self s.new
unfolding unless_missing
wanted c =
    let s = c.args in
    let d = c.wrapping_sub_u32 in
    let l = c.choose-loses in
    let y = c.wrapping_sub_u32-wanted in
    lost (2 ^ 32) s.self s.new d.result l.result y.result (eqb s.self s.mark) (search rules) (search rules) (search rules) d.ensures.value l.ensures y.ensures.value

pub returns-clause-wanted : goal.returns-clause-wanted
returns-clause-wanted c = wanted (goal.at.returns-clause-wanted c).After-wrapping_sub_u32-pattern

-- and the reading where that is the mark
pub returns-clause-pattern : goal.returns-clause-pattern
unfolding left_from
returns-clause-pattern c =
    let s = c.args in
    let l = c.choose-loses in
    let y = c.wrapping_sub_u32-wanted in
    let less = c.choose-lost in
    let p = c.wrapping_sub_u32-pattern in
    rw (← wanted (goal.at.returns-clause-pattern c).After-wrapping_sub_u32-pattern)
    (lost (2 ^ 32) s.self y.result l.result less.result p.result (eqb y.result s.mark) (search rules) (search rules) (search rules) (back y.result l.result s.self y.ensures.value) less.ensures p.ensures.value)
