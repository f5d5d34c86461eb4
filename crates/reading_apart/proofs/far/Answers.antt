-- By the law on words: with one sign the smaller size is rounded down and taken off, with two it is rounded up and added.
use mathlib.Core.Path.{◌≡◌, sym}
use Prim.Native.Nat.{ℕ, min, ◌+◌, ◌-◌, ◌*◌, ◌^◌, ◌≤◌}
use native.Mathlib.Nat.{div-le_self}
use native.Mathlib.Omega.{arith}
use lib.Pow.{pow_pos, pow_mono}
use borrow.Author.Rules.{rules}
use Rattle.meaning.specs.Readings.{spacing_exp}
use Rattle.meaning.proofs.Sizes.{spacing_mono}
use Rattle.reading_apart.specs.Words.{cut_limit, significand}
use Rattle.reading_apart.proofs.Sums.{Worked, words_same, words_opposite}
use Rattle.reading_apart.proofs.far.Goals as goal

worked : {bits high low q u v limit d x y : ℕ}
    → x ≡ spacing_exp bits high → y ≡ spacing_exp bits low → u ≡ 2 * significand bits high → v ≡ 2 * significand bits low
    → limit ≡ cut_limit bits x q → d ≡ min (x - y) (bits + 3) → Worked bits high low q u v limit d
worked ex ey eu ev el ed = record { first = eu; second = ev; cut = rw (sym ex) el; shift = rw (sym ex, sym ey) ed }

few : (n : ℕ) {bits d : ℕ} → d ≡ min n (bits + 3) → bits ≤ 52 → d ≤ 55
few n e h = omega arith

pub overflow_sub-x : goal.overflow_sub-x
overflow_sub-x c =
    let s = c.args in
    omega (arith, c.spacing_exponent-x.ensures, c.spacing_exponent-y.ensures, spacing_mono s.bits {m = s.low} {n = s.high} (search rules))

pub power-requires : goal.power-requires
power-requires c = omega (arith, few _ c.min-d.ensures c.requires.0)

pub overflow_sub-result : goal.overflow_sub-result
overflow_sub-result c = omega (arith, c.power.ensures, pow_pos c.min-d.result)

pub overflow_add-result : goal.overflow_add-result
overflow_add-result c = omega (arith, c.power.ensures, pow_mono (few _ c.min-d.ensures c.requires.0), c.twice_significand-v.ensures.small)

pub overflow_shr-result : goal.overflow_shr-result
overflow_shr-result c = omega (arith, few _ c.min-d.ensures c.requires.0)

pub overflow_add-result-then-opposite : goal.overflow_add-result-then-opposite
overflow_add-result-then-opposite c =
    omega (
      arith,
      c.power.ensures,
      pow_mono (few _ c.min-d.ensures c.requires.0),
      c.twice_significand-v.ensures.small,
      c.twice_significand-u.ensures.small,
      div-le_self (c.twice_significand-v.result + (c.power.result - 1)) (2 ^ c.min-d.result),
    )

pub returns-then-opposite : goal.returns-then-opposite
returns-then-opposite c =
    rw (c.power.ensures, c.if-opposite.true) (words_opposite _ _ _ _ (worked c.spacing_exponent-x.ensures c.spacing_exponent-y.ensures c.twice_significand-u.ensures.value c.twice_significand-v.ensures.value c.limit_at-limit.ensures.value c.min-d.ensures) (search rules))

pub overflow_shr-result-2 : goal.overflow_shr-result-2
overflow_shr-result-2 c = omega (arith, few _ c.min-d.ensures c.requires.0)

pub overflow_add-result-2 : goal.overflow_add-result-2
overflow_add-result-2 c =
    omega (arith, c.limit_at-limit.ensures.small, c.twice_significand-v.ensures.small, div-le_self c.twice_significand-v.result (2 ^ c.min-d.result))

pub returns : goal.returns
returns c = rw c.if-opposite.false (words_same _ _ _ _ (worked c.spacing_exponent-x.ensures c.spacing_exponent-y.ensures c.twice_significand-u.ensures.value c.twice_significand-v.ensures.value c.limit_at-limit.ensures.value c.min-d.ensures) (search rules))
