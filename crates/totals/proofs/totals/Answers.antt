-- `totals` meets its contract: by the questions on each way, and the lanes joined are the sum in order.
use borrow.Author.Rules.{rules}
use borrow.Author.Tests.{leb-true}
use mathlib.Core.Bool.{true}
use mathlib.Core.List.{List}
use mathlib.Core.Path.{◌≡◌, refl, sym, ap, ◌∙◌}
use Prim.Native.Nat.{ℕ, ◌≤◌, ◌<◌}
use native.Mathlib.Omega.{arith}
use lib.Dec.{leb}
use lib.ListN.{length, get_or}
use Rattle.meaning.specs.Questions.{accepted, length_in_range}
use Rattle.meaning.specs.Totals.{totals_of, in_order_sum, if_present}
use Rattle.meaning.proofs.Accepted.{and_second}
use Rattle.meaning.proofs.Totals.{joined}
use Rattle.totals.specs.Gathered.{Gathered, joined_of}
use Rattle.totals.specs.declared.Lanes.{Lanes}
use Rattle.totals.proofs.Gathering.{summed_most, sum_most}
use Rattle.totals.proofs.Asked.{three, eleven, twelve, done}
use Rattle.totals.proofs.totals.Goals as goal

-- a layer has at most 65,536 codes
few_codes : (n : ℕ) → length_in_range n ≡ true → n ≤ 65536
few_codes n e = leb-true n 65536 (and_second (leb 1 n) (leb n 65536) e)

-- the lanes joined are the sum in order
sum_is : (m : ℕ) (cs : List ℕ) (l : Lanes) → Gathered (if_present m) cs l → joined_of l ≡ in_order_sum (if_present m) cs
sum_is m cs l g = rw (g.a, g.b, g.c, g.d) (joined (if_present m) cs).in_order

small : (m c : ℕ) → c < 65536 → if_present m c ≤ 65535
small m c h = omega (arith, summed_most m c)

pub returns-then-not-length_in_range : goal.returns-then-not-length_in_range
returns-then-not-length_in_range c = three _ _ (sym c.length_in_range.ensures ∙ c.if-not-length_in_range.true)

pub returns-then-not-width_in_range : goal.returns-then-not-width_in_range
returns-then-not-width_in_range c =
    eleven _ _ (sym c.length_in_range.ensures ∙ c.if-not-length_in_range.false) (sym c.width_in_range.ensures ∙ c.if-not-width_in_range.true)

pub missing_of-missing-requires : goal.missing_of-missing-requires
missing_of-missing-requires c =
    let w = c.args.width in
    leb-true w 16 (and_second (leb 2 w) (leb w 16) (sym c.width_in_range.ensures ∙ c.if-not-width_in_range.false))

pub returns-then-missing-bits_of : goal.returns-then-missing-bits_of
returns-then-missing-bits_of c =
    twelve _ _ (sym c.length_in_range.ensures ∙ c.if-not-length_in_range.false) (sym c.width_in_range.ensures ∙ c.if-not-width_in_range.false) _ c.bits_of.ensures
    (omega (arith, c.if-missing-bits_of.true, c.missing_of-missing.ensures))

pub count_present-count-requires : goal.count_present-count-requires
count_present-count-requires c = few_codes (length c.args.codes.now) (sym c.length_in_range.ensures ∙ c.if-not-length_in_range.false)

pub gather-lanes-requires : goal.gather-lanes-requires
gather-lanes-requires c = few_codes (length c.args.codes.now) (sym c.length_in_range.ensures ∙ c.if-not-length_in_range.false)

pub join_lanes-sum-requires : goal.join_lanes-sum-requires
join_lanes-sum-requires c =
    let m = c.missing_of-missing.result in
    omega (
      arith,
      sum_is m c.args.codes.now c.gather-lanes.result c.gather-lanes.ensures,
      few_codes (length c.args.codes.now) (sym c.length_in_range.ensures ∙ c.if-not-length_in_range.false),
      sum_most (if_present m) c.args.codes.now (λ i. small m (get_or c.args.codes.now i 0) (search rules)),
    )

pub returns : goal.returns
unfolding totals_of
returns c =
    let m = c.missing_of-missing.ensures in
    ap accepted (rw (c.count_present-count.ensures, c.join_lanes-sum.ensures, sum_is c.missing_of-missing.result c.args.codes.now c.gather-lanes.result c.gather-lanes.ensures, m) refl)
    ∙ done _ _ (sym c.length_in_range.ensures ∙ c.if-not-length_in_range.false) (sym c.width_in_range.ensures ∙ c.if-not-width_in_range.false) _ c.bits_of.ensures
    (omega (arith, c.if-missing-bits_of.false, m))
