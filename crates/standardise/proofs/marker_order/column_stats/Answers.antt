-- `column_stats`: some values more, or one.
use Rattle.std.proofs.Common.{◌+◌, length, ap, ◌∙◌, arith, rules, refl}
use lib.Ieee.{binary64, of_bits}
use Rattle.statistics.specs.Statistics.{counted, accumulated}
use Rattle.statistics.proofs.CountLaws.{accumulated_more, column_found}
use Rattle.standardise.specs.Private.{nth}
use Rattle.standardise.proofs.ColumnLaws.{length_rest, in_rest}
use native.Mathlib.Nat.{add_assoc}
use Rattle.standardise.proofs.marker_order.column_stats.Goals as goal

pub loop-passed-init : goal.loop-passed-init
unfolding accumulated of_bits
loop-passed-init c = (omega arith, search rules)

pub loop-passed-smaller : goal.loop-passed-smaller
loop-passed-smaller c = omega (arith, c.add_some-some.ensures.0, c.add_some-some.ensures.1, c.loop-passed-test.true)

pub loop-passed-preserved : goal.loop-passed-preserved
loop-passed-preserved c =
    let e = c.add_some-some.ensures in (
      omega (arith, e.1, c.loop-passed-test.true),
      e.2 (nth c.args.column.now) refl refl refl refl c.loop-passed.invariant.1,
    )

pub loop-v-preserved : goal.loop-v-preserved
loop-v-preserved c =
    let xs = c.args.column.now in
    let p = c.loop-passed.passed in
    let i = c.loop-v.v-index in
    accumulated_more binary64 (nth xs) (p + i) (c.add_value-a.ensures ∙ ap (counted binary64 c.loop-v.a) (in_rest xs p i)) c.loop-v.invariant
    ∙ ap (accumulated binary64 (nth xs)) (add_assoc p i 1)

pub returns : goal.returns
returns c =
    let xs = c.args.column.now in
    let p = c.loop-passed.passed in
    let n = length_rest xs p in
    let b = c.loop-passed.invariant.0 in
    column_found binary64 (nth xs) (length xs) (p + c.loop-v.v-index) c.find_stats.ensures c.loop-v.invariant (omega (arith, n, b, c.loop-v.auto.v-index-end)) (omega (arith, n, b, c.loop-v-test.false))
