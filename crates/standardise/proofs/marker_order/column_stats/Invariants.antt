-- `column_stats`: the accumulator is that of the animals passed.
use Rattle.std.proofs.Common.{◌≡◌, ◌+◌, ◌-◌, ◌≤◌, length}
use lib.Ieee.{binary64}
use Rattle.statistics.specs.Statistics.{accumulated}
use Rattle.standardise.specs.Private.{nth}
use Rattle.standardise.proofs.marker_order.column_stats.Given as goal

abbrev pub invariant-loop-passed : goal.invariant-loop-passed
invariant-loop-passed l = (l.passed ≤ length l.column) × (l.a ≡ accumulated binary64 (nth l.column) l.passed)

abbrev pub decreases-loop-passed : goal.decreases-loop-passed
decreases-loop-passed l = length l.column - l.passed

abbrev pub invariant-loop-v : goal.invariant-loop-v
invariant-loop-v l = l.a ≡ accumulated binary64 (nth l.column) (l.passed + l.v-index)
