-- `apply_column`: the values passed are standardised.
use Rattle.std.proofs.Common.{◌≡◌, ◌++◌, map, take, drop}
use lib.Ieee.{binary64}
use Rattle.statistics.specs.Statistics.{standardised}
use Rattle.standardise.proofs.marker_order.apply_column.Given as goal

abbrev pub invariant-loop-v : goal.invariant-loop-v
invariant-loop-v l = l.column ≡ map (standardised binary64 l.fn.s) (take l.v-index l.initial.column) ++ drop l.v-index l.initial.column
