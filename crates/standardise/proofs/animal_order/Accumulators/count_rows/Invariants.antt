-- `count_rows`: the markers passed are counted, and the animals passed of the next one.
use Rattle.std.proofs.Common.{◌≡◌, ◌+◌}
use lib.Ieee.{binary64}
use Rattle.standardise.specs.Private.{counted_rows, accumulator_at}
use Rattle.standardise.proofs.TileLaws.{RowCounted}
use Rattle.standardise.proofs.animal_order.Accumulators.count_rows.Given as goal

abbrev pub invariant-loop-j : goal.invariant-loop-j
invariant-loop-j g l = RowCounted (λ j. counted_rows binary64 l.val (l.start + j) l.stride g.row.ROWS) l.initial.self l.j l.self

abbrev pub invariant-loop-r : goal.invariant-loop-r
invariant-loop-r g l = l.a ≡ counted_rows binary64 l.val (l.start + l.j) l.stride l.r (accumulator_at l.self l.j)
