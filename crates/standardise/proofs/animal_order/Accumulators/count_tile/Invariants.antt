-- `count_tile`: the animals passed are counted, four at a time and then one by one.
use Rattle.std.proofs.Common.{◌*◌}
use lib.Ieee.{binary64}
use Rattle.standardise.proofs.TileLaws.{TileCounted}
use Rattle.standardise.proofs.animal_order.Accumulators.count_tile.Given as goal

abbrev pub invariant-loop-four : goal.invariant-loop-four
invariant-loop-four l = TileCounted binary64 l.iid_count l.sid_count l.base l.width l.val (l.four * 4) l.self

abbrev pub invariant-loop-i : goal.invariant-loop-i
invariant-loop-i l = TileCounted binary64 l.iid_count l.sid_count l.base l.width l.val l.i l.self
