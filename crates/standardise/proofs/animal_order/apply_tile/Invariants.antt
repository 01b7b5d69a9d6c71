-- `apply_tile`: the animals passed have their values standardised.
use lib.Ieee.{binary64}
use Rattle.standardise.proofs.ApplyLaws.{RowsPassed}
use Rattle.standardise.proofs.animal_order.apply_tile.Given as goal

abbrev pub invariant-loop-i : goal.invariant-loop-i
invariant-loop-i l = RowsPassed binary64 l.iid_count l.sid_count l.stats l.initial.val l.base l.width l.i l.val
