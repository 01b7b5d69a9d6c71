-- `apply_all`: the markers passed, tile by tile.
use Prim.Native.Nat.{◌-◌, ◌≤◌}
use lib.Ieee.{binary64}
use Rattle.standardise.proofs.ApplyLaws.{TilesPassed}
use Rattle.standardise.proofs.animal_order.apply_all.Given as goal

abbrev pub invariant-loop-base : goal.invariant-loop-base
invariant-loop-base l = (l.base ≤ l.sid_count) × TilesPassed binary64 l.iid_count l.sid_count l.stats l.initial.val l.base l.val

abbrev pub decreases-loop-base : goal.decreases-loop-base
decreases-loop-base l = l.sid_count - l.base
