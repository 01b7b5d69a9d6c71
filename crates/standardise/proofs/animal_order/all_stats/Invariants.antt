-- `all_stats`: the markers passed, tile by tile.
use mathlib.Core.Bool.{false, true}
use Prim.Native.Nat.{◌-◌}
use lib.Ieee.{binary64}
use Rattle.standardise.specs.Standardised.{found}
use Rattle.standardise.specs.Says.{standardise_says}
use Rattle.standardise.proofs.PassLaws.{StatsPassed}
use Rattle.standardise.proofs.TileLaws.{PassedFrom}
use Rattle.standardise.proofs.animal_order.all_stats.Given as goal

abbrev pub invariant-loop-j : goal.invariant-loop-j
invariant-loop-j l = PassedFrom binary64 l.iid_count l.sid_count l.val l.base (standardise_says l.initial.lowest) l.initial.stats l.j (standardise_says l.lowest) l.stats

abbrev pub invariant-loop-base : goal.invariant-loop-base
invariant-loop-base l = StatsPassed l.sid_count (found binary64 true l.iid_count l.sid_count l.val false l.initial.stats) l.initial.stats l.base (standardise_says l.lowest) l.stats

abbrev pub decreases-loop-base : goal.decreases-loop-base
decreases-loop-base l = l.sid_count - l.base
