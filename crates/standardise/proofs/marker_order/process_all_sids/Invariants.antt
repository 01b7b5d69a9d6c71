-- `process_all_sids`: the markers passed.
use lib.Ieee.{binary64}
use Rattle.standardise.specs.Says.{standardise_says}
use Rattle.standardise.proofs.PassLaws.{Passed}
use Rattle.standardise.proofs.marker_order.process_all_sids.Given as goal

abbrev pub invariant-loop-m : goal.invariant-loop-m
invariant-loop-m l = Passed binary64 l.iid_count l.sid_count l.initial.val l.use_stats l.initial.stats l.apply_in_place l.m (standardise_says l.answer) l.val l.stats
