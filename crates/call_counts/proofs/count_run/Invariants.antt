-- `count_run`: the markers so far are counted up to the end of the run.
use Rattle.std.proofs.Common.{◌+◌, ◌*◌, length}
use Rattle.call_counts.specs.Private.{count_at}
use Rattle.call_counts.proofs.CountLaws.{RunTo}
use Rattle.call_counts.proofs.count_run.Given as goal

abbrev pub invariant-loop-m : goal.invariant-loop-m
invariant-loop-m g l =
    RunTo (count_at l.lists.file.now l.lists.shape.iids l.lists.shape.sids l.lists.iid_index.now l.lists.sid_index.now) (4 * length l.lists.sid_index.now) l.from (l.from + l.n) l.m l.counts
