-- `count_resolved`: the entries so far are counted at every marker.
use Rattle.std.proofs.Common.{◌≤◌, length}
use Rattle.call_counts.specs.Runs.{EntriesCounted}
use Rattle.call_counts.proofs.count_resolved.Given as goal

abbrev pub invariant-loop-from : goal.invariant-loop-from
invariant-loop-from l = (l.from ≤ length l.lists.iid_index.now) × EntriesCounted l.lists l.from l.counts
