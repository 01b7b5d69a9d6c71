-- `count_along`: the entries so far are counted at every marker; runs begin at whole bytes.
use Rattle.std.proofs.Common.{◌≡◌, ◌%◌, ◌≤◌, length}
use Rattle.call_counts.specs.Runs.{EntriesCounted}
use Rattle.call_counts.proofs.count_along.Given as goal

abbrev pub invariant-loop-from : goal.invariant-loop-from
invariant-loop-from l =
    (l.from-counter ≤ length l.lists.iid_index.now) × (l.from-counter % 4 ≡ 0)
    × EntriesCounted l.lists l.from-counter l.counts
