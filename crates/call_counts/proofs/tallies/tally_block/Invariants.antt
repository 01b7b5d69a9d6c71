-- `tally_block`: the tally of the rows, then of the bytes so far, then of the items.
use Rattle.std.proofs.Common.{◌≡◌, ◌*◌}
use Rattle.call_counts.specs.Private.{tally_items}
use Rattle.call_counts.proofs.tallies.tally_block.Given as goal

abbrev pub invariant-loop-b : goal.invariant-loop-b
invariant-loop-b l = l.sum ≡ tally_items l.file l.start (4 * l.b)

abbrev pub invariant-loop-i : goal.invariant-loop-i
invariant-loop-i l = l.sum ≡ tally_items l.file l.start l.i
