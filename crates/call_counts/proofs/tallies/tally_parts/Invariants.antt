-- `tally_parts`: the tally so far.
use Rattle.std.proofs.Common.{◌≡◌}
use Rattle.call_counts.specs.Private.{tally_parts}
use Rattle.call_counts.proofs.tallies.tally_parts.Given as goal

abbrev pub invariant-loop-k : goal.invariant-loop-k
invariant-loop-k l = l.sum ≡ tally_parts l.file l.part l.parts l.k
