-- `tally_rows`: the bits of the rows so far.
use Rattle.std.proofs.Common.{◌*◌}
use Rattle.call_counts.specs.Private.{BitsCounted}
use Rattle.call_counts.proofs.bits.tally_rows.Given as goal

abbrev pub invariant-loop-triple : goal.invariant-loop-triple
invariant-loop-triple l = BitsCounted l.file l.start (192 * l.triple) l.bits

abbrev pub invariant-loop-row : goal.invariant-loop-row
invariant-loop-row l = BitsCounted l.file l.start (64 * l.row) l.bits
