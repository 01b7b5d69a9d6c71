-- `read_line`: the places so far are stored.
use Rattle.std.proofs.Common.{length}
use Rattle.bed_read.specs.Private.{part_value, Drawn}
use Rattle.bed_read.proofs.read.read_line.Given as goal

abbrev pub invariant-loop-k : goal.invariant-loop-k
invariant-loop-k g l = Drawn g.T.BedVal.width.zero 1 (length l.initial.val) (λ _ i. i) (λ _. part_value l.values.table.now g.T.BedVal.width.zero l.file l.part l.parts) l.initial.val l.k l.val
