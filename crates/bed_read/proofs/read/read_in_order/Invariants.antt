-- `read_in_order`: the places so far are stored.
use Rattle.std.proofs.Common.{length, ◌*◌}
use Rattle.bed_read.specs.Private.{item_value, Drawn}
use Rattle.bed_read.proofs.read.read_in_order.Given as goal

abbrev pub invariant-loop-b : goal.invariant-loop-b
invariant-loop-b g l = Drawn g.T.BedVal.width.zero 1 (length l.initial.val) (λ _ i. i) (λ _. item_value l.values.table.now g.T.BedVal.width.zero l.file l.start) l.initial.val (4 * l.b) l.val

-- the second loop goes on from where the first one left off
abbrev pub invariant-loop-i : goal.invariant-loop-i
invariant-loop-i g l = Drawn g.T.BedVal.width.zero 1 (length l.fn.val) (λ _ i. i) (λ _. item_value l.values.table.now g.T.BedVal.width.zero l.file l.start) l.fn.val l.i l.val
