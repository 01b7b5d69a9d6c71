-- `read_four`: the places so far of the four lines are stored.
use Rattle.std.proofs.Common.{◌+◌, ◌*◌}
use Rattle.bed_read.specs.Private.{block_value, Drawn}
use Rattle.bed_read.proofs.read.read_four.Given as goal

abbrev pub invariant-loop-pair : goal.invariant-loop-pair
invariant-loop-pair g l =
    Drawn g.T.BedVal.width.zero 4 l.n (λ j i. l.at + j * l.inner + i) (block_value l.values.table.now g.T.BedVal.width.zero l.file l.starts l.parts) l.initial.val (2 * l.pair) l.val
