-- `read_matrix`: every line is filled up to the tile.
use Rattle.std.proofs.Common.{◌-◌}
use Rattle.bed_read.specs.Private.{ReadTo}
use Rattle.bed_read.proofs.read.read_matrix.Given as goal

abbrev pub invariant-loop-from : goal.invariant-loop-from
invariant-loop-from g l =
    let m = l.lines in
    ReadTo g.O.Item.is_animal l.values.table.now g.T.BedVal.width.zero m.file.now m.shape m.outer.now m.inner.now l.val l.from

abbrev pub decreases-loop-from : goal.decreases-loop-from
decreases-loop-from g l = l.inner - l.from
