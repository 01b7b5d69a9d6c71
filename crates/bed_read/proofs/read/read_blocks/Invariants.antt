-- `read_blocks`: the lines so far are filled.
use Rattle.std.proofs.Common.{length}
use Rattle.bed_read.proofs.MatrixLaws.{ReadTile}
use Rattle.bed_read.proofs.read.read_blocks.Given as goal

abbrev pub invariant-loop-o : goal.invariant-loop-o
invariant-loop-o g l =
    let m = l.lines in
    ReadTile g.O.Item.is_animal l.values.table.now g.T.BedVal.width.zero m.file.now m.shape m.outer.now m.inner.now l.val 0 (length m.inner.now) l.o
