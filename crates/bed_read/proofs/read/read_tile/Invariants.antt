-- `read_tile`: the lines so far are filled up to the tile's end.
use Rattle.std.proofs.Common.{◌*◌}
use Rattle.bed_read.proofs.MatrixLaws.{ReadTile}
use Rattle.bed_read.proofs.read.read_tile.Given as goal

abbrev pub invariant-loop-four : goal.invariant-loop-four
invariant-loop-four g l =
    let m = l.lines in
    ReadTile g.O.Item.is_animal l.values.table.now g.T.BedVal.width.zero m.file.now m.shape m.outer.now m.inner.now l.val l.from l.until (4 * l.four)

abbrev pub invariant-loop-o : goal.invariant-loop-o
invariant-loop-o g l =
    let m = l.lines in
    ReadTile g.O.Item.is_animal l.values.table.now g.T.BedVal.width.zero m.file.now m.shape m.outer.now m.inner.now l.val l.from l.until l.o
