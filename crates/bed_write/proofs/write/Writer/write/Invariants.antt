-- Tile by tile, every byte is the file's.
use Rattle.std.proofs.Common.{◌-◌}
use Rattle.bed_write.specs.Private.{matrix_code}
use Rattle.bed_write.proofs.RowLaws.{Rows}
use Rattle.bed_write.proofs.write.Writer.write.Given as goal

abbrev pub invariant-loop-m : goal.invariant-loop-m
invariant-loop-m g l =
    let m = l.fn.self.matrix in
    Rows m.iid_count m.sid_count (matrix_code g.T.BedVal.width (g.C.Coder.coding l.fn.self.coder) m.animal_order m.iid_count m.sid_count m.val.now) l.width l.out l.from l.until l.b l.m

abbrev pub invariant-loop-b : goal.invariant-loop-b
invariant-loop-b g l =
    let m = l.fn.self.matrix in
    Rows m.iid_count m.sid_count (matrix_code g.T.BedVal.width (g.C.Coder.coding l.fn.self.coder) m.animal_order m.iid_count m.sid_count m.val.now) l.width l.out l.from l.until l.b 0

abbrev pub invariant-loop-from : goal.invariant-loop-from
invariant-loop-from g l =
    let m = l.fn.self.matrix in
    Rows m.iid_count m.sid_count (matrix_code g.T.BedVal.width (g.C.Coder.coding l.fn.self.coder) m.animal_order m.iid_count m.sid_count m.val.now) l.width l.out l.from l.from 0 0

abbrev pub decreases-loop-from : goal.decreases-loop-from
decreases-loop-from g l = l.fn.self.matrix.sid_count - l.from
