-- `fill_table`: the values so far are those of the codes.
use Rattle.std.proofs.Common.{◌+◌, ◌*◌}
use Rattle.codes.specs.Value.{value_of}
use Rattle.bed_read.proofs.TableLaws.{FilledTo}
use Rattle.bed_read.proofs.table.fill_table.Given as goal

abbrev pub invariant-loop-byte : goal.invariant-loop-byte
invariant-loop-byte g l = FilledTo l.fn.coding.missing (value_of g.T.BedVal.width l.fn.coding.is_a1_counted l.fn.coding.missing) l.table (4 * l.byte)

abbrev pub invariant-loop-place : goal.invariant-loop-place
invariant-loop-place g l = FilledTo l.fn.coding.missing (value_of g.T.BedVal.width l.fn.coding.is_a1_counted l.fn.coding.missing) l.table (4 * l.byte + l.place)
