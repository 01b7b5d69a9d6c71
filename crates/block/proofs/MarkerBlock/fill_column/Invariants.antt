-- Each turn fills one place more.
use Rattle.block.proofs.ColumnLaws.{Filled}
use Rattle.block.proofs.MarkerBlock.fill_column.Given as goal

abbrev pub invariant-loop-a : goal.invariant-loop-a
invariant-loop-a g l = Filled g.T.BedVal.width l.fn.coding.is_a1_counted l.fn.coding.missing l.self.bytes.now l.out l.a
