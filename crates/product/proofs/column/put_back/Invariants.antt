-- `put_back`: the first i values are in their places, and the other places are as they were.
use mathlib.Core.Path.{◌≡◌}
use lib.ListN.{length}
use Rattle.product.proofs.ColumnLaws.{PutTo}
use Rattle.product.proofs.column.put_back.Given as goal

abbrev pub invariant-loop-i : goal.invariant-loop-i
invariant-loop-i l = (length l.piece ≡ length l.initial.piece) × PutTo l.src l.from l.width l.initial.piece l.piece l.i
