-- `apply_tile`: a row more.
use Rattle.std.proofs.Common.{◌+◌, ◌*◌, arith}
use lib.Ieee.{binary64}
use Rattle.standardise.specs.Private.{scaled_at}
use Rattle.standardise.proofs.StoreLaws.{row_put}
use Rattle.standardise.proofs.TileLaws.{row_inside}
use Rattle.standardise.proofs.ApplyLaws.{rows_none, rows_more_law, rows_all, rows_length}
use Rattle.standardise.proofs.animal_order.apply_tile.Goals as goal

pub loop-i-init : goal.loop-i-init
loop-i-init c = rows_none binary64 _ _ _ _ _ _ c.requires.0.0

pub loop-i-preserved : goal.loop-i-preserved
loop-i-preserved c =
    let a = c.args in
    rows_more_law binary64 _ _ _ _ _ _ c.loop-i.i c.loop-i.val _ _ c.loop-i-test.true c.requires.1 c.loop-i.invariant c.load.ensures
    (row_put c.loop-i.val (c.loop-i.i * a.sid_count + a.base) _
    (omega (arith, rows_length binary64 _ _ _ _ _ _ c.loop-i.i c.loop-i.val c.loop-i.invariant, row_inside a.iid_count a.sid_count a.base a.width c.loop-i.i c.loop-i-test.true c.requires.1)) a.width (scaled_at binary64 _) _ (omega arith) c.apply_row.ensures)

pub returns : goal.returns
returns c = rows_all binary64 _ _ _ _ _ _ _ _ c.loop-i.invariant (omega arith)
