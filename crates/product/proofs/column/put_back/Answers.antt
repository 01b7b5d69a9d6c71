use native.Mathlib.Omega.{arith}
use lib.ListN.{length-set}
use Rattle.product.proofs.ColumnLaws.{put_more}
use Rattle.product.proofs.column.put_back.Goals as goal

pub loop-i-preserved : goal.loop-i-preserved
loop-i-preserved c =
    let a = c.args in
    let s = c.requires in
    let w = c.loop-i in
    (simp length-set w.invariant.0, put_more a.src.now a.from a.width a.piece.now w.piece w.i s.0 (omega (arith, s.1 w.i (omega arith), w.invariant.0)) w.invariant.1)
