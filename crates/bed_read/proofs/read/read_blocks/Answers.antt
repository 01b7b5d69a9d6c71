use Rattle.std.proofs.Common.{arith, length, ◌+◌, ◌-◌, ◌*◌}
use Rattle.calls.proofs.ListLaws.{along_inside}
use Rattle.bed_read.proofs.DrawLaws.{part_length, drawn_part}
use Rattle.bed_read.proofs.TileLaws.{lines_end}
use Rattle.bed_read.proofs.MatrixLaws.{block_read}
use Rattle.bed_read.proofs.read.read_blocks.Goals as goal

pub read_in_order-requires : goal.read_in_order-requires
read_in_order-requires g c =
    let m = c.args.lines.now in
    let n = length m.inner.now in
    let at = c.loop-o.o * n in
    let e = lines_end c.loop-o.o 1 _ n (length c.loop-o.val) (omega (arith, c.loop-o-test.true)) c.loop-o.invariant.rows.long in
    let p = part_length at (at + n - at) n c.loop-o.val (omega arith) (omega arith) in
    let i = along_inside _ _ _ _ _ m.ready c.requires.0 _ _ c.loop-o-test.true c.outer_part-start.ensures.byte_is in omega (arith, p, i)

pub loop-o-preserved : goal.loop-o-preserved
loop-o-preserved g c =
    let m = c.args.lines.now in
    let n = length m.inner.now in
    let e = lines_end c.loop-o.o 1 _ n (length c.loop-o.val) (omega (arith, c.loop-o-test.true)) c.loop-o.invariant.rows.long in
    block_read _ _ _ _ _ _ _ m.ready _ _ c.loop-o.o c.requires.0 _ c.outer_part-start.ensures.byte_is c.loop-o-test.true
    (drawn_part g.T.BedVal.width.zero (c.loop-o.o * n) _ n _ _ _ (omega arith) (omega arith) c.read_in_order.ensures) c.loop-o.invariant
