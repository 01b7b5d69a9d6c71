use Rattle.std.proofs.Common.{◌-◌, ◌*◌, arith}
use Rattle.bed_read.proofs.DrawLaws.{drawn_pairs, drawn_to}
use Rattle.bed_read.proofs.read.read_four.Goals as goal

pub loop-pair-preserved : goal.loop-pair-preserved
loop-pair-preserved g c =
    let h = c.loop-pair-test.true in
    drawn_to _ _ _ _ _ 4 _ _ _ (drawn_pairs _ _ _ _ _ _ _ (2 * c.loop-pair.pair) _ _ c.loop-pair.invariant (omega arith) (omega (arith, h)) c.requires.2 c.read_pairs.ensures)
    (omega arith)

pub returns : goal.returns
returns g c =
    drawn_to _ _ _ _ _ 4 _ _ _ (drawn_pairs _ _ _ _ _ _ _ (c.args.n - 2) _ _ c.loop-pair.invariant (omega (arith, c.loop-pair-test.false)) (omega (arith, c.requires.1)) c.requires.2 c.read_pairs-2.ensures)
    (omega (arith, c.requires.1))
