use Rattle.std.proofs.Common.{refl, ap, ◌+◌, arith}
use Rattle.bed_read.proofs.DrawLaws.{drawn_one, drawn_all}
use Rattle.bed_read.proofs.PartLaws.{same_place}
use Rattle.bed_read.proofs.read.read_line.Goals as goal

pub loop-k-preserved : goal.loop-k-preserved
loop-k-preserved g c =
    let t = c.loop-k-test.true in
    drawn_one _ _ _ _ _ _ _ _ _ _ c.loop-k.invariant (omega arith) refl refl (omega arith)
    (same_place _ _ _ _ _ _ (ap (λ x. c.args.part.place + x) c.from.ensures) c.call_value.ensures)

pub returns : goal.returns
returns g c = drawn_all _ _ _ _ _ _ c.loop-k.invariant refl (let t = c.loop-k-test.false in omega arith)
