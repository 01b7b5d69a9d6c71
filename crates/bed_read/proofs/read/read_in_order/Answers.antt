use Rattle.std.proofs.Common.{refl, length, ◌∙◌, ◌+◌, ◌*◌, ◌/◌, ◌<◌, arith}
use Rattle.bed_read.specs.Private.{value_in}
use Rattle.bed_read.proofs.DrawLaws.{drawn_one, drawn_all, drawn_to}
use Rattle.bed_read.proofs.PartLaws.{byte_item}
use Rattle.bed_read.proofs.read.read_in_order.Goals as goal

pub loop-i-init : goal.loop-i-init
loop-i-init g c = drawn_to _ _ _ _ _ _ _ _ _ c.loop-b.invariant (omega (arith, c.loop-b-test.false, c.loop-b.auto.b-end))

-- the four values of a byte, one after the other
pub loop-b-preserved : goal.loop-b-preserved
loop-b-preserved g c =
    let b = c.loop-b.b in
    let t : b < length c.args.val.now / 4 = c.loop-b-test.true in
    let v = value_in c.args.values.table.now g.T.BedVal.width.zero in
    drawn_one _ _ _ _ _ (4 * b + 3) (4 * (b + 1)) _ _ _
    (drawn_one _ _ _ _ _ (4 * b + 2) (4 * b + 3) _ _ _
    (drawn_one _ _ _ _ _ (4 * b + 1) (4 * b + 2) _ _ _
    (drawn_one _ _ _ _ _ (4 * b) (4 * b + 1) _ _ _ c.loop-b.invariant (omega arith) (omega arith) (omega arith) (omega arith)
    (c.call_value-v0.ensures ∙ byte_item v c.args.file.now c.args.start b 0 (4 * b) (omega arith) (omega arith)))
    (omega arith) (omega arith) (omega arith) (omega arith)
    (c.call_value-v1.ensures ∙ byte_item v c.args.file.now c.args.start b 1 (4 * b + 1) (omega arith) refl))
    (omega arith) (omega arith) (omega arith) (omega arith)
    (c.call_value-v2.ensures ∙ byte_item v c.args.file.now c.args.start b 2 (4 * b + 2) (omega arith) refl))
    (omega arith) (omega arith) (omega arith) (omega arith)
    (c.call_value-v3.ensures ∙ byte_item v c.args.file.now c.args.start b 3 (4 * b + 3) (omega arith) refl)

pub loop-i-preserved : goal.loop-i-preserved
loop-i-preserved g c =
    let t = c.loop-i-test.true in
    drawn_one _ _ _ _ _ _ _ _ _ _ c.loop-i.invariant (omega arith) refl refl (omega arith) c.call_value.ensures

pub returns : goal.returns
returns g c = drawn_all _ _ _ _ _ _ c.loop-i.invariant refl (let t = c.loop-i-test.false in omega arith)
