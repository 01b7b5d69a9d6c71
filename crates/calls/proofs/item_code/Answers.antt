-- `item_code`: the code at the item's byte, if the block and the file have it.
use mathlib.Core.Path.{refl, ◌∙◌}
use native.Mathlib.Omega.{arith}
use Rattle.calls.proofs.PlaceLaws.{item_found, item_none}
use Rattle.calls.proofs.item_code.Goals as goal

pub returns-then-item-file : goal.returns-then-item-file
returns-then-item-file c =
    let d = c.before.before.before.before in
    let s = d.before.before.before.before in
    c.code_of_item.ensures
    ∙ item_found s.args.file.now (omega arith) s.args.width s.args.block s.args.item _ d.block_part-start.ensures.byte_is d.if-item-width.true d.if-start-file.true

pub returns-else-item-file : goal.returns-else-item-file
returns-else-item-file c =
    let s = c.before.before.before.before.before.before in
    item_none s.args.file.now (omega arith) s.args.width s.args.block s.args.item _ c.block_part-start.ensures.byte_is
    (λ h k. omega (arith, c.if-item-file.false))

pub returns-else-start-file : goal.returns-else-start-file
returns-else-start-file c =
    let s = c.before.before.before.before.before in
    item_none s.args.file.now (omega arith) s.args.width s.args.block s.args.item _ c.block_part-start.ensures.byte_is
    (λ h k. omega (arith, c.if-start-file.false))

pub returns-else-item-width : goal.returns-else-item-width
returns-else-item-width c =
    let s = c.before.before.before in
    item_none s.args.file.now (omega arith) s.args.width s.args.block s.args.item _ refl (λ h k. omega (arith, c.if-item-width.false))
