-- `turn_blocks`: tile by tile.
use Rattle.std.proofs.Common.{arith, rules}
use Rattle.bed_write.proofs.RowLaws.{byte_in, stored, tile_done, first_in}
use Rattle.canonical.proofs.TurnLaws.{group_inside, turned_is}
use Rattle.canonical.proofs.WholeLaws.{starts, whole_written}
use Rattle.canonical.proofs.turned.turn_blocks.Goals as goal

pub loop-from-init : goal.loop-from-init
loop-from-init c = let a = c.args.accepted.now in starts a.file.now a.shape a.out_width a.width_is _ c.requires.0

pub overflow_mul-first : goal.overflow_mul-first
overflow_mul-first c = omega (arith, first_in _ _ _ c.args.accepted.now.width_is c.loop-b-test.true)

pub four_starts-starts-requires : goal.four_starts-starts-requires
four_starts-starts-requires c = omega (arith, c.args.accepted.now.iids_fit, first_in _ _ _ c.args.accepted.now.width_is c.loop-b-test.true)

pub overflow_sub-group : goal.overflow_sub-group
overflow_sub-group c = omega (arith, first_in _ _ _ c.args.accepted.now.width_is c.loop-b-test.true)

pub invariant_of-group : goal.invariant_of-group
invariant_of-group c =
    let a = c.args.accepted.now in
    record { inside = group_inside a.file.now a.shape a.shaped (omega arith) c.requires.1 c.loop-b.b c.loop-m.m (omega (arith, c.loop-m-test.true, c.loop-m.invariant.until_in)) _ c.four_starts-starts.ensures _ c.part_of.ensures }

pub overflow_mul-out : goal.overflow_mul-out
overflow_mul-out c = omega (arith, byte_in c.loop-m.invariant c.loop-m.m _ (omega (arith, c.loop-m-test.true, c.loop-m.invariant.until_in)) c.loop-b-test.true)

pub overflow_add-out : goal.overflow_add-out
overflow_add-out c = omega (arith, byte_in c.loop-m.invariant c.loop-m.m _ (omega (arith, c.loop-m-test.true, c.loop-m.invariant.until_in)) c.loop-b-test.true)

pub overflow_add-out-in-loop-m : goal.overflow_add-out-in-loop-m
overflow_add-out-in-loop-m c = omega (arith, byte_in c.loop-m.invariant c.loop-m.m _ (omega (arith, c.loop-m-test.true, c.loop-m.invariant.until_in)) c.loop-b-test.true)

pub bounds-out-m : goal.bounds-out-m
bounds-out-m c = byte_in c.loop-m.invariant c.loop-m.m _ (omega (arith, c.loop-m-test.true, c.loop-m.invariant.until_in)) c.loop-b-test.true

pub loop-m-preserved : goal.loop-m-preserved
loop-m-preserved c =
    let a = c.args.accepted.now in
    stored c.loop-m.invariant (omega (arith, c.loop-m-test.true, c.loop-m.invariant.until_in)) c.loop-b-test.true _
    (turned_is a.file.now a.shape a.shaped (omega arith) c.requires.1 c.loop-b.b c.loop-m.m (omega (arith, c.loop-m-test.true, c.loop-m.invariant.until_in)) _ c.four_starts-starts.ensures _ c.part_of.ensures _ c.byte.ensures)

pub returns : goal.returns
returns c = whole_written c.args.accepted.now.file.now c.args.accepted.now.shape c.loop-from.invariant c.loop-from-test.false

pub returns-2 : goal.returns-2
returns-2 c = whole_written c.args.accepted.now.file.now c.args.accepted.now.shape (tile_done c.loop-b.invariant c.loop-b-test.false) (search rules)
