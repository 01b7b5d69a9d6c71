-- `keep_blocks`: block by block, the whole bytes and the last one.
use Rattle.std.proofs.Common.{◌≡◌, ℕ, ◌+◌, ◌-◌, ◌<◌, arith, rules, length, subst}
use Rattle.bed_write.proofs.RowLaws.{block_in, byte_in, block_stored, tile_done, first_in}
use Rattle.canonical.proofs.KeptLaws.{found_inside, found_is, whole_kept}
use Rattle.canonical.proofs.WholeLaws.{Written, starts, whole_written}
use Rattle.canonical.proofs.kept.keep_blocks.Goals as goal

pub loop-m-init : goal.loop-m-init
loop-m-init c = let a = c.args.accepted.now in starts a.file.now a.shape a.out_width a.width_is _ c.requires.0

pub overflow_mul-at : goal.overflow_mul-at
overflow_mul-at c = omega (arith, block_in c.loop-m.invariant _ c.loop-m-test.true)

pub overflow_add-at : goal.overflow_add-at
overflow_add-at c = omega (arith, block_in c.loop-m.invariant _ c.loop-m-test.true)

-- a byte of the block before the last one
before_last : (c : goal.In-loop-b) → c.loop-b.b < c.args.accepted.now.out_width
before_last c = let h = c.loop-b-test.true in omega arith

-- byte b of the block is in the file
inside : (c : goal.In-loop-b) → c.part_of-start.result.byte + c.loop-b.b < length c.args.accepted.now.file.now
inside c =
    let a = c.args.accepted.now in
    found_inside a.file.now a.shape a.shaped c.requires.1 c.loop-m.m c.loop-b.b c.loop-m-test.true (first_in _ _ _ a.width_is (before_last c)) c.part_of-start.result.byte (omega arith) (omega arith)
    c.part_of-start.ensures.byte_is

pub overflow_add-byte : goal.overflow_add-byte
overflow_add-byte c =
    let b = inside c in omega arith

pub bounds-accepted-start : goal.bounds-accepted-start
bounds-accepted-start c = inside c

pub overflow_add-out : goal.overflow_add-out
overflow_add-out c = let h = c.loop-b-test.true in omega (arith, byte_in c.loop-b.invariant _ c.loop-b.b c.loop-m-test.true (omega arith))

pub bounds-out-at : goal.bounds-out-at
bounds-out-at c = let h = c.loop-b-test.true in byte_in c.loop-b.invariant _ c.loop-b.b c.loop-m-test.true (omega arith)

pub loop-b-preserved : goal.loop-b-preserved
loop-b-preserved c =
    let a = c.args.accepted.now in
    let t = c.loop-b-test.true in
    let next = first_in a.shape.iids a.out_width (c.loop-b.b + 1) a.width_is (omega arith) in
    block_stored c.loop-b.invariant c.loop-m-test.true (omega arith) _
    (found_is a.file.now a.shape a.shaped c.requires.1 c.loop-m.m c.loop-b.b c.loop-m-test.true (omega arith)
    c.part_of-start.result.byte (omega arith) (omega arith) c.part_of-start.ensures.byte_is _ (search rules) (whole_kept _ _ (omega arith)))

-- the last byte of the block
last_in : (c : goal.After-loop-b) → c.args.accepted.now.out_width - 1 < c.args.accepted.now.out_width
last_in c = let h = c.requires.2 in omega arith

last_inside : (c : goal.After-loop-b) → c.part_of-start.result.byte + (c.args.accepted.now.out_width - 1) < length c.args.accepted.now.file.now
last_inside c =
    let a = c.args.accepted.now in
    found_inside a.file.now a.shape a.shaped c.requires.1 c.loop-m.m (a.out_width - 1) c.loop-m-test.true (first_in _ _ _ a.width_is (last_in c)) c.part_of-start.result.byte (omega arith) (omega arith)
    c.part_of-start.ensures.byte_is

pub overflow_add-start : goal.overflow_add-start
overflow_add-start c = let b = last_inside c in omega arith

pub bounds-accepted-start-in-loop-m : goal.bounds-accepted-start-in-loop-m
bounds-accepted-start-in-loop-m c = last_inside c

pub overflow_mul-last : goal.overflow_mul-last
overflow_mul-last c = let h = c.requires.2 in omega (arith, first_in _ _ (c.args.accepted.now.out_width - 1) c.args.accepted.now.width_is (omega arith))

pub overflow_sub-shape : goal.overflow_sub-shape
overflow_sub-shape c = let h = c.requires.2 in omega (arith, first_in _ _ (c.args.accepted.now.out_width - 1) c.args.accepted.now.width_is (omega arith))

pub kept_byte-requires : goal.kept_byte-requires
kept_byte-requires c = let h = c.requires.2 in omega (arith, first_in _ _ (c.args.accepted.now.out_width - 1) c.args.accepted.now.width_is (omega arith))

pub overflow_add-out-in-loop-m : goal.overflow_add-out-in-loop-m
overflow_add-out-in-loop-m c = let h = c.requires.2 in omega (arith, byte_in c.loop-b.invariant _ (c.args.accepted.now.out_width - 1) c.loop-m-test.true (omega arith))

pub bounds-out-at-in-loop-m : goal.bounds-out-at-in-loop-m
bounds-out-at-in-loop-m c = let h = c.requires.2 in byte_in c.loop-b.invariant _ (c.args.accepted.now.out_width - 1) c.loop-m-test.true (omega arith)

pub loop-m-preserved : goal.loop-m-preserved
loop-m-preserved c =
    let a = c.args.accepted.now in
    let h = c.requires.2 in
    let f = c.loop-b-test.false in
    let e : c.loop-b.b ≡ a.out_width - 1 = omega (arith, c.loop-b.auto) in
    let r = subst (λ (b : ℕ). Written a.file.now a.shape a.out_width c.loop-b.out c.loop-m.m (c.loop-m.m + 1) b 0) e c.loop-b.invariant in
    tile_done
    (block_stored r c.loop-m-test.true (omega arith) _
    (found_is a.file.now a.shape a.shaped c.requires.1 c.loop-m.m (a.out_width - 1) c.loop-m-test.true (first_in _ _ _ a.width_is (omega arith))
    c.part_of-start.result.byte (omega arith) (omega arith) c.part_of-start.ensures.byte_is _ (search rules) c.kept_byte.ensures))
    (omega arith)

pub returns : goal.returns
returns c = whole_written c.args.accepted.now.file.now c.args.accepted.now.shape c.loop-m.invariant c.loop-m-test.false
