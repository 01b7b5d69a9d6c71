-- The groups that are full, then the one that is not.
use Rattle.std.proofs.Common.{◌≡◌, ◌/◌, length, subst, sym, ◌∙◌, arith}
use Rattle.bed_write.specs.Packing.{place_code, packed_codes}
use Rattle.bed_write.proofs.EncodeLaws.{Front, front_none, block_length, full_there, full_more, last_done}
use Rattle.bed_write.proofs.encode.pack.Goals as goal

pub loop-b-init : goal.loop-b-init
loop-b-init g c = front_none _ _ (c.requires.0 ∙ sym (block_length _ _))

pub bounds-out-b : goal.bounds-out-b
bounds-out-b g c =
    let a = c.args in
    full_there g.T.BedVal.width a.coding.is_a1_counted a.coding.missing a.column.now c.requires.1 a.out.now _ _ c.requires.0 c.loop-b.invariant c.loop-b-test.true

pub loop-b-preserved : goal.loop-b-preserved
loop-b-preserved g c =
    let a = c.args in
    full_more g.T.BedVal.width a.coding.is_a1_counted a.coding.missing a.column.now c.requires.1 a.out.now _ _ c.requires.0 c.loop-b.invariant c.loop-b-test.true _ _ _ _ c.codes.ensures _ c.byte_of.ensures

pub returns-then-full-out : goal.returns-then-full-out
returns-then-full-out g c =
    let a = c.args in
    let w = place_code g.T.BedVal.width a.coding.is_a1_counted a.coding.missing a.column.now in
    let e : c.loop-b.b ≡ length a.column.now / 4 = omega (arith, c.loop-b-test.false, c.loop-b.auto.b-end) in
    last_done g.T.BedVal.width a.coding.is_a1_counted a.coding.missing a.column.now c.requires.1 a.out.now _ _ c.requires.0
    (subst (Front (packed_codes (length a.column.now) w) a.out.now c.loop-b.out) e c.loop-b.invariant) c.if-full-out.true _ _ _ _ c.codes-then-full-out.ensures (omega arith) _ c.byte_of-then-full-out.ensures
