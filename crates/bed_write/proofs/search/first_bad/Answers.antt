use Rattle.std.proofs.Common.{◌<◌, length, refl, arith, below_more, rules}
use Rattle.bed_write.proofs.SearchLaws.{called_none, called_at}
use Rattle.bed_write.proofs.PlaceLaws.{read_inside, read_number}
use Rattle.bed_write.proofs.FirstLaws.{value_coded}
use Rattle.bed_write.proofs.search.first_bad.Goals as goal

pub offset_bounds-matrix-place : goal.offset_bounds-matrix-place
offset_bounds-matrix-place g c =
    let a = c.args.coding in
    let m = c.args.matrix.now in
    let b : c.place.result < length m.val.now =
    read_inside g.T.BedVal.width a.is_a1_counted a.missing m.animal_order m.iid_count m.sid_count m.val.now m.is_full _ _ _ c.loop-animal-test.true c.loop-marker-test.true c.place.ensures in
    search rules

pub bounds-matrix-place : goal.bounds-matrix-place
bounds-matrix-place g c =
    let a = c.args.coding in
    let m = c.args.matrix.now in
    read_inside g.T.BedVal.width a.is_a1_counted a.missing m.animal_order m.iid_count m.sid_count m.val.now m.is_full _ _ _ c.loop-animal-test.true c.loop-marker-test.true c.place.ensures

pub returns-then-code_or_four-gt3 : goal.returns-then-code_or_four-gt3
returns-then-code_or_four-gt3 g c =
    let a = c.args.coding in
    let m = c.args.matrix.now in
    called_at m.iid_count m.sid_count _ (value_coded g.T.BedVal.width a.is_a1_counted a.missing m.animal_order m.iid_count m.sid_count m.val.now) _ _
    c.loop-marker-test.true c.loop-animal-test.true c.loop-marker.invariant c.loop-animal.invariant
    (let n = read_number g.T.BedVal.width a.is_a1_counted a.missing m.animal_order m.iid_count m.sid_count m.val.now m.is_full _ _ _ c.loop-animal-test.true c.loop-marker-test.true c.place.ensures
    _ c.index-matrix-place.result refl _ c.code_or_four.ensures in omega (arith, c.if-code_or_four-gt3.true))

pub loop-animal-preserved : goal.loop-animal-preserved
loop-animal-preserved g c =
    let a = c.args.coding in
    let m = c.args.matrix.now in
    below_more _ _ c.loop-animal.invariant
    (let n = read_number g.T.BedVal.width a.is_a1_counted a.missing m.animal_order m.iid_count m.sid_count m.val.now m.is_full _ _ _ c.loop-animal-test.true c.loop-marker-test.true c.place.ensures
    _ c.index-matrix-place.result refl _ c.code_or_four.ensures in omega (arith, c.if-code_or_four-gt3.false))

pub returns-after-loop-marker : goal.returns-after-loop-marker
returns-after-loop-marker g c =
    let m = c.args.matrix.now in
    called_none m.iid_count m.sid_count _ _ c.loop-marker-test.false c.loop-marker.invariant
