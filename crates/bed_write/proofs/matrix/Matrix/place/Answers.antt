-- The place by the two strides.
use Rattle.std.proofs.Common.{arith}
use Rattle.answer.proofs.MatrixLaws.{place_below}
use Rattle.bed_write.proofs.PlaceLaws.{place_strided}
use Rattle.bed_write.proofs.matrix.Matrix.place.Goals as goal

pub overflow_add-result : goal.overflow_add-result
overflow_add-result g c =
    let m = c.args.self.now in
    omega (
      arith,
      place_strided m.animal_order m.iid_count m.sid_count c.args.iid.0 c.args.sid.0 _ _ c.layout-layout.ensures.0 c.layout-layout.ensures.1,
      place_below m.iid_count m.sid_count c.args.iid.0 c.args.sid.0 c.requires.0 c.requires.1 m.animal_order,
    )

pub returns : goal.returns
returns g c = place_strided _ _ _ _ _ _ _ c.layout-layout.ensures.0 c.layout-layout.ensures.1
