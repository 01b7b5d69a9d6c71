-- The four codes of the group make the byte.
use Rattle.bed_write.proofs.PlaceLaws.{walk_inside, matrix_byte}
use Rattle.bed_write.proofs.write.Writer.byte_at.Goals as goal

pub invariant_of-group : goal.invariant_of-group
invariant_of-group g c =
    let s = c.args.self.now in
    let m = s.matrix in
    record {
      inside = λ j h l.
          walk_inside g.T.BedVal.width (g.C.Coder.coding s.coder) m.animal_order m.iid_count m.sid_count m.val.now c.args.m c.args.b _ _ c.requires.0 c.requires.1 c.layout.ensures.0 c.place.ensures m.is_full j h;
    }

pub returns : goal.returns
returns g c =
    let s = c.args.self.now in
    let m = s.matrix in
    matrix_byte g.T.BedVal.width (g.C.Coder.coding s.coder) m.animal_order m.iid_count m.sid_count m.val.now c.args.m c.args.b _ _ c.requires.0 c.requires.1 c.layout.ensures.0 c.place.ensures
    s.is_good _ _ _ _ c.codes.ensures _ c.byte_of.ensures
