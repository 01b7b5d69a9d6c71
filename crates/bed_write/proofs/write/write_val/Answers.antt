-- The checks of the buffers, then the first bad value, then the file.
use Rattle.std.proofs.Common.{◌≡◌, refl, subst, ◌∙◌}
use Rattle.bed_write.specs.Writing.{value_code, bed_file}
use Rattle.bed_write.specs.Private.{matrix_code}
use Rattle.bed_write.proofs.WriteLaws.{passed, write_bad, write_done, write_refused, error_kept, not_done}
use Rattle.bed_write.proofs.write.write_val.Goals as goal

pub returns-in_err-check_write : goal.returns-in_err-check_write
returns-in_err-check_write g c =
    let a = c.args in
    let q = write_refused a.iid_count a.sid_count (value_code g.T.BedVal.width a.is_a1_counted a.missing a.animal_order a.iid_count a.sid_count a.val.now) _ a.out.now _ (c.in_err-check_write.ensures) (not_done _) in
    (error_kept _ _ c.from_residual.ensures.1 ∙ q.0, q.1)

pub invariant_of-matrix : goal.invariant_of-matrix
invariant_of-matrix g c =
    let a = c.args in
    record { is_full = (passed a.iid_count a.sid_count _ _ _ (c.in_ok-check_write.ensures) refl).product }

pub returns-in-Some : goal.returns-in-Some
returns-in-Some g c =
    let a = c.args in
    let p = passed a.iid_count a.sid_count _ _ _ (c.in_ok-check_write.ensures) refl in
    write_bad a.iid_count a.sid_count (value_code g.T.BedVal.width a.is_a1_counted a.missing a.animal_order a.iid_count a.sid_count a.val.now) _ a.out.now p.pass _ _ (c.in-Some.ensures)

pub write-requires : goal.write-requires
write-requires g c =
    let a = c.args in
    let p = passed a.iid_count a.sid_count _ _ _ (c.in_ok-check_write.ensures) refl in
    p.out_long

pub returns : goal.returns
returns g c =
    let a = c.args in
    let p = passed a.iid_count a.sid_count _ _ _ (c.in_ok-check_write.ensures) refl in
    write_done a.iid_count a.sid_count (value_code g.T.BedVal.width a.is_a1_counted a.missing a.animal_order a.iid_count a.sid_count a.val.now) _ a.out.now p.pass (c.in_default.ensures) _
    (subst (λ k. c.write.new.out ≡ bed_file a.iid_count a.sid_count (matrix_code g.T.BedVal.width k a.animal_order a.iid_count a.sid_count a.val.now)) c.across.ensures c.write.ensures)
