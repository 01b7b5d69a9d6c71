-- `read_no_alloc`: the checks, then the whole matrix.
use Rattle.std.proofs.Common.{refl, sym, ap, true, false, length, ◌∙◌}
use native.Mathlib.Nat.{mul_comm}
use Rattle.answer.specs.Answer.{is_done}
use Rattle.bed_read.proofs.ReadLaws.{error_told, error_refuses, read_checks, read_done}
use Rattle.bed_read.proofs.BufferLaws.{ready_lines, table_read, buffer_read, buffer_kept}
use Rattle.bed_read.proofs.read.read_no_alloc.Goals as goal

pub returns-in_err-check_read : goal.returns-in_err-check_read
returns-in_err-check_read g c =
    let a = c.args in
    let said = c.in_err-check_read.ensures ∙ sym (read_checks a.file.now a.iid_count a.sid_count a.iid_index.now a.sid_index.now (length a.val.now)) in (
      error_told _ _ c.from_residual.ensures.1 ∙ said,
      buffer_kept g.T.BedVal.width _ _ _ _ _ _ _ _ _ (sym (ap is_done said) ∙ error_refuses _),
    )

pub invariant_of-lines : goal.invariant_of-lines
invariant_of-lines g c = record { other = refl; ready = ready_lines _ _ _ _ _ _ _ (read_done _ _ _ _ _ _ c.in_ok-check_read.ensures).1 _ c.shape_of-shape.ensures true }

pub read_matrix-requires : goal.read_matrix-requires
read_matrix-requires g c = (read_done _ _ _ _ _ _ c.in_ok-check_read.ensures).1.product

pub invariant_of-lines-else-animal_order : goal.invariant_of-lines-else-animal_order
invariant_of-lines-else-animal_order g c = record { other = refl; ready = ready_lines _ _ _ _ _ _ _ (read_done _ _ _ _ _ _ c.in_ok-check_read.ensures).1 _ c.shape_of-shape.ensures false }

pub read_matrix-requires-else-animal_order : goal.read_matrix-requires-else-animal_order
read_matrix-requires-else-animal_order g c =
    let a = c.args in mul_comm (length a.sid_index.now) (length a.iid_index.now) ∙ (read_done _ _ _ _ _ _ c.in_ok-check_read.ensures).1.product

pub returns-then-animal_order : goal.returns-then-animal_order
returns-then-animal_order g c =
    let done = (read_done _ _ _ _ _ _ c.in_ok-check_read.ensures).0 in (
      done,
      buffer_read _ _ _ _ _ c.shape_of-shape.result c.shape_of-shape.ensures g.T.BedVal.width _ _ _ true _ _ (sym (ap is_done done)) c.if-animal_order.true
          (table_read g.T.BedVal.width _ _ _ _ _ _ _ c.shape_of-shape.result _ _ c.fill_table.ensures c.read_matrix.ensures),
    )

pub returns-else-animal_order : goal.returns-else-animal_order
returns-else-animal_order g c =
    let done = (read_done _ _ _ _ _ _ c.in_ok-check_read.ensures).0 in (
      done,
      buffer_read _ _ _ _ _ c.shape_of-shape.result c.shape_of-shape.ensures g.T.BedVal.width _ _ _ false _ _ (sym (ap is_done done)) c.if-animal_order.false
          (table_read g.T.BedVal.width _ _ _ _ _ _ _ c.shape_of-shape.result _ _ c.fill_table.ensures c.read_matrix-else-animal_order.ensures),
    )
