-- `count_calls`: the checks, then all counts.
use Rattle.std.proofs.Common.{false, sym, ap, ◌∙◌}
use Rattle.answer.specs.Answer.{is_done}
use Rattle.answer.proofs.AnswerLaws.{same_error}
use Rattle.bed_read.proofs.ReadLaws.{checked, error_refuses}
use Rattle.bed_read.proofs.BufferLaws.{ready_lines}
use Rattle.bed_read.specs.Says.{read_says}
use Rattle.call_counts.specs.Counts.{counts_answer}
use Rattle.call_counts.proofs.CountLaws.{counts_new, counts_kept}
use Rattle.call_counts.proofs.count_calls.Goals as goal

pub returns-in_err-check_read : goal.returns-in_err-check_read
unfolding counts_answer
returns-in_err-check_read c =
    (ap read_says (same_error _ _ c.from_residual.ensures.1) ∙ c.in_err-check_read.ensures, counts_kept _ _ _ _ _ _ (sym (ap is_done c.in_err-check_read.ensures) ∙ error_refuses _))

pub count_all-requires : goal.count_all-requires
count_all-requires c =
    sym (checked 4 c.args.file.now c.args.iid_count c.args.sid_count c.args.iid_index.now c.args.sid_index.now _ (sym (ap is_done c.in_ok-check_read.ensures))).product

pub invariant_of-lists : goal.invariant_of-lists
invariant_of-lists c =
    let a = c.args in
    record { ready = ready_lines 4 _ _ _ _ _ _ (checked 4 a.file.now a.iid_count a.sid_count a.iid_index.now a.sid_index.now _ (sym (ap is_done c.in_ok-check_read.ensures))) _ c.shape_of-shape.ensures false }

pub returns : goal.returns
unfolding counts_answer
returns c =
    (c.in_ok-check_read.ensures, counts_new _ _ _ _ _ _ _ _ _ c.shape_of-shape.ensures.iids_are c.shape_of-shape.ensures.sids_are (sym (ap is_done c.in_ok-check_read.ensures)) c.count_all.ensures)
