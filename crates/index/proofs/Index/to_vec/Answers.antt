-- `Index::to_vec` answers `index_answer` and leaves `index_buffer`: a law for each kind.
use borrow.Author.Rules.{rules}
use mir.Syntax.{w64}
use mir.Val.{SFits}
use mir.Facts.{to_z-of_z}
use Rattle.index.proofs.IndexLaws.{count_too_large, marks_differ, is_all, is_one_law, is_vec, is_marks, is_range, is_slice}
use Rattle.std.proofs.lemmas.Result.{err_from_is_err_and}
use Rattle.index.proofs.RangeLaws.{range_end_fits, range_listed, range_stopped}
use Rattle.index.proofs.SliceLaws.{slice_listed, slice_stopped}
use Rattle.index.proofs.Index.to_vec.Goals as goal

pub returns-then-count-gt-COUNT_LIMIT : goal.returns-then-count-gt-COUNT_LIMIT
returns-then-count-gt-COUNT_LIMIT c = count_too_large _ _ _ c.if-count-gt-COUNT_LIMIT.true

pub returns-then-marks-count : goal.returns-then-marks-count
returns-then-marks-count c = rw c.in-VecBool.is (marks_differ _ _ c.if-count-gt-COUNT_LIMIT.false _ c.if-marks-count.true)

pub returns-in-All : goal.returns-in-All
returns-in-All c = rw c.in-All.is (is_all _ _ c.if-count-gt-COUNT_LIMIT.false _ c.consecutive.ensures c.to_vec.ensures)

pub returns-in-One : goal.returns-in-One
returns-in-One c =
    let b : SFits w64 c.in-One.one = search rules in
    rw c.in-One.is (is_one_law _ _ c.if-count-gt-COUNT_LIMIT.false _ _ (to_z-of_z {w = w64} b) c.vec_to_vec.ensures)

pub returns-in-Vec : goal.returns-in-Vec
returns-in-Vec c = rw c.in-Vec.is (is_vec _ _ c.if-count-gt-COUNT_LIMIT.false _ c.vec_to_vec-in-Vec.ensures)

pub returns-else-marks-count : goal.returns-else-marks-count
returns-else-marks-count c = rw c.in-VecBool.is (is_marks _ _ c.if-count-gt-COUNT_LIMIT.false _ c.if-marks-count.false c.marked_to_vec.ensures)

pub consecutive-requires-in-RangeAny : goal.consecutive-requires-in-RangeAny
consecutive-requires-in-RangeAny c = range_end_fits _ _ c.if-count-gt-COUNT_LIMIT.false _ _ c.in_ok-found-in-RangeAny.ensures

pub returns-in_ok-found-in-RangeAny : goal.returns-in_ok-found-in-RangeAny
returns-in_ok-found-in-RangeAny c =
    let h = c.if-count-gt-COUNT_LIMIT.false in
    rw c.in-RangeAny.is (is_range _ _ h _ (range_listed _ _ h _ _ c.in_ok-found-in-RangeAny.ensures _ c.consecutive-in-RangeAny.ensures c.to_vec-in-RangeAny.ensures))

pub returns-in_err-found-in-RangeAny : goal.returns-in_err-found-in-RangeAny
returns-in_err-found-in-RangeAny c =
    let h = c.if-count-gt-COUNT_LIMIT.false in
    let p = err_from_is_err_and c.from_residual.result c.from_residual.ensures.1 in
    rw (c.in-RangeAny.is, p.1, p.2) (is_range _ _ h _ (range_stopped _ _ h c.in_err-found-in-RangeAny.ensures))

pub returns-in_ok-slice-in-NDSliceInfo : goal.returns-in_ok-slice-in-NDSliceInfo
returns-in_ok-slice-in-NDSliceInfo c =
    rw c.in-NDSliceInfo.is (is_slice _ _ c.if-count-gt-COUNT_LIMIT.false _ (slice_listed _ _ _ c.in_ok-slice-in-NDSliceInfo.ensures c.to_vec-in-NDSliceInfo.ensures))

pub returns-in_err-slice-in-NDSliceInfo : goal.returns-in_err-slice-in-NDSliceInfo
returns-in_err-slice-in-NDSliceInfo c =
    let f = c.from_residual-in_err-slice-in-NDSliceInfo in
    let p = err_from_is_err_and f.result f.ensures.1 in
    rw (c.in-NDSliceInfo.is, p.1, p.2) (is_slice _ _ c.if-count-gt-COUNT_LIMIT.false _ (slice_stopped _ _ _ c.in_err-slice-in-NDSliceInfo.ensures))
