-- The checks of each call in document 01's order, what it answers, and what it leaves in the list buffer.
use Rattle.std.specs.Prelude.{not, List, [], ◌∷◌, ◌++◌, ℕ, ℤ, pos, leb, eqb, length, drop, Option, Some, None}
use Rattle.answer.specs.Answer.{Answer, done, refused, check, check_count}
use Rattle.index.specs.declared.range.RangeAny.{RangeAny}
use Rattle.index.specs.declared.slice.SliceInfo1.{SliceInfo1}
use Rattle.index.specs.declared.Index.{Index}
use Rattle.index.specs.Numbers.{bound_or, magnitude, index_list}

-- 18: ".. or a range bound exceeds 2^63 − 1"; an absent one does not
unfoldable pub check_bound : Option ℕ → Answer → Answer
check_bound None later = later
check_bound (Some n) later = check_count n later

-- 18 for the bounds, then 12: "range start above end"
unfoldable pub check_range : RangeAny → ℕ → Answer → Answer
check_range r count later =
    check_bound r.start
    (check_bound r.end (check (leb (bound_or 0 r.start) (bound_or count r.end)) 12 later))

-- 11: "end's magnitude above count"
unfoldable pub check_end : Option ℤ → ℕ → Answer → Answer
check_end None count later = later
check_end (Some e) count later = check (leb (magnitude e) count) 11 later

-- 9: "step 0"; 10: "start's magnitude above count"; then 11
unfoldable pub check_slice : SliceInfo1 → ℕ → Answer → Answer
check_slice s count later =
    check (not (eqb (magnitude s.step) 0)) 9
    (check (leb (magnitude s.start) count) 10 (check_end s.end count later))

-- "18; then 8 for marks, 9, 10, 11 for a slice, 12 for a range"; 8: "marks and count differ"
unfoldable pub check_index : Index → ℕ → Answer → Answer
check_index Index.All count later = later
check_index (Index.One one) count later = later
check_index (Index.Vec vec) count later = later
check_index (Index.VecBool marks) count later = check (eqb (length marks.now) count) 8 later
check_index (Index.RangeAny r) count later = check_range r count later
check_index (Index.NDSliceInfo s) count later = check_slice s count later

-- "19 last": "list buffer shorter than the list". "The answer is the list's length"
unfoldable pub list_answer : List ℤ → ℕ → Answer
list_answer list room = check (leb (length list) room) 19 (done (pos (length list) ∷ []))

-- "later places of the buffer are unchanged"; "Every refusal leaves all lent bytes and values unchanged"
unfoldable pub list_buffer : Answer → List ℤ → List ℤ → List ℤ
list_buffer (done vs) list old = list ++ drop (length list) old
list_buffer (refused n vs) list old = old

-- `Index::to_vec`: what it answers for a buffer of `room` places
unfoldable pub index_answer : Index → ℕ → ℕ → Answer
index_answer index count room = check_count count (check_index index count (list_answer (index_list index count) room))

-- and what it leaves in the buffer
unfoldable pub index_buffer : Index → ℕ → List ℤ → List ℤ
index_buffer index count old = list_buffer (index_answer index count (length old)) (index_list index count) old

-- `RangeAny::to_range`: it answers start and end
unfoldable pub range_answer : RangeAny → ℕ → Answer
range_answer r count =
    check_count count (check_range r count (done (pos (bound_or 0 r.start) ∷ pos (bound_or count r.end) ∷ [])))
