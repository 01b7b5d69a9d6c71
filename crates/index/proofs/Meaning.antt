-- What the definitions of lists mean, and examples that are computed from them.
use mathlib.Core.Path.{◌≡◌, refl, ap, ◌∙◌}
use mathlib.Core.Logic.{◌↔◌}
use mathlib.Core.List.{List, [], ◌∷◌}
use Prim.Native.Nat.{ℕ, ◌+◌, ◌-◌, ◌*◌, ◌^◌, ◌≤◌, ◌<◌}
use native.Mathlib.Omega.{arith}
use borrow.Author.Tests.{lt-leb}
use lib.IntN.{ℤ, pos, negsuc}
use lib.ListN.{length, get_or}
use Rattle.answer.specs.Answer.{done, refused, check, check_count, count_limit}
use Rattle.answer.specs.Lists.{tabulate}
use Rattle.answer.proofs.Tabulate.{length_tabulate, get_d_tabulate}
use Rattle.index.specs.declared.Index.{Index}
use Rattle.std.specs.Prelude.{Some, None}
use Rattle.std.specs.Borrow.{Bor}
use Rattle.index.specs.Numbers.{numbers_below, distances, forward, backward, stepped, slice_list, slice_end, from_count, index_list, range_list, marked}
use Rattle.index.specs.Checks.{check_index, check_slice, check_end, check_range, check_bound, list_answer, list_buffer, index_answer, index_buffer, range_answer}
use Rattle.index.proofs.StepLaws.{steps_below, inside, reached, forward_is, backward_is}

module _ (start end step k : ℕ) (p : 0 < step) where
  -- a forward slice has a place k exactly if start + k · step is below end, and that number stands there
  pub forward_exact : (k < length (forward start end step)) ↔ (start + k * step < end)
  forward_exact =
      let e : length (forward start end step) ≡ steps_below (end - start) step =
      ap length (forward_is start end step p) ∙ length_tabulate (steps_below (end - start) step) (λ j. pos (start + j * step)) in (
        λ h. let g : k * step < end - start = inside (end - start) step k p (omega arith) in omega arith,
        λ h. let g : k < steps_below (end - start) step = reached (end - start) step k p (omega arith) in omega arith,
      )

  pub forward_number : start + k * step < end → get_or (forward start end step) k (pos 0) ≡ pos (start + k * step)
  forward_number h =
      ap (λ (l : List ℤ). get_or l k (pos 0)) (forward_is start end step p)
      ∙ get_d_tabulate (steps_below (end - start) step) (λ j. pos (start + j * step)) k (pos 0) (reached (end - start) step k p (omega arith))

  -- a backward slice has a place k exactly if end − 1 − k · step is not below start, and that number stands there
  pub backward_exact : (k < length (backward start end step)) ↔ (start + k * step + 1 ≤ end)
  backward_exact =
      let e : length (backward start end step) ≡ steps_below (end - start) step =
      ap length (backward_is start end step p) ∙ length_tabulate (steps_below (end - start) step) (λ j. pos (end - 1 - j * step)) in (
        λ h. let g : k * step < end - start = inside (end - start) step k p (omega arith) in omega arith,
        λ h. let g : k < steps_below (end - start) step = reached (end - start) step k p (omega arith) in omega arith,
      )

  pub backward_number : (n : ℕ) → n + k * step + 1 ≡ end → start ≤ n → get_or (backward start end step) k (pos 0) ≡ pos n
  backward_number n q h =
      ap (λ (l : List ℤ). get_or l k (pos 0)) (backward_is start end step p)
      ∙ get_d_tabulate (steps_below (end - start) step) (λ j. pos (end - 1 - j * step)) k (pos 0) (reached (end - start) step k p (omega arith))
      ∙ ap pos (omega arith)

-- a slice, as an index
abbrev pub slice : ℤ → ℤ → ℤ → Index
slice start end step = Index.NDSliceInfo (record { start = start; end = Some end; step = step })

-- "Count 6, slice 1 to 6 step −2: 5, 3, 1."
pub slice_down : index_list (slice (pos 1) (pos 6) (negsuc 1)) 6 ≡ pos 5 ∷ pos 3 ∷ pos 1 ∷ []
unfolding index_list slice_list stepped backward distances numbers_below slice_end from_count
slice_down = refl

-- −2^63 as a step, a start (10 comes before 11) and an end
abbrev pub least : ℤ
least = negsuc (2 ^ 63 - 1)

pub least_step : stepped 0 count_limit least ≡ pos (2 ^ 63 - 2) ∷ []
unfolding stepped steps_below tabulate
least_step = backward_is 0 count_limit (2 ^ 63) (omega arith)

pub least_start : index_answer (slice least least (pos 1)) count_limit 0 ≡ refused 10 []
unfolding index_answer check_index check_slice check_end check_count check
least_start = refl

pub least_end : index_answer (slice (negsuc 0) least (pos 1)) count_limit 0 ≡ refused 11 []
unfolding index_answer check_index check_slice check_end check_count check
least_end = refl

-- 9 comes before 10 and 11
pub zero_first : index_answer (slice least least (pos 0)) 1 1 ≡ refused 9 []
unfolding index_answer check_index check_slice check_count check
zero_first = refl

-- 9 and 8 come before 19
pub zero_before_short : index_answer (slice (pos 0) (pos 1) (pos 0)) 1 0 ≡ refused 9 []
unfolding index_answer check_index check_slice check_count check
zero_before_short = refl

pub marks_before_short : (marks : Bor (List ℕ)) → marks.now ≡ 1 ∷ [] → index_answer (Index.VecBool marks) 2 0 ≡ refused 8 []
unfolding index_answer check_index check_count check
marks_before_short marks e = rw e refl

-- 18 comes before 12, and an absent bound does not meet it
pub bound_first : range_answer (record { start = Some (2 ^ 63); end = Some 0 }) 1 ≡ refused 18 []
unfolding range_answer check_range check_bound check_count check
bound_first = refl

pub bounds_absent : range_answer (record { start = None; end = None }) count_limit ≡ done (pos 0 ∷ pos count_limit ∷ [])
unfolding range_answer check_range check_bound check_count check
bounds_absent = refl

-- "end may pass count"; later places are unchanged
pub range_past : index_buffer (Index.RangeAny (record { start = Some 2; end = Some 5 })) 3 (pos 9 ∷ pos 9 ∷ pos 9 ∷ pos 8 ∷ []) ≡ pos 2 ∷ pos 3 ∷ pos 4 ∷ pos 8 ∷ []
unfolding index_buffer index_answer check_index check_range check_bound check_count check list_answer list_buffer index_list range_list tabulate
range_past = refl

-- "nonzero chosen"
pub marks_chosen : (marks : Bor (List ℕ)) → marks.now ≡ 0 ∷ 255 ∷ 0 ∷ 2 ∷ [] → index_list (Index.VecBool marks) 4 ≡ pos 1 ∷ pos 3 ∷ []
unfolding index_list marked numbers_below
marks_chosen marks e = rw e refl

-- 19 for a list that is longer than any buffer
pub all_too_long : (room : ℕ) → room < count_limit → index_answer Index.All count_limit room ≡ refused 19 []
unfolding index_answer check_index check_count check list_answer index_list
all_too_long room h = simp (length_tabulate count_limit pos, lt-leb count_limit room h)
