-- The list that each kind of index means, for a count.
use Rattle.std.specs.Prelude.{Bool, cond, not, List, [], ◌∷◌, ◌++◌, map, ℕ, zero, suc, ◌+◌, ◌-◌, ◌%◌, ℤ, pos, negsuc, nat_abs, eqb, length, get_or, Option, Some, None, unwrap_or}
use Rattle.answer.specs.Lists.{tabulate}
use Rattle.index.specs.declared.range.RangeAny.{RangeAny}
use Rattle.index.specs.declared.slice.SliceInfo1.{SliceInfo1}
use Rattle.index.specs.declared.Index.{Index}

-- the numbers below n that pass a test, ascending
unfoldable pub numbers_below : ℕ → (ℕ → Bool) → List ℕ
numbers_below zero test = []
numbers_below (suc n) test = numbers_below n test ++ cond (test n) (n ∷ []) []

-- "marks (nonzero chosen)": the places of those that are not 0
unfoldable pub marked : List ℕ → List ℤ
marked marks = map pos (numbers_below (length marks) (λ i. not (eqb (get_or marks i 0) 0)))

-- "start absent 0, end absent count": a bound, or what it is if absent
abbrev pub bound_or : ℕ → Option ℕ → ℕ
bound_or absent bound = unwrap_or bound absent

-- "range (start absent 0, end absent count, end may pass count)": start, start + 1 and so on below end
unfoldable pub range_list : RangeAny → ℕ → List ℤ
range_list r count = tabulate (bound_or count r.end - bound_or 0 r.start) (λ k. pos (bound_or 0 r.start + k))

-- "magnitude": of n and of −n it is n. The number −(k + 1) is `negsuc k`.
abbrev pub magnitude : ℤ → ℕ
magnitude z = nat_abs z

-- "A slice's negative start or end counts from count"
unfoldable pub from_count : ℕ → ℤ → ℕ
from_count count (pos n) = n
from_count count (negsuc k) = count - suc k

-- "and its absent end is count"
unfoldable pub slice_end : ℕ → Option ℤ → ℕ
slice_end count None = count
slice_end count (Some e) = from_count count e

-- how far from its first number a slice goes: 0, step, 2 · step and so on below end − start, which are the numbers
-- there that step divides. "Start ≥ end: empty."
unfoldable pub distances : ℕ → ℕ → ℕ → List ℕ
distances start end step = numbers_below (end - start) (λ d. eqb (d % step) 0)

-- "Forward from start by step below end"
unfoldable pub forward : ℕ → ℕ → ℕ → List ℤ
forward start end step = map (λ d. pos (start + d)) (distances start end step)

-- "for a negative step from end − 1 down while not below start"
unfoldable pub backward : ℕ → ℕ → ℕ → List ℤ
backward start end step = map (λ d. pos (end - 1 - d)) (distances start end step)

-- backward if that is so, else forward
abbrev pub walk : ℕ → ℕ → ℕ → Bool → List ℤ
walk start end step is_reversed = cond is_reversed (backward start end step) (forward start end step)

-- forward for a step above 0, backward for one below
unfoldable pub stepped : ℕ → ℕ → ℤ → List ℤ
stepped start end (pos step) = forward start end step
stepped start end (negsuc k) = backward start end (suc k)

-- "slice": by what its start and end mean, and its step
unfoldable pub slice_list : SliceInfo1 → ℕ → List ℤ
slice_list s count = stepped (from_count count s.start) (slice_end count s.end) s.step

-- "All; one; a list; marks (nonzero chosen); range ..; slice."
unfoldable pub index_list : Index → ℕ → List ℤ
index_list Index.All count = tabulate count pos
index_list (Index.One one) count = one ∷ []
index_list (Index.Vec vec) count = vec.now
index_list (Index.VecBool marks) count = marked marks.now
index_list (Index.RangeAny r) count = range_list r count
index_list (Index.NDSliceInfo s) count = slice_list s count
