-- The answer and the later buffer of `Index::to_vec`, by the kind of index.
use mathlib.Core.Path.{◌≡◌, refl, ap, ◌∙◌}
use mathlib.Core.List.{List, [], ◌∷◌}
use Prim.Native.Nat.{ℕ, ◌+◌, ◌-◌, ◌≤◌, ◌<◌}
use native.Mathlib.Omega.{arith}
use borrow.Author.Tests.{eq-eqb, ne_eqb, le-leb, lt-leb}
use lib.IntN.{ℤ, pos}
use lib.ListN.{length}
use Rattle.answer.specs.Answer.{Answer, refused, check, check_count, count_limit}
use Rattle.index.specs.declared.range.RangeAny.{RangeAny}
use Rattle.index.specs.declared.slice.SliceInfo1.{SliceInfo1}
use Rattle.std.specs.Borrow.{Bor}
use Rattle.index.specs.declared.Index.{Index}
use Rattle.index.specs.Numbers.{marked, range_list, slice_list, index_list}
use Rattle.index.specs.Checks.{check_range, check_slice, check_index, list_buffer, index_answer, index_buffer}
use Rattle.index.specs.Private.{Listed, Checked}
use Rattle.index.proofs.BufferLaws.{let_through, stopped}
use Rattle.answer.specs.Lists.{tabulate}
use Rattle.answer.proofs.Tabulate.{tabulate_ext}

module _ (index : Index) (count : ℕ) (old : List ℤ) where
  abbrev Promised : Answer → List ℤ → Type 0
  Promised says new = (says ≡ index_answer index count (length old)) × (new ≡ index_buffer index count old)

  pub count_too_large : count_limit < count → Promised (refused 18 []) old
  unfolding index_answer index_buffer check_count check list_buffer
  count_too_large h = (simp (lt-leb count count_limit h), simp (lt-leb count count_limit h))

  promised : count ≤ count_limit → {says : Answer} {new : List ℤ} → Checked (check_index index count) (index_list index count) old says new → Promised says new
  unfolding index_answer index_buffer check_count check
  promised h l = (l.answer ∙ simp (le-leb count count_limit h), l.buffer ∙ simp (le-leb count count_limit h))

module _ (count : ℕ) (old : List ℤ) (h : count ≤ count_limit) where
  module _ {says : Answer} {new : List ℤ} where
    pub is_all : (list : List ℤ) → list ≡ tabulate (count - 0) (λ k. pos (0 + k)) → Listed list old says new → Promised Index.All count old says new
    unfolding check_index index_list
    is_all list e l =
        promised Index.All count old h
        (let_through (λ later. refl) (e ∙ ap (λ (n : ℕ). tabulate n (λ k. pos (0 + k))) (omega arith) ∙ tabulate_ext count (λ k. pos (0 + k)) pos (λ k b. ap pos (omega arith))) l)

    pub is_one_law : (one read : ℤ) → read ≡ one → Listed (read ∷ []) old says new → Promised (Index.One one) count old says new
    unfolding check_index index_list
    is_one_law one read e l = promised (Index.One one) count old h (let_through (λ later. refl) (ap (λ (x : ℤ). x ∷ []) e) l)

    pub is_vec : (vec : Bor (List ℤ)) → Listed vec.now old says new → Promised (Index.Vec vec) count old says new
    unfolding check_index index_list
    is_vec vec l = promised (Index.Vec vec) count old h l

    pub is_marks : (marks : Bor (List ℕ)) → length marks.now ≡ count → Listed (marked marks.now) old says new → Promised (Index.VecBool marks) count old says new
    unfolding check_index index_list check
    is_marks marks e l = promised (Index.VecBool marks) count old h (let_through (λ later. simp (eq-eqb (length marks.now) count e)) refl l)

    pub is_range : (r : RangeAny) → Checked (check_range r count) (range_list r count) old says new → Promised (Index.RangeAny r) count old says new
    unfolding check_index index_list
    is_range r l = promised (Index.RangeAny r) count old h l

    pub is_slice : (s : SliceInfo1) → Checked (check_slice s count) (slice_list s count) old says new → Promised (Index.NDSliceInfo s) count old says new
    unfolding check_index index_list
    is_slice s l = promised (Index.NDSliceInfo s) count old h l

  pub marks_differ : (marks : Bor (List ℕ)) → (length marks.now ≡ count → ⊥) → Promised (Index.VecBool marks) count old (refused 8 []) old
  unfolding check_index index_list check
  marks_differ marks n = promised (Index.VecBool marks) count old h (stopped (λ later. simp (ne_eqb (length marks.now) count n)))
