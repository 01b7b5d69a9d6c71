-- The checks of a range: laws over plain values.
use mathlib.Core.Path.{◌≡◌, refl, sym, ap, ◌∙◌}
use mathlib.Core.Bool.{true}
use mathlib.Core.List.{List, [], ◌∷◌}
use Prim.Native.Nat.{ℕ, ◌+◌, ◌-◌, ◌≤◌, ◌<◌, max}
use native.Mathlib.Omega.{arith}
use borrow.Author.Tests.{le-leb, lt-leb}
use lib.IntN.{ℤ, pos}
use lib.Dec.{leb}
use Rattle.answer.specs.Answer.{Answer, done, refused, is_done, check, check_count, count_limit}
use Rattle.std.specs.Prelude.{Option, Some, None}
use Rattle.index.specs.declared.range.RangeAny.{RangeAny}
use Rattle.index.specs.Numbers.{bound_or, range_list}
use Rattle.index.specs.Checks.{check_bound, check_range, range_answer}
use Rattle.index.specs.Private.{Listed, Checked}
use Rattle.index.proofs.BufferLaws.{let_through, stopped}
use Rattle.answer.specs.Lists.{tabulate}
use Rattle.answer.proofs.Tests.{by_lt}
use Rattle.answer.proofs.AnswerLaws.{Stage, lets, check_stage, count_stage, then_stage, heard, stays, count_done}

-- a bound is checked as what it is, since what it is if absent passes
module _ (absent : ℕ) (a : absent ≤ count_limit) where
  bound_fits : (b : Option ℕ) (later : Answer) → bound_or absent b ≤ count_limit → check_bound b later ≡ later
  unfolding check_bound check_count check
  bound_fits None later h = refl
  bound_fits (Some n) later h = simp (le-leb n count_limit h)

  bound_too_large : (b : Option ℕ) (later : Answer) → count_limit < bound_or absent b → check_bound b later ≡ refused 18 []
  unfolding check_bound check_count check
  bound_too_large None later h = absurd (omega arith)
  bound_too_large (Some n) later h = simp (lt-leb n count_limit h)

-- the answer of `RangeAny::to_range`, by its tests: s and e are what the bounds say, and m the greatest of the three numbers
module _ (r : RangeAny) (count s e n m : ℕ) (es : s ≡ bound_or 0 r.start) (ee : e ≡ bound_or count r.end) (en : n ≡ max count s) (em : m ≡ max n e) where
  start_passes : s ≤ count_limit → (later : Answer) → check_bound r.start later ≡ later
  start_passes h later = bound_fits 0 (omega arith) r.start later (omega arith)

  end_passes : count ≤ count_limit → e ≤ count_limit → (later : Answer) → check_bound r.end later ≡ later
  end_passes hc h later = bound_fits count hc r.end later (omega arith)

  pub range_too_large : count_limit < m → refused 18 [] ≡ range_answer r count
  unfolding range_answer check_range check_count check
  range_too_large h =
      by_lt count_limit count
      (λ h₁. simp (lt-leb count count_limit h₁))
      (λ h₁.
      by_lt count_limit s
      (λ h₂. simp (le-leb count count_limit h₁) (sym (bound_too_large 0 (omega arith) r.start _ (omega arith))))
      (λ h₂. simp (le-leb count count_limit h₁, start_passes h₂) (sym (bound_too_large count h₁ r.end _ (omega arith)))))

  module _ (h : m ≤ count_limit) where
    pub range_above : e < s → refused 12 [] ≡ range_answer r count
    unfolding range_answer check_range check_count check
    range_above t = simp (le-leb count count_limit (omega arith), start_passes (omega arith), end_passes (omega arith) (omega arith), ← es, ← ee, lt-leb s e t)

    pub range_is : s ≤ e → done (pos s ∷ pos e ∷ []) ≡ range_answer r count
    unfolding range_answer check_range check_count check
    range_is t = simp (le-leb count count_limit (omega arith), start_passes (omega arith), end_passes (omega arith) (omega arith), ← es, ← ee, le-leb s e t)

bound_stage : (b : Option ℕ) → Stage (λ later. check_bound b later)
unfolding check_bound
bound_stage None = lets (λ later. refl)
bound_stage (Some n) = count_stage n

bound_done : (b : Option ℕ) (absent : ℕ) → absent ≤ count_limit → (later : Answer) → is_done (check_bound b later) ≡ true → (bound_or absent b ≤ count_limit) × (is_done later ≡ true)
unfolding check_bound
bound_done None absent h later e = (h, e)
bound_done (Some n) absent h later e = count_done n later e

-- what `RangeAny::to_range` answered tells what the checks of a range say
module _ (r : RangeAny) (count : ℕ) (hc : count ≤ count_limit) where
  range_stage : Stage (λ later. check_range r count later)
  unfolding check_range
  range_stage = then_stage (bound_stage r.start) (then_stage (bound_stage r.end) (check_stage (leb (bound_or 0 r.start) (bound_or count r.end)) 12))

  said : {a : Answer} → a ≡ range_answer r count → check_range r count (done (pos (bound_or 0 r.start) ∷ pos (bound_or count r.end) ∷ [])) ≡ a
  unfolding range_answer check_count check
  said e = sym (e ∙ simp (le-leb count count_limit hc))

  pub range_stopped : {n : ℕ} {old : List ℤ} → refused n [] ≡ range_answer r count → Checked (check_range r count) (range_list r count) old (refused n []) old
  range_stopped e = stopped (stays range_stage _ _ [] (said e))

  module _ (s e : ℕ) (q : done (pos s ∷ pos e ∷ []) ≡ range_answer r count) where
    range_passes : (later : Answer) → check_range r count later ≡ later
    range_passes = heard range_stage _ (ap is_done (said q))

    bounds : ◌≡◌ {A = Answer} (done (pos (bound_or 0 r.start) ∷ pos (bound_or count r.end) ∷ [])) (done (pos s ∷ pos e ∷ []))
    bounds = sym (range_passes (done (pos (bound_or 0 r.start) ∷ pos (bound_or count r.end) ∷ []))) ∙ said q

    start_is : bound_or 0 r.start ≡ s
    start_is = let b = bounds in cc

    end_is : bound_or count r.end ≡ e
    end_is = let b = bounds in cc

    pub range_end_fits : e ≤ count_limit
    unfolding check_range
    range_end_fits =
        let started = bound_done r.start 0 (omega arith) _ (ap is_done (said q)) in
        let ended = bound_done r.end count hc _ started.1 in
        omega (arith, end_is, ended.0)

    pub range_listed : {old new : List ℤ} {says : Answer} (list : List ℤ) → list ≡ tabulate (e - s) (λ k. pos (s + k)) → Listed list old says new → Checked (check_range r count) (range_list r count) old says new
    unfolding range_list
    range_listed list l = let_through range_passes (l ∙ rw (start_is, end_is) refl)
