-- The checks of a call, lent statistics, and the values in animal order.
use mathlib.Core.Path.{◌≡◌, refl, sym, ap, subst, ◌∙◌}
use mathlib.Core.Bool.{Bool, true, false, ◌&&◌, cond, true≢false}
use mathlib.Core.List.{List, []}
use Prim.Native.Nat.{ℕ, zero, suc, ◌+◌, ◌*◌, ◌<◌, ◌≤◌}
use native.Mathlib.Nat.{add-zero}
use native.Mathlib.Omega.{arith}
use lib.Dec.{eqb}
use lib.ListN.{length, get_or}
use lib.Ieee.{Float, nan, Format}
use borrow.Author.Tests.{le-leb, eqb-true, eqb-false}
use Rattle.answer.specs.Answer.{Answer, done, refused, count_limit, counts_fit, is_done, if_done}
use Rattle.answer.specs.Matrix.{matrix_place, matrix}
use Rattle.answer.proofs.AnswerLaws.{both_fit, counts_refuse}
use Rattle.answer.proofs.Tests.{by_test}
use Rattle.answer.proofs.MatrixLaws.{get_d_matrix, matrix_ext}
use Rattle.statistics.specs.declared.Stats.{Stats}
use Rattle.std.specs.Prelude.{Option, Some, None, Result, Ok, Err}
use Rattle.statistics.specs.declared.MarkerStats.{MarkerStats}
use Rattle.statistics.specs.declared.MarkerError.{MarkerError}
use Rattle.statistics.specs.declared.MarkerError.TheVariants.{NoIndividuals, IllegalSnpMean}
use Rattle.statistics.specs.Statistics.{lent, found_with, stats_per_marker, stats_at, in_places, found_for, standardised}
use Rattle.standardise.specs.Standardised.{marker_answer, markers_answer, buffer_checks, lent_or_new, kept_or_new, applied, value, found, lowest_refused, standardise_answer, new_stats, may_change, new_values, later_stats, later_values, Standardises}
use Rattle.standardise.specs.Private.{all_applied, Processes, FindsStats}
use Rattle.standardise.specs.Says.{standardise_says}
use Rattle.standardise.specs.declared.answers.StandardiseError.{StandardiseError}
use Rattle.standardise.specs.declared.answers.StandardiseError.TheVariants as errors
use Rattle.std.specs.Result.{is_ok}
use Rattle.statistics.proofs.CountLaws.{found_not_lent}
use Rattle.standardise.proofs.CellLaws.{own_cells}

-- ---- the checks, in order
module _ (iids sids : ℕ) (val stats : List Float) (later : Answer) where
  pub counts_too_large : counts_fit iids sids ≡ false → buffer_checks iids sids val stats later ≡ refused 18 []
  unfolding buffer_checks
  counts_too_large e = counts_refuse iids sids _ e

  module _ (fits : counts_fit iids sids ≡ true) where
    fit : (iids ≤ count_limit) × (sids ≤ count_limit)
    fit = both_fit iids sids fits

    pub values_mismatch : eqb (iids * sids) (length val) ≡ false → buffer_checks iids sids val stats later ≡ refused 15 []
    unfolding buffer_checks
    values_mismatch e = simp (le-leb iids count_limit fit.0, le-leb sids count_limit fit.1, e)

    module _ (e : eqb (iids * sids) (length val) ≡ true) where
      pub stats_mismatch : eqb (stats_per_marker * sids) (length stats) ≡ false → buffer_checks iids sids val stats later ≡ refused 17 []
      unfolding buffer_checks
      stats_mismatch g = simp (le-leb iids count_limit fit.0, le-leb sids count_limit fit.1, e, g)

      pub checks_pass : eqb (stats_per_marker * sids) (length stats) ≡ true → buffer_checks iids sids val stats later ≡ later
      unfolding buffer_checks
      checks_pass g = simp (le-leb iids count_limit fit.0, le-leb sids count_limit fit.1, e, g)

-- ---- a refused call, and one whose buffers are right
module _ (f : Format) (order : Bool) (iids sids : ℕ) (val : List Float) (use_stats : Bool) (stats : List Float) (apply : Bool) where
  pub call_refused : (n : ℕ) → ((later : Answer) → buffer_checks iids sids val stats later ≡ refused n [])
      → Standardises f order iids sids val use_stats stats apply (refused n []) val stats
  unfolding standardise_answer later_values later_stats
  call_refused n h = (
    sym (h (lowest_refused f order iids sids val use_stats stats)),
    sym (ap (λ (a : Answer). if_done a (new_values f order iids sids val use_stats stats apply) val) (h (done []))),
    sym (ap (λ (a : Answer). if_done a (new_stats f order iids sids val use_stats stats) stats) (h (done []))),
  )

  pub call_made : ((later : Answer) → buffer_checks iids sids val stats later ≡ later) → (order' : Bool) → order ≡ order' → (answer : Answer) (values statistics : List Float)
      → Processes f order' iids sids val use_stats stats apply answer values statistics
      → Standardises f order iids sids val use_stats stats apply answer values statistics
  unfolding standardise_answer later_values later_stats
  call_made h order' o answer values statistics (a, v, s) = (
    a ∙ ap (λ (b : Bool). lowest_refused f b iids sids val use_stats stats) (sym o) ∙ sym (h (lowest_refused f order iids sids val use_stats stats)),
    v ∙ ap (λ (b : Bool). new_values f b iids sids val use_stats stats apply) (sym o) ∙ sym (ap (λ (a : Answer). if_done a (new_values f order iids sids val use_stats stats apply) val) (h (done []))),
    s ∙ ap (λ (b : Bool). new_stats f b iids sids val use_stats stats) (sym o) ∙ sym (ap (λ (a : Answer). if_done a (new_stats f order iids sids val use_stats stats) stats) (h (done []))),
  )

-- ---- lent statistics
none_refused : (st : ℕ → Stats) (n : ℕ) → markers_answer (λ m. Ok (lent (st m))) n ≡ done []
unfolding markers_answer
none_refused st zero = refl
none_refused st (suc n) = ap (λ (a : Answer). if_done a (done []) a) (none_refused st n)

module _ (f : Format) (order : Bool) (iids sids : ℕ) (val : List Float) (use_stats : Bool) (stats : List Float) where
  lent_done : done [] ≡ lowest_refused f order iids sids val true stats
  unfolding lowest_refused found found_for
  lent_done = sym (none_refused (stats_at stats) sids)

  pub lent_answer : use_stats ≡ true → done [] ≡ lowest_refused f order iids sids val use_stats stats
  lent_answer e = subst (λ (b : Bool). done [] ≡ lowest_refused f order iids sids val b stats) (sym e) lent_done

  pub lent_stats : stats_per_marker * sids ≡ length stats → use_stats ≡ true → stats ≡ new_stats f order iids sids val use_stats stats
  unfolding new_stats found found_for kept_or_new lent_or_new matrix_place
  lent_stats l e = own_cells false stats_per_marker sids stats (sym l) ∙ ap (λ (b : Bool). new_stats f order iids sids val b stats) (sym e)

  pub as_not_lent : use_stats ≡ false → (answer : Answer) (statistics : List Float)
      → FindsStats f order iids sids val false stats answer statistics → FindsStats f order iids sids val use_stats stats answer statistics
  as_not_lent e answer statistics (a, s) = (
    a ∙ ap (λ (b : Bool). lowest_refused f order iids sids val b stats) (sym e),
    s ∙ ap (λ (b : Bool). new_stats f order iids sids val b stats) (sym e),
  )

-- ---- applied or not
pub done_by : (r : Result (Unit {0}) StandardiseError) → is_ok r ≡ is_done (standardise_says r)
done_by (Ok t) = refl
done_by (Err errors.CountTooLarge) = refl
done_by (Err errors.IndexMismatch) = refl
done_by (Err errors.StatsMismatch) = refl
done_by (Err (errors.NoIndividuals m)) = refl
done_by (Err (errors.IllegalSnpMean m)) = refl

-- ---- without a refusal every marker's statistics are found
pub done_found : (found : ℕ → Result MarkerStats MarkerError) (n m : ℕ) → is_done (markers_answer found n) ≡ true → m < n → is_done (marker_answer m (found m)) ≡ true
unfolding markers_answer
done_found found zero m e h = absurd (let z : m < 0 = h in omega arith)
done_found found (suc n) m e h = by_test (is_done (markers_answer found n)) (λ t. earlier t (done_found found n m t)) (λ t. absurd (true≢false (sym e ∙ ap is_done (kept t) ∙ t)))
  where
    kept : is_done (markers_answer found n) ≡ false → if_done (markers_answer found n) (marker_answer n (found n)) (markers_answer found n) ≡ markers_answer found n
    kept t = ap (λ (b : Bool). cond b (marker_answer n (found n)) (markers_answer found n)) t

    last : is_done (markers_answer found n) ≡ true → is_done (marker_answer n (found n)) ≡ true
    last t = sym (ap (λ (b : Bool). is_done (cond b (marker_answer n (found n)) (markers_answer found n))) t) ∙ e

    earlier : is_done (markers_answer found n) ≡ true → (m < n → is_done (marker_answer m (found m)) ≡ true) → is_done (marker_answer m (found m)) ≡ true
    earlier t before =
        by_test (eqb m n) (λ q. subst (λ (x : ℕ). is_done (marker_answer x (found x)) ≡ true) (sym (eqb-true m n q)) (last t)) (λ q. let d : m ≡ n → ⊥ = eqb-false m n q in before (omega arith))

module _ (f : Format) (sids : ℕ) (found : ℕ → Result MarkerStats MarkerError) (old : ℕ → ℕ → Float) (m : ℕ) (h : m < sids) (v : Float)
    (own : (s : Stats) → found m ≡ Ok (lent s) → ⊥) where
  abbrev stored : List Float
  stored = matrix false stats_per_marker sids (λ c k. kept_or_new (found k) c (old c k))

  stored_is : (s : Stats) (observed : Float) → found m ≡ Ok (found_with s observed) → stats_at stored m ≡ s
  unfolding stats_at matrix_place kept_or_new lent_or_new in_places
  stored_is s observed e =
      let place : (c : ℕ) → c < stats_per_marker → get_or stored (m * stats_per_marker + c) nan ≡ kept_or_new (Ok (found_with s observed)) c (old c m) = (
      λ c k. get_d_matrix stats_per_marker sids c m k h false (λ c k. kept_or_new (found k) c (old c k)) nan ∙ ap (λ (x : Result MarkerStats MarkerError). kept_or_new x c (old c m)) e
      ) in
      let a : get_or stored (m * stats_per_marker) nan ≡ s.mean = (ap (λ (x : ℕ). get_or stored x nan) (sym (add-zero (m * stats_per_marker))) ∙ place 0 (omega arith)) in
      let b : get_or stored (m * stats_per_marker + 1) nan ≡ s.deviation = place 1 (omega arith) in
      ap (λ (x : Float). pair_of x (get_or stored (m * stats_per_marker + 1) nan)) a ∙ ap (pair_of s.mean) b
    where
      pair_of : Float → Float → Stats
      pair_of x y = record { mean = x; deviation = y }

  stored_applies : (x : Result MarkerStats MarkerError) → found m ≡ x → is_done (marker_answer m x) ≡ true → standardised f (stats_at stored m) v ≡ applied f x v
  unfolding applied marker_answer
  stored_applies (Ok x) e t = by_observed x.observed refl
    where
      by_observed : (o : Option Float) → x.observed ≡ o → standardised f (stats_at stored m) v ≡ standardised f x.stats v
      by_observed None q = absurd (own x.stats (e ∙ ap (λ (o : Option Float). Ok (record { stats = x.stats; observed = o })) q))
      by_observed (Some observed) q = ap (λ (y : Stats). standardised f y v) (stored_is x.stats observed (e ∙ ap (λ (o : Option Float). Ok (record { stats = x.stats; observed = o })) q))
  stored_applies (Err NoIndividuals) e t = absurd (true≢false (sym t))
  stored_applies (Err IllegalSnpMean) e t = absurd (true≢false (sym t))

  pub new_applies : is_done (markers_answer found sids) ≡ true → standardised f (stats_at stored m) v ≡ applied f (found m) v
  new_applies t = stored_applies (found m) refl (done_found found sids m t h)

module _ (f : Format) (iids sids : ℕ) (val : List Float) (stats : List Float) (l : stats_per_marker * sids ≡ length stats) (apply : Bool) where
  applies : (use_stats : Bool) → is_done (lowest_refused f true iids sids val use_stats stats) ≡ true → (m : ℕ) → m < sids → (v : Float)
      → standardised f (stats_at (new_stats f true iids sids val use_stats stats) m) v ≡ applied f (found f true iids sids val use_stats stats m) v
  unfolding lowest_refused new_stats found found_for applied
  applies true t m h v = ap (λ (x : List Float). standardised f (stats_at x m) v) (sym (lent_stats f true iids sids val true stats l refl))
  applies false t m h v = new_applies f sids (found f true iids sids val false stats) (λ c k. get_or stats (k * stats_per_marker + c) nan) m h v
      (found_not_lent f iids (λ i. value true iids sids val i m)) t

  pub rows_values : (use_stats : Bool) (answer : Answer) (values statistics : List Float) → answer ≡ lowest_refused f true iids sids val use_stats stats
      → statistics ≡ new_stats f true iids sids val use_stats stats → values ≡ cond (apply && is_done answer) (all_applied f iids sids statistics val) val
      → values ≡ new_values f true iids sids val use_stats stats apply
  unfolding new_values may_change all_applied
  rows_values use_stats answer values statistics a s v =
      v
      ∙ ap (λ (x : Answer). cond (apply && is_done x) (all_applied f iids sids statistics val) val) a
      ∙ ap (λ (x : List Float). cond (apply && is_done (lowest_refused f true iids sids val use_stats stats)) (all_applied f iids sids x val) val) s
      ∙ by_test (is_done (lowest_refused f true iids sids val use_stats stats)) (λ t. same t) (λ t. none t)
    where
      may : Bool
      may = is_done (lowest_refused f true iids sids val use_stats stats)

      old : List Float
      old = matrix true iids sids (λ i m. standardised f (stats_at (new_stats f true iids sids val use_stats stats) m) (value true iids sids val i m))

      new : List Float
      new = matrix true iids sids (λ i m. applied f (found f true iids sids val use_stats stats m) (value true iids sids val i m))

      same : may ≡ true → cond (apply && may) old val ≡ cond (apply && may) new val
      same t =
          ap (λ (x : List Float). cond (apply && may) x val)
          (matrix_ext true iids sids (λ i m. standardised f (stats_at (new_stats f true iids sids val use_stats stats) m) (value true iids sids val i m))
          (λ i m. applied f (found f true iids sids val use_stats stats m) (value true iids sids val i m)) (λ i m a b. applies use_stats t m b (value true iids sids val i m)))

      either : (b : Bool) → cond (b && false) old val ≡ cond (b && false) new val
      either true = refl
      either false = refl

      none : may ≡ false → cond (apply && may) old val ≡ cond (apply && may) new val
      none t = ap (λ (b : Bool). cond (apply && b) old val) t ∙ either apply ∙ sym (ap (λ (b : Bool). cond (apply && b) new val) t)
