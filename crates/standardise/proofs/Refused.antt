-- Refused markers: the answer is the lowest one's, and every one keeps its values and its statistics.
use mathlib.Core.Path.{◌≡◌, refl, sym, ap, subst, ◌∙◌}
use mathlib.Core.Bool.{Bool, true, false, ◌&&◌, cond, true≢false}
use mathlib.Core.List.{List, [], ◌∷◌}
use mathlib.Core.Logic.{◌⊎◌, inl, inr}
use Prim.Native.Nat.{ℕ, zero, suc, ◌+◌, ◌*◌, ◌<◌}
use native.Mathlib.Omega.{arith}
use borrow.Author.Tests.{eqb-true, eqb-false}
use lib.Dec.{eqb}
use lib.IntN.{ℤ, pos}
use lib.ListN.{length, get_or}
use lib.Ieee.{Float, nan, Format, is_nan}
use Rattle.answer.specs.Answer.{Answer, done, refused, is_done, GivesNo, if_done}
use Rattle.answer.specs.Matrix.{matrix_place, matrix}
use Rattle.answer.proofs.MatrixLaws.{get_d_matrix}
use Rattle.answer.proofs.Tests.{by_test}
use Rattle.answer.proofs.AnswerLaws.{number, check_other, count_other}
use Rattle.statistics.specs.declared.Stats.{Stats}
use Rattle.std.specs.Prelude.{Result, Ok, Err}
use Rattle.statistics.specs.declared.MarkerStats.{MarkerStats}
use Rattle.statistics.specs.declared.MarkerError.{MarkerError}
use Rattle.statistics.specs.declared.MarkerError.TheVariants.{NoIndividuals, IllegalSnpMean}
use Rattle.statistics.specs.Statistics.{lent, found_with, accumulated, mean, stats_of, no_value, marker_stats, found_for, stats_per_marker, stats_at}
use Rattle.statistics.specs.Calls.{IsCall}
use Rattle.statistics.proofs.SumLimit.{calls_not_14}
use Rattle.standardise.specs.Standardised.{marker_answer, markers_answer, buffer_checks, kept_or_new, applied, value, found, lowest_refused, standardise_answer, new_stats, later_stats, later_values}
use Rattle.standardise.specs.Refused.{IsRefused, NotRefused, IsLowestRefused}
use Rattle.standardise.specs.Private.{later_value}
use Rattle.standardise.proofs.Theorems.{later_value_law, changes, either_same}

-- ---- 1. the answer of the first n markers
-- a marker's answer is done exactly if the marker is not refused
not_refused : (m : ℕ) (x : Result MarkerStats MarkerError) → is_done (marker_answer m x) ≡ true → NotRefused x
unfolding marker_answer
not_refused m (Ok x) e = (x, refl)
not_refused m (Err NoIndividuals) e = absurd (true≢false (sym e))
not_refused m (Err IllegalSnpMean) e = absurd (true≢false (sym e))

answer_done : (m : ℕ) (x : Result MarkerStats MarkerError) → NotRefused x → marker_answer m x ≡ done []
unfolding marker_answer
answer_done m x (s, e) = ap (marker_answer m) e

-- a refused marker's answer carries its place
carries : (m : ℕ) (x : Result MarkerStats MarkerError) (k : ℕ) (vs : List ℤ) → marker_answer m x ≡ refused k vs → vs ≡ pos m ∷ []
unfolding marker_answer
carries m (Ok x) k vs e = absurd (let q : ◌≡◌ {A = ℕ} 0 1 = cc in omega arith)
carries m (Err NoIndividuals) k vs e = cc
carries m (Err IllegalSnpMean) k vs e = cc

-- 13 for "no non-NaN value", 14 for "a NaN mean", and no other number
pub number_told : (m : ℕ) (x : Result MarkerStats MarkerError) (k : ℕ) (vs : List ℤ) → marker_answer m x ≡ refused k vs → ((k ≡ 13) × (x ≡ Err NoIndividuals)) ⊎ ((k ≡ 14) × (x ≡ Err IllegalSnpMean))
unfolding marker_answer
number_told m (Ok x) k vs e = absurd (let q : ◌≡◌ {A = ℕ} 0 1 = cc in omega arith)
number_told m (Err NoIndividuals) k vs e = inl (cc, refl)
number_told m (Err IllegalSnpMean) k vs e = inr (cc, refl)

-- two answers of which the second counts if the first is done
both_done : (a b : Answer) → is_done (if_done a b a) ≡ true → (is_done a ≡ true) × (is_done b ≡ true)
unfolding if_done
both_done (done vs) b e = (refl, e)
both_done (refused k vs) b e = absurd (true≢false (sym e))

module _ (g : ℕ → Result MarkerStats MarkerError) where
  each_not_refused : (n : ℕ) → is_done (markers_answer g n) ≡ true → (j : ℕ) → j < n → NotRefused (g j)
  unfolding markers_answer
  each_not_refused zero e j h = absurd (omega arith)
  each_not_refused (suc n) e j h =
      let d = both_done (markers_answer g n) (marker_answer n (g n)) e in
      by_test (eqb j n) (λ t. subst (λ (i : ℕ). NotRefused (g i)) (sym (eqb-true j n t)) (not_refused n (g n) d.1))
      (λ t. let q : j ≡ n → ⊥ = eqb-false j n t in each_not_refused n d.0 j (omega arith))

  -- nothing is refused exactly if no marker is
  none_refused : (n : ℕ) → ((j : ℕ) → j < n → NotRefused (g j)) → markers_answer g n ≡ done []
  unfolding markers_answer if_done
  none_refused zero h = refl
  none_refused (suc n) h =
      ap (λ (a : Answer). if_done a (marker_answer n (g n)) a) (none_refused n (λ j l. h j (omega arith))) ∙ answer_done n (g n) (h n (omega arith))

  -- the answer is the lowest refused marker's, with its place
  lowest : (n k : ℕ) (vs : List ℤ) → markers_answer g n ≡ refused k vs → (m : ℕ) × (vs ≡ pos m ∷ []) × IsLowestRefused g n k m
  unfolding markers_answer
  lowest zero k vs e = absurd (let q : ◌≡◌ {A = ℕ} 0 1 = cc in omega arith)
  lowest (suc n) k vs e = go (markers_answer g n) refl (lowest n k vs) e
    where
      go : (a : Answer) → markers_answer g n ≡ a → (markers_answer g n ≡ refused k vs → (m : ℕ) × (vs ≡ pos m ∷ []) × IsLowestRefused g n k m)
          → if_done a (marker_answer n (g n)) a ≡ refused k vs → (m : ℕ) × (vs ≡ pos m ∷ []) × IsLowestRefused g (suc n) k m
      go (done us) a earlier e =
          let c = carries n (g n) k vs e in
          (n, c, record { in_matrix = omega arith; is_refused = e ∙ ap (refused k) c; lower_not_refused = each_not_refused n (ap is_done a) })
      go (refused j us) a earlier e =
          let (m, c, l) = earlier (a ∙ e) in
          (m, c, record { in_matrix = let h = l.in_matrix in omega arith; is_refused = l.is_refused; lower_not_refused = l.lower_not_refused })

  -- and the lowest refused marker's is the answer
  lowest_only : (n k m : ℕ) → IsLowestRefused g n k m → markers_answer g n ≡ refused k (pos m ∷ [])
  unfolding markers_answer if_done
  lowest_only zero k m l = absurd (let h = l.in_matrix in omega arith)
  lowest_only (suc n) k m l =
      by_test (eqb m n)
      (λ t. let q : n ≡ m = sym (eqb-true m n t) in
      ap (λ (a : Answer). if_done a (marker_answer n (g n)) a) (none_refused n (λ j h. l.lower_not_refused j (omega arith)))
      ∙ subst (λ (i : ℕ). marker_answer i (g i) ≡ refused k (pos m ∷ [])) (sym q) l.is_refused)
      (λ t. let q : m ≡ n → ⊥ = eqb-false m n t in
      let h = l.in_matrix in
      ap (λ (a : Answer). if_done a (marker_answer n (g n)) a)
      (lowest_only n k m (record { in_matrix = omega arith; is_refused = l.is_refused; lower_not_refused = l.lower_not_refused })))

-- ---- of a call
module _ (f : Format) (order : Bool) (iids sids : ℕ) (val : List Float) (use_stats : Bool) (stats : List Float) where
  -- 13 and 14: "lowest refused marker .. carries it". The markers' answer is a refusal exactly if there is a lowest refused marker, and then it is that one's
  pub lowest_refused_law : (k : ℕ) (vs : List ℤ) → lowest_refused f order iids sids val use_stats stats ≡ refused k vs
      → (m : ℕ) × (vs ≡ pos m ∷ []) × IsLowestRefused (found f order iids sids val use_stats stats) sids k m
  unfolding lowest_refused
  lowest_refused_law k vs e = lowest (found f order iids sids val use_stats stats) sids k vs e

  pub is_lowest_refused : (k m : ℕ) → IsLowestRefused (found f order iids sids val use_stats stats) sids k m
      → lowest_refused f order iids sids val use_stats stats ≡ refused k (pos m ∷ [])
  unfolding lowest_refused
  is_lowest_refused k m l = lowest_only (found f order iids sids val use_stats stats) sids k m l

  -- and it is done exactly if no marker is refused
  pub none_is_refused : ((m : ℕ) → m < sids → NotRefused (found f order iids sids val use_stats stats m)) → lowest_refused f order iids sids val use_stats stats ≡ done []
  unfolding lowest_refused
  none_is_refused h = none_refused (found f order iids sids val use_stats stats) sids h

  pub done_none_refused : is_done (lowest_refused f order iids sids val use_stats stats) ≡ true → (m : ℕ) → m < sids → NotRefused (found f order iids sids val use_stats stats m)
  unfolding lowest_refused
  done_none_refused e = each_not_refused (found f order iids sids val use_stats stats) sids e

-- ---- which markers are refused. 13: "has no non-NaN value"; 14: "has a NaN mean"
all_nan : (column : ℕ → Float) (n : ℕ) → no_value column n ≡ true → (i : ℕ) → i < n → is_nan (column i) ≡ true
unfolding no_value
all_nan column zero e i h = absurd (omega arith)
all_nan column (suc n) e i h =
    let d = both (no_value column n) (is_nan (column n)) e in
    by_test (eqb i n) (λ t. ap (λ (k : ℕ). is_nan (column k)) (eqb-true i n t) ∙ d.1)
    (λ t. let q : i ≡ n → ⊥ = eqb-false i n t in all_nan column n d.0 i (omega arith))
  where
    both : (a b : Bool) → (a && b) ≡ true → (a ≡ true) × (b ≡ true)
    both true b e = (refl, e)
    both false b e = absurd (true≢false (sym e))

no_value_law : (column : ℕ → Float) (n : ℕ) → ((i : ℕ) → i < n → is_nan (column i) ≡ true) → no_value column n ≡ true
unfolding no_value
no_value_law column zero h = refl
no_value_law column (suc n) h = ap (λ (b : Bool). b && is_nan (column n)) (no_value_law column n (λ i l. h i (omega arith))) ∙ h n (omega arith)

some_value : (column : ℕ → Float) (n : ℕ) → no_value column n ≡ false → (i : ℕ) × (i < n) × (is_nan (column i) ≡ false)
unfolding no_value
some_value column zero e = absurd (true≢false e)
some_value column (suc n) e = go (no_value column n) refl e (some_value column n)
  where
    go : (b : Bool) → no_value column n ≡ b → (b && is_nan (column n)) ≡ false → (no_value column n ≡ false → (i : ℕ) × (i < n) × (is_nan (column i) ≡ false))
        → (i : ℕ) × (i < suc n) × (is_nan (column i) ≡ false)
    go true p e earlier = (n, omega arith, e)
    go false p e earlier = let (i, h, q) = earlier p in (i, omega arith, q)

-- what is found, by the two tests
told_13 : (p q : Bool) (s : Stats) (observed : Float) → cond p (Err NoIndividuals) (cond q (Err IllegalSnpMean) (Ok (found_with s observed))) ≡ Err NoIndividuals → p ≡ true
told_13 true q s observed e = refl
told_13 false true s observed e = absurd (let z : ◌≡◌ {A = ℕ} 0 1 = cc in omega arith)
told_13 false false s observed e = absurd (let z : ◌≡◌ {A = ℕ} 0 1 = cc in omega arith)

told_14 : (p q : Bool) (s : Stats) (observed : Float) → cond p (Err NoIndividuals) (cond q (Err IllegalSnpMean) (Ok (found_with s observed))) ≡ Err IllegalSnpMean → (p ≡ false) × (q ≡ true)
told_14 true q s observed e = absurd (let z : ◌≡◌ {A = ℕ} 0 1 = cc in omega arith)
told_14 false true s observed e = (refl, refl)
told_14 false false s observed e = absurd (let z : ◌≡◌ {A = ℕ} 0 1 = cc in omega arith)

-- of marker m, if no statistics are lent
module _ (f : Format) (order : Bool) (iids sids : ℕ) (val stats : List Float) (m : ℕ) where
  abbrev column : ℕ → Float
  column i = value order iids sids val i m

  pub is_13 : (found f order iids sids val false stats m ≡ Err NoIndividuals → (i : ℕ) → i < iids → is_nan (value order iids sids val i m) ≡ true)
      × (((i : ℕ) → i < iids → is_nan (value order iids sids val i m) ≡ true) → found f order iids sids val false stats m ≡ Err NoIndividuals)
  unfolding found found_for marker_stats
  is_13 = (
    λ e. all_nan column iids (told_13 (no_value column iids) (is_nan (mean f (accumulated f column iids))) (stats_of f (accumulated f column iids)) (accumulated f column iids).count e),
    λ h. ap (λ (b : Bool). cond b (Err NoIndividuals) (cond (is_nan (mean f (accumulated f column iids))) (Err IllegalSnpMean) (Ok (found_with (stats_of f (accumulated f column iids)) (accumulated f column iids).count)))) (no_value_law column iids h),
  )

  pub is_14 : (found f order iids sids val false stats m ≡ Err IllegalSnpMean
      → ((i : ℕ) × (i < iids) × (is_nan (value order iids sids val i m) ≡ false)) × (is_nan (mean f (accumulated f (λ i. value order iids sids val i m) iids)) ≡ true))
      × ((i : ℕ) → i < iids → is_nan (value order iids sids val i m) ≡ false → is_nan (mean f (accumulated f (λ i. value order iids sids val i m) iids)) ≡ true
      → found f order iids sids val false stats m ≡ Err IllegalSnpMean)
  unfolding found found_for marker_stats
  is_14 = (
    λ e. let t = told_14 (no_value column iids) (is_nan (mean f (accumulated f column iids))) (stats_of f (accumulated f column iids)) (accumulated f column iids).count e in (some_value column iids t.0, t.1),
    λ i h v n.
        by_test (no_value column iids) (λ t. absurd (true≢false (sym (all_nan column iids t i h) ∙ v)))
        (λ t. λ j. cond (t j) (Err NoIndividuals) (cond (n j) (Err IllegalSnpMean) (Ok (found_with (stats_of f (accumulated f column iids)) (accumulated f column iids).count)))),
  )

-- "With lent statistics nothing is recomputed or refused for 13, 14."
pub lent_not_refused : (f : Format) (order : Bool) (iids sids : ℕ) (val stats : List Float) → lowest_refused f order iids sids val true stats ≡ done []
unfolding found found_for
lent_not_refused f order iids sids val stats = none_is_refused f order iids sids val true stats (λ m h. (lent (stats_at stats m), refl))

-- ---- a matrix of decoded calls has no marker with a NaN mean, however many animals it has, and whatever the choices
module _ (f : Format) (order : Bool) (iids sids : ℕ) (val : List Float) (stats : List Float)
    (calls : (i m : ℕ) → i < iids → m < sids → IsCall (value order iids sids val i m)) where
  no_mean : (m : ℕ) (k : ℕ) → k ≡ 14 → m < sids
      → ((k ≡ 13) × (found f order iids sids val false stats m ≡ Err NoIndividuals)) ⊎ ((k ≡ 14) × (found f order iids sids val false stats m ≡ Err IllegalSnpMean)) → ⊥
  unfolding found found_for
  no_mean m k q h (inl (n, e)) = omega arith
  no_mean m k q h (inr (n, e)) = calls_not_14 f (λ i. value order iids sids val i m) iids (λ i b. calls i m b h) e

  pub calls_lowest_never_14 : (use_stats : Bool) → GivesNo 14 (lowest_refused f order iids sids val use_stats stats)
  unfolding number
  calls_lowest_never_14 true vs e = let q : ◌≡◌ {A = ℕ} 0 14 = sym (ap number (lent_not_refused f order iids sids val stats)) ∙ ap number e in omega arith
  calls_lowest_never_14 false vs e =
      let (m, c, l) = lowest_refused_law f order iids sids val false stats 14 vs e in
      no_mean m 14 refl l.in_matrix (number_told m (found f order iids sids val false stats m) 14 (pos m ∷ []) l.is_refused)

  -- so standardising it never gives 14
  pub calls_never_14 : (use_stats : Bool) → GivesNo 14 (standardise_answer f order iids sids val use_stats stats)
  unfolding standardise_answer buffer_checks
  calls_never_14 use_stats vs e =
      calls_lowest_never_14 use_stats vs
      (check_other (eqb (stats_per_marker * sids) (length stats)) 17 _ 14 vs (λ q. omega (arith, q))
      (check_other (eqb (iids * sids) (length val)) 15 _ 14 vs (λ q. omega (arith, q))
      (count_other sids _ 14 vs (λ q. omega (arith, q)) (count_other iids _ 14 vs (λ q. omega (arith, q)) e))))

-- ---- 2. "At 13 or 14 refused markers keep old statistics"; "still applies to every marker not refused"
kept_value : (f : Format) (b : Bool) (x : Result MarkerStats MarkerError) (v : Float) → IsRefused x → later_value f b x v ≡ v
unfolding later_value applied
kept_value f b x v (inl e) = ap (λ (y : Result MarkerStats MarkerError). later_value f b y v) e ∙ either_same b v
kept_value f b x v (inr e) = ap (λ (y : Result MarkerStats MarkerError). later_value f b y v) e ∙ either_same b v

kept_stat : (x : Result MarkerStats MarkerError) (c : ℕ) (old : Float) → IsRefused x → kept_or_new x c old ≡ old
unfolding kept_or_new
kept_stat x c old (inl e) = ap (λ (y : Result MarkerStats MarkerError). kept_or_new y c old) e
kept_stat x c old (inr e) = ap (λ (y : Result MarkerStats MarkerError). kept_or_new y c old) e

-- every refused marker, not only the lowest; in either order, by every choice, and whatever the buffers' checks say
module _ (f : Format) (order : Bool) (iids sids : ℕ) (val : List Float) (use_stats : Bool) (stats : List Float) (m : ℕ) (hm : m < sids)
    (r : IsRefused (found f order iids sids val use_stats stats m)) where
  pub refused_keeps_values : (apply : Bool) (i : ℕ) → i < iids
      → value order iids sids (later_values f order iids sids val use_stats stats apply) i m ≡ value order iids sids val i m
  refused_keeps_values apply i hi =
      later_value_law f order iids sids val use_stats stats apply i m hi hm
      ∙ kept_value f (changes f order iids sids val use_stats stats apply) (found f order iids sids val use_stats stats m) (value order iids sids val i m) r

  -- all three of its places
  pub refused_keeps_stats : (c : ℕ) → c < stats_per_marker → get_or (later_stats f order iids sids val use_stats stats) (m * stats_per_marker + c) nan ≡ get_or stats (m * stats_per_marker + c) nan
  unfolding later_stats new_stats if_done matrix_place
  refused_keeps_stats c hc = checked (is_done (buffer_checks iids sids val stats (done [])))
    where
      new : ℕ → ℕ → Float
      new c m = kept_or_new (found f order iids sids val use_stats stats m) c (get_or stats (m * stats_per_marker + c) nan)

      checked : (b : Bool) → get_or (cond b (matrix false stats_per_marker sids new) stats) (m * stats_per_marker + c) nan ≡ get_or stats (m * stats_per_marker + c) nan
      checked true = get_d_matrix stats_per_marker sids c m hc hm false new nan ∙ kept_stat (found f order iids sids val use_stats stats m) c (get_or stats (m * stats_per_marker + c) nan) r
      checked false = refl
