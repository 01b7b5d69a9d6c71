-- "three numbers: mean, deviation and observed count as f64": what a call leaves in a marker's places; lent statistics.
use mathlib.Core.Path.{◌≡◌, refl, sym, ap, ◌∙◌}
use mathlib.Core.Bool.{Bool, true, false, ◌&&◌, cond}
use mathlib.Core.List.{List, []}
use Prim.Native.Nat.{ℕ, ◌+◌, ◌*◌, ◌^◌, ◌<◌, ◌≤◌}
use native.Mathlib.Omega.{arith}
use borrow.Author.Tests.{eqb-true}
use lib.Dec.{lit≤, leb, eqb}
use lib.ListN.{length, get_or}
use lib.Ieee.{Float, nan, Format, prec, is_nan}
use Rattle.answer.specs.Answer.{Answer, done, check, check_count, count_limit, is_done, if_done}
use Rattle.answer.specs.Matrix.{matrix_place, matrix}
use Rattle.answer.proofs.Tests.{by_test}
use Rattle.answer.proofs.MatrixLaws.{get_d_matrix, matrix_ext}
use Rattle.statistics.specs.declared.Accumulator.{Accumulator}
use Rattle.statistics.specs.declared.Stats.{Stats}
use Rattle.std.specs.Prelude.{Result, Ok, Err}
use Rattle.statistics.specs.declared.MarkerStats.{MarkerStats}
use Rattle.statistics.specs.declared.MarkerError.{MarkerError}
use Rattle.statistics.specs.declared.MarkerError.TheVariants.{NoIndividuals, IllegalSnpMean}
use Rattle.statistics.specs.Statistics.{lent, found_with, accumulated, mean, stats_of, no_value, marker_stats, found_for, stats_per_marker, in_places, stats_at}
use Rattle.statistics.specs.Calls.{whole, observed, Calls}
use Rattle.statistics.proofs.Exact.{observed_is, none_observed}
use Rattle.statistics.proofs.SumLimit.{mean_of_calls}
use Rattle.standardise.specs.Standardised.{buffer_checks, lent_or_new, kept_or_new, applied, value, found, lowest_refused, standardise_answer, new_stats, may_change, new_values, later_stats, later_values}
use Rattle.standardise.specs.Refused.{NotRefused}
use Rattle.standardise.proofs.CallLaws.{lent_stats, lent_answer}

-- ---- 1. statistics found
-- a marker that is not refused has the pair of mean and deviation of its values, and their count
three : (f : Format) (n : ℕ) (column : ℕ → Float) → NotRefused (marker_stats f n column)
    → marker_stats f n column ≡ Ok (found_with (stats_of f (accumulated f column n)) (accumulated f column n).count)
unfolding marker_stats
three f n column (s, e) = go (no_value column n) (is_nan (mean f (accumulated f column n))) (Ok (found_with (stats_of f (accumulated f column n)) (accumulated f column n).count)) e
  where
    go : (p q : Bool) (x : Result MarkerStats MarkerError) → cond p (Err NoIndividuals) (cond q (Err IllegalSnpMean) x) ≡ Ok s → cond p (Err NoIndividuals) (cond q (Err IllegalSnpMean) x) ≡ x
    go true q x e = absurd (let z : ◌≡◌ {A = ℕ} 0 1 = cc in omega arith)
    go false true x e = absurd (let z : ◌≡◌ {A = ℕ} 0 1 = cc in omega arith)
    go false false x e = refl

-- a marker once the buffers are checked
module _ (f : Format) (order : Bool) (iids sids : ℕ) (val stats : List Float) (m : ℕ) (h : m < sids) where
  abbrev column : ℕ → Float
  column i = value order iids sids val i m

  abbrev a : Accumulator
  a = accumulated f column iids

  -- what is found, by its two tests
  abbrev by_tests : Bool → Bool → Result MarkerStats MarkerError
  by_tests p q = cond p (Err NoIndividuals) (cond q (Err IllegalSnpMean) (Ok (found_with (stats_of f a) a.count)))

  abbrev old : ℕ → Float
  old c = get_or stats (m * stats_per_marker + c) nan

  new_place : (x : Result MarkerStats MarkerError) → found f order iids sids val false stats m ≡ x → (c : ℕ) → c < stats_per_marker
      → get_or (new_stats f order iids sids val false stats) (m * stats_per_marker + c) nan ≡ kept_or_new x c (old c)
  unfolding new_stats matrix_place
  new_place x e c k =
      get_d_matrix stats_per_marker sids c m k h false (λ c m. kept_or_new (found f order iids sids val false stats m) c (get_or stats (m * stats_per_marker + c) nan)) nan
      ∙ ap (λ (y : Result MarkerStats MarkerError). kept_or_new y c (old c)) e

  module _ (r : NotRefused (found f order iids sids val false stats m)) where
    -- "at places 3m, 3m + 1 and 3m + 2"
    new_three : (c : ℕ) → c < stats_per_marker
        → get_or (new_stats f order iids sids val false stats) (m * stats_per_marker + c) nan ≡ get_or (in_places (stats_of f a) a.count) c nan
    unfolding found found_for kept_or_new lent_or_new
    new_three c k = new_place (Ok (found_with (stats_of f a) a.count)) (three f iids column r) c k

    pub new_third_is_observed : iids ≤ 2 ^ prec f
        → get_or (new_stats f order iids sids val false stats) (m * stats_per_marker + 2) nan ≡ whole f (observed (λ i. value order iids sids val i m) iids)
    unfolding in_places
    new_third_is_observed e = new_three 2 (lit≤ tt) ∙ observed_is f column iids e

    -- and after a call whose checks of the buffers found nothing, also if other markers are refused
    module _ (right : is_done (buffer_checks iids sids val stats (done [])) ≡ true) where
      passed : (c : ℕ) → get_or (later_stats f order iids sids val false stats) (m * stats_per_marker + c) nan ≡ get_or (new_stats f order iids sids val false stats) (m * stats_per_marker + c) nan
      unfolding later_stats
      passed c = ap (λ (b : Bool). get_or (cond b (new_stats f order iids sids val false stats) stats) (m * stats_per_marker + c) nan) right

      pub three_places : (c : ℕ) → c < stats_per_marker
          → get_or (later_stats f order iids sids val false stats) (m * stats_per_marker + c) nan
          ≡ get_or (in_places (stats_of f (accumulated f (λ i. value order iids sids val i m) iids)) (accumulated f (λ i. value order iids sids val i m) iids).count) c nan
      three_places c k = passed c ∙ new_three c k

      -- "observed count as f64": the third is exactly how many of the marker's values are no NaN, up to 2^53 of them at f64
      pub third_is_observed : iids ≤ 2 ^ prec f
          → get_or (later_stats f order iids sids val false stats) (m * stats_per_marker + 2) nan ≡ whole f (observed (λ i. value order iids sids val i m) iids)
      third_is_observed e = passed 2 ∙ new_third_is_observed e

  -- of decoded calls the third is that number, or the old one if no call was observed
  pub third_of_calls : Calls (λ i. value order iids sids val i m) iids → iids ≤ 2 ^ prec f
      → get_or (new_stats f order iids sids val false stats) (m * stats_per_marker + 2) nan
      ≡ cond (eqb (observed (λ i. value order iids sids val i m) iids) 0) (get_or stats (m * stats_per_marker + 2) nan) (whole f (observed (λ i. value order iids sids val i m) iids))
  unfolding found found_for marker_stats kept_or_new lent_or_new
  third_of_calls calls e = by_test (no_value column iids) none some
    where
      by : Bool → Float
      by b = cond b (old 2) (whole f (observed column iids))

      given : (b : Bool) → no_value column iids ≡ b → eqb (observed column iids) 0 ≡ b
      given b t = none_observed column iids ∙ t

      none : no_value column iids ≡ true → get_or (new_stats f order iids sids val false stats) (m * stats_per_marker + 2) nan ≡ by (eqb (observed column iids) 0)
      none t = new_place (Err NoIndividuals) (ap (λ (b : Bool). by_tests b (is_nan (mean f a))) t) 2 (lit≤ tt) ∙ sym (ap by (given true t))

      some : no_value column iids ≡ false → get_or (new_stats f order iids sids val false stats) (m * stats_per_marker + 2) nan ≡ by (eqb (observed column iids) 0)
      some t =
          new_third_is_observed (found_with (stats_of f a) a.count, ap (λ (b : Bool). by_tests b (is_nan (mean f a))) t ∙ ap (by_tests false) (mean_of_calls f column iids calls t)) e
          ∙ sym (ap by (given false t))

-- ---- 2. "With lent statistics the third is neither read nor written."
right_checks : (p q r t : Bool) (new old : List Float) → (t ≡ true → new ≡ old)
    → if_done (check p 18 (check q 18 (check r 15 (check t 17 (done []))))) new old ≡ old
unfolding check if_done
right_checks false q r t new old e = refl
right_checks true false r t new old e = refl
right_checks true true false t new old e = refl
right_checks true true true false new old e = refl
right_checks true true true true new old e = e refl

module _ (f : Format) (order : Bool) (iids sids : ℕ) (val : List Float) where
  -- nothing of the buffer is written
  pub lent_unwritten : (stats : List Float) → later_stats f order iids sids val true stats ≡ stats
  unfolding later_stats buffer_checks check_count
  lent_unwritten stats =
      right_checks (leb iids count_limit) (leb sids count_limit) (eqb (iids * sids) (length val)) (eqb (stats_per_marker * sids) (length stats))
      (new_stats f order iids sids val true stats) stats
      (λ t. sym (lent_stats f order iids sids val true stats (eqb-true (stats_per_marker * sids) (length stats) t) refl))

  -- and the pairs alone are read: buffers of one length with the same pairs, whatever their thirds, give the same answer and the same values
  module _ (stats stats' : List Float) (l : length stats ≡ length stats') (pairs : (m : ℕ) → m < sids → stats_at stats m ≡ stats_at stats' m) where
    checks_alike : (later : Answer) → buffer_checks iids sids val stats later ≡ buffer_checks iids sids val stats' later
    unfolding buffer_checks
    checks_alike later =
        ap (λ (n : ℕ). check_count iids (check_count sids (check (eqb (iids * sids) (length val)) 15 (check (eqb (stats_per_marker * sids) n) 17 later)))) l

    markers_alike : lowest_refused f order iids sids val true stats ≡ lowest_refused f order iids sids val true stats'
    markers_alike = sym (lent_answer f order iids sids val true stats refl) ∙ lent_answer f order iids sids val true stats' refl

    values_alike : (apply : Bool) → new_values f order iids sids val true stats apply ≡ new_values f order iids sids val true stats' apply
    unfolding new_values may_change found found_for
    values_alike apply =
        ap (λ (a : Answer). cond (apply && cond order (is_done a) true) (matrix order iids sids (λ i m. applied f (Ok (lent (stats_at stats m))) (value order iids sids val i m))) val) markers_alike
        ∙ ap (λ (x : List Float). cond (apply && cond order (is_done (lowest_refused f order iids sids val true stats')) true) x val)
        (matrix_ext order iids sids (λ i m. applied f (Ok (lent (stats_at stats m))) (value order iids sids val i m))
        (λ i m. applied f (Ok (lent (stats_at stats' m))) (value order iids sids val i m)) (λ i m a b. ap (λ (s : Stats). applied f (Ok (lent s)) (value order iids sids val i m)) (pairs m b)))

    pub lent_third_unread : (apply : Bool) → (standardise_answer f order iids sids val true stats ≡ standardise_answer f order iids sids val true stats')
        × (later_values f order iids sids val true stats apply ≡ later_values f order iids sids val true stats' apply)
    unfolding standardise_answer later_values
    lent_third_unread apply = (
      checks_alike (lowest_refused f order iids sids val true stats) ∙ ap (buffer_checks iids sids val stats') markers_alike,
      ap (λ (a : Answer). if_done a (new_values f order iids sids val true stats apply) val) (checks_alike (done []))
          ∙ ap (λ (x : List Float). if_done (buffer_checks iids sids val stats' (done [])) x val) (values_alike apply),
    )
