-- The theorems' hypotheses can be met: two animals, whose calls at one marker are 0 and 2; three animals at three markers, of which two are refused.
use mathlib.Core.Path.{◌≡◌, refl, ap}
use mathlib.Core.Bool.{Bool, true, false}
use mathlib.Core.List.{List, [], ◌∷◌}
use mathlib.Core.Logic.{◌⊎◌, inl, inr}
use Prim.Native.Nat.{ℕ, zero, suc, ◌+◌, ◌-◌, ◌<◌}
use native.Mathlib.Nat.{le_of_suc-le-suc, not-suc-le-zero}
use native.Mathlib.Omega.{arith}
use lib.Dec.{lit≤}
use lib.IntN.{pos}
use lib.ListN.{get_or}
use lib.Ieee.{Float, nan, inf, binary64, of_int, add, mul, div, is_nan}
use Rattle.std.specs.Prelude.{Result, Err}
use Rattle.statistics.specs.declared.MarkerStats.{MarkerStats}
use Rattle.statistics.specs.declared.MarkerError.{MarkerError}
use Rattle.statistics.specs.declared.MarkerError.TheVariants.{NoIndividuals, IllegalSnpMean}
use Rattle.statistics.specs.Statistics.{plus_zero, one, counted, accumulated, mean, stats_of, no_value, marker_stats, found_for, in_places, stats_at}
use Rattle.answer.specs.Answer.{Answer, done, refused, is_done, GivesNo, if_done}
use Rattle.answer.specs.Matrix.{matrix_place}
use Rattle.statistics.specs.Calls.{two, IsCall, is_zero, is_two, whole, present, total, SumsAgree}
use Rattle.standardise.specs.Standardised.{marker_answer, markers_answer, buffer_checks, value, found, lowest_refused, standardise_answer, later_stats, later_values}
use Rattle.standardise.proofs.Theorems.{orders_same_answer, orders_same_stats, orders_same_values, rows_unchanged, one_marker_same_cells, one_marker_same_answer, one_marker_same_stats, one_marker_same_values, reordered_same_answer, reordered_same_stats, reordered_moved_values}
use Rattle.standardise.specs.Refused.{NotRefused, IsLowestRefused}
use Rattle.standardise.proofs.Observed.{three_places, third_is_observed, lent_unwritten, lent_third_unread}
use Rattle.standardise.proofs.Refused.{lowest_refused_law, is_lowest_refused, none_is_refused, done_none_refused, number_told, is_13, is_14, lent_not_refused, calls_never_14, refused_keeps_values, refused_keeps_stats}

abbrev pub herd : List Float
herd = plus_zero ∷ two ∷ []

abbrev pub swapped : List Float
swapped = two ∷ plus_zero ∷ []

abbrev pub stats : List Float
stats = nan ∷ nan ∷ nan ∷ []

abbrev pub other : ℕ → ℕ
other k = 1 - k

others : SumsAgree other 2
unfolding total
others h = omega arith

-- a fact of both animals at the marker
both : (P : ℕ → ℕ → Type 0) → P 0 0 → P 1 0 → (i m : ℕ) → i < 2 → m < 1 → P i m
both P a b zero zero h k = a
both P a b (suc zero) zero h k = b
both P a b (suc (suc i)) zero h k = absurd (not-suc-le-zero (le_of_suc-le-suc (le_of_suc-le-suc h)))
both P a b zero (suc m) h k = absurd (not-suc-le-zero (le_of_suc-le-suc k))
both P a b (suc i) (suc m) h k = absurd (not-suc-le-zero (le_of_suc-le-suc k))

cells : (i m : ℕ) → i < 2 → m < 1 → value true 2 1 herd i m ≡ value false 2 1 herd i m
unfolding value
cells = both (λ i m. value true 2 1 herd i m ≡ value false 2 1 herd i m) refl refl

moved : (k m : ℕ) → k < 2 → m < 1 → value true 2 1 swapped k m ≡ value true 2 1 herd (other k) m
unfolding value
moved = both (λ k m. value true 2 1 swapped k m ≡ value true 2 1 herd (other k) m) refl refl

calls : (i m : ℕ) → i < 2 → m < 1 → IsCall (value true 2 1 herd i m)
unfolding value
calls = both (λ i m. IsCall (value true 2 1 herd i m)) is_zero is_two

-- one marker, in either order
pub one_marker_values : later_values binary64 true 2 1 herd false stats true ≡ later_values binary64 false 2 1 herd false stats true
one_marker_values = one_marker_same_values binary64 2 1 herd false stats (lit≤ tt) true

pub one_marker_cell : value true 2 1 (later_values binary64 true 2 1 herd false stats true) 1 0 ≡ value false 2 1 (later_values binary64 false 2 1 herd false stats true) 1 0
one_marker_cell = one_marker_same_cells binary64 2 1 herd herd false stats refl cells (lit≤ tt) true 1 0 (lit≤ tt) (lit≤ tt)

pub one_marker_answer : standardise_answer binary64 true 2 1 herd false stats ≡ standardise_answer binary64 false 2 1 herd false stats
one_marker_answer = one_marker_same_answer binary64 2 1 herd false stats (lit≤ tt)

pub one_marker_stats : later_stats binary64 true 2 1 herd false stats ≡ later_stats binary64 false 2 1 herd false stats
one_marker_stats = one_marker_same_stats binary64 2 1 herd false stats (lit≤ tt)

pub orders_answer : standardise_answer binary64 true 2 1 herd false stats ≡ standardise_answer binary64 false 2 1 herd false stats
orders_answer = orders_same_answer binary64 2 1 herd herd false stats refl cells

pub orders_stats : later_stats binary64 true 2 1 herd false stats ≡ later_stats binary64 false 2 1 herd false stats
orders_stats = orders_same_stats binary64 2 1 herd herd false stats refl cells

herd_done : is_done (standardise_answer binary64 true 2 1 herd false stats) ≡ true
unfolding standardise_answer lowest_refused markers_answer marker_answer if_done found found_for marker_stats no_value accumulated counted mean value matrix_place is_nan add mul div
herd_done = refl

pub orders_value : value true 2 1 (later_values binary64 true 2 1 herd false stats true) 1 0 ≡ value false 2 1 (later_values binary64 false 2 1 herd false stats true) 1 0
orders_value = orders_same_values binary64 2 1 herd herd false stats refl cells herd_done true 1 0 (lit≤ tt) (lit≤ tt)

pub swapped_answer : standardise_answer binary64 true 2 1 swapped false stats ≡ standardise_answer binary64 true 2 1 herd false stats
swapped_answer = reordered_same_answer binary64 true 2 1 herd swapped false stats other others refl moved (inr (lit≤ tt, calls))

pub swapped_stats : later_stats binary64 true 2 1 swapped false stats ≡ later_stats binary64 true 2 1 herd false stats
swapped_stats = reordered_same_stats binary64 true 2 1 herd swapped false stats other others refl moved (inr (lit≤ tt, calls))

pub swapped_values : value true 2 1 (later_values binary64 true 2 1 swapped false stats true) 0 0 ≡ value true 2 1 (later_values binary64 true 2 1 herd false stats true) 1 0
swapped_values = reordered_moved_values binary64 true 2 1 herd swapped false stats other others refl moved (inr (lit≤ tt, calls)) true 0 0 (omega arith) (omega arith)

-- ---- three markers, of which the last two are refused: 1, 1, NaN; no value; +infinity, −infinity, NaN, whose mean is NaN
abbrev pub mixed : Bool → List Float
mixed true = one ∷ nan ∷ inf false ∷ one ∷ nan ∷ inf true ∷ nan ∷ nan ∷ nan ∷ []
mixed false = one ∷ one ∷ nan ∷ nan ∷ nan ∷ nan ∷ inf false ∷ inf true ∷ nan ∷ []

abbrev pub nine : List Float
nine = one ∷ two ∷ one ∷ nan ∷ plus_zero ∷ two ∷ plus_zero ∷ nan ∷ one ∷ []

mixed_found : (order : Bool) → NotRefused (found binary64 order 3 3 (mixed order) false nine 0)
unfolding found found_for marker_stats no_value accumulated counted mean value matrix_place is_nan add mul div
mixed_found true = (_, refl)
mixed_found false = (_, refl)

mixed_13 : (order : Bool) → found binary64 order 3 3 (mixed order) false nine 1 ≡ Err NoIndividuals
unfolding found found_for marker_stats no_value value matrix_place is_nan
mixed_13 true = refl
mixed_13 false = refl

mixed_14 : (order : Bool) → found binary64 order 3 3 (mixed order) false nine 2 ≡ Err IllegalSnpMean
unfolding found found_for marker_stats no_value accumulated counted mean value matrix_place is_nan add mul div
mixed_14 true = refl
mixed_14 false = refl

-- the first marker by itself is not refused
abbrev pub first_column : List Float
first_column = one ∷ one ∷ nan ∷ []

first_found : (m : ℕ) → m < 1 → NotRefused (found binary64 true 3 1 first_column false nine m)
unfolding found found_for marker_stats no_value accumulated counted mean value matrix_place is_nan add mul div
first_found zero h = (_, refl)
first_found (suc m) h = absurd (omega arith)

pub first_answer : lowest_refused binary64 true 3 1 first_column false nine ≡ done []
first_answer = none_is_refused binary64 true 3 1 first_column false nine first_found

pub first_is_found : NotRefused (found binary64 true 3 1 first_column false nine 0)
first_is_found = done_none_refused binary64 true 3 1 first_column false nine (ap is_done first_answer) 0 (lit≤ tt)

-- marker 1 is the lowest of the two that are refused
pub mixed_answer : (order : Bool) → lowest_refused binary64 order 3 3 (mixed order) false nine ≡ refused 13 (pos 1 ∷ [])
unfolding marker_answer
mixed_answer order =
    is_lowest_refused binary64 order 3 3 (mixed order) false nine 13 1 (record {
      in_matrix = lit≤ tt;
      is_refused = at_13 (mixed_13 order);
      lower_not_refused = only_0 (mixed_found order);
    })
  where
    only_0 : NotRefused (found binary64 order 3 3 (mixed order) false nine 0) → (j : ℕ) → j < 1 → NotRefused (found binary64 order 3 3 (mixed order) false nine j)
    only_0 a zero h = a
    only_0 a (suc j) h = absurd (omega arith)

    at_13 : found binary64 order 3 3 (mixed order) false nine 1 ≡ Err NoIndividuals → marker_answer 1 (found binary64 order 3 3 (mixed order) false nine 1) ≡ refused 13 (pos 1 ∷ [])
    at_13 e = ap (marker_answer 1) e

pub mixed_lowest : (order : Bool) → (m : ℕ) × (pos 1 ∷ [] ≡ pos m ∷ []) × IsLowestRefused (found binary64 order 3 3 (mixed order) false nine) 3 13 m
mixed_lowest order = lowest_refused_law binary64 order 3 3 (mixed order) false nine 13 (pos 1 ∷ []) (mixed_answer order)

-- marker 1 has no value, and so is refused by 13
pub mixed_no_value : (order : Bool) (i : ℕ) → i < 3 → is_nan (value order 3 3 (mixed order) i 1) ≡ true
mixed_no_value order = (is_13 binary64 order 3 3 (mixed order) nine 1).0 (mixed_13 order)

pub mixed_13_again : (order : Bool) → found binary64 order 3 3 (mixed order) false nine 1 ≡ Err NoIndividuals
mixed_13_again order = (is_13 binary64 order 3 3 (mixed order) nine 1).1 (mixed_no_value order)

-- marker 2 has a value and a NaN mean, and so is refused by 14
mixed_value_0 : (order : Bool) → is_nan (value order 3 3 (mixed order) 0 2) ≡ false
unfolding value matrix_place is_nan
mixed_value_0 true = refl
mixed_value_0 false = refl

pub mixed_14_again : (order : Bool) → found binary64 order 3 3 (mixed order) false nine 2 ≡ Err IllegalSnpMean
mixed_14_again order =
    let t = is_14 binary64 order 3 3 (mixed order) nine 2 in
    t.1 0 (lit≤ tt) (mixed_value_0 order) (t.0 (mixed_14 order)).1

-- by itself it is the lowest
abbrev pub infinite : List Float
infinite = inf false ∷ inf true ∷ nan ∷ []

pub infinite_answer : (order : Bool) → lowest_refused binary64 order 3 1 infinite false nine ≡ refused 14 (pos 0 ∷ [])
unfolding lowest_refused markers_answer marker_answer if_done found found_for marker_stats no_value accumulated counted mean value matrix_place is_nan add mul div
infinite_answer true = refl
infinite_answer false = refl

-- "A lent matrix may hold infinities and keeps 14": a call's answer, in either order
pub infinities_14 : (order : Bool) → standardise_answer binary64 order 2 1 (inf false ∷ inf true ∷ []) false stats ≡ refused 14 (pos 0 ∷ [])
unfolding standardise_answer buffer_checks lowest_refused markers_answer marker_answer if_done found found_for marker_stats no_value accumulated counted mean value matrix_place is_nan add mul div
infinities_14 true = refl
infinities_14 false = refl

-- a matrix of calls does not: 0 and 2
pub herd_never_14 : GivesNo 14 (standardise_answer binary64 true 2 1 herd false stats)
herd_never_14 = calls_never_14 binary64 true 2 1 herd stats calls false

only_answer : (order : Bool) → marker_answer 0 (found binary64 order 3 1 infinite false nine 0) ≡ refused 14 (pos 0 ∷ [])
unfolding marker_answer found found_for marker_stats no_value accumulated counted mean value matrix_place is_nan add mul div
only_answer true = refl
only_answer false = refl

pub infinite_is_14 : (order : Bool) → found binary64 order 3 1 infinite false nine 0 ≡ Err IllegalSnpMean
infinite_is_14 order = by_number (number_told 0 (found binary64 order 3 1 infinite false nine 0) 14 (pos 0 ∷ []) (only_answer order))
  where
    by_number : {x : Result MarkerStats MarkerError} → ((◌≡◌ {A = ℕ} 14 13) × (x ≡ Err NoIndividuals)) ⊎ ((◌≡◌ {A = ℕ} 14 14) × (x ≡ Err IllegalSnpMean)) → x ≡ Err IllegalSnpMean
    by_number (inl (n, e)) = absurd (omega arith)
    by_number (inr (n, e)) = e

-- in animal order no value changes
mixed_not_done : is_done (standardise_answer binary64 true 3 3 (mixed true) false nine) ≡ false
unfolding standardise_answer
mixed_not_done = ap (λ (a : Answer). is_done (buffer_checks 3 3 (mixed true) nine a)) (mixed_answer true)

pub mixed_rows : later_values binary64 true 3 3 (mixed true) false nine true ≡ mixed true
mixed_rows = rows_unchanged binary64 3 3 (mixed true) false nine true mixed_not_done

-- with lent statistics neither is refused
pub mixed_lent : (order : Bool) → lowest_refused binary64 order 3 3 (mixed order) true nine ≡ done []
mixed_lent order = lent_not_refused binary64 order 3 3 (mixed order) nine

-- the NaN of the marker that 14 refuses stays, and so do its three statistics
pub mixed_value : (order apply : Bool) → value order 3 3 (later_values binary64 order 3 3 (mixed order) false nine apply) 2 2 ≡ nan
unfolding value matrix_place
mixed_value true apply = refused_keeps_values binary64 true 3 3 (mixed true) false nine 2 (lit≤ tt) (inr (mixed_14 true)) apply 2 (lit≤ tt)
mixed_value false apply = refused_keeps_values binary64 false 3 3 (mixed false) false nine 2 (lit≤ tt) (inr (mixed_14 false)) apply 2 (lit≤ tt)

pub mixed_14_keeps : (order : Bool) (c : ℕ) → c < 3 → get_or (later_stats binary64 order 3 3 (mixed order) false nine) (6 + c) nan ≡ get_or nine (6 + c) nan
mixed_14_keeps order = refused_keeps_stats binary64 order 3 3 (mixed order) false nine 2 (lit≤ tt) (inr (mixed_14 order))

-- and the statistics of the one that 13 refuses
pub mixed_13_keeps : (order : Bool) (c : ℕ) → c < 3 → get_or (later_stats binary64 order 3 3 (mixed order) false nine) (3 + c) nan ≡ get_or nine (3 + c) nan
mixed_13_keeps order = refused_keeps_stats binary64 order 3 3 (mixed order) false nine 1 (lit≤ tt) (inl (mixed_13 order))

-- ---- how many were observed
mixed_right : (order : Bool) → is_done (buffer_checks 3 3 (mixed order) nine (done [])) ≡ true
unfolding buffer_checks
mixed_right true = refl
mixed_right false = refl

-- of 1, 1, NaN two values were observed, also where other markers are refused
pub mixed_third : (order : Bool) → get_or (later_stats binary64 order 3 3 (mixed order) false nine) 2 nan ≡ two
unfolding whole of_int total present value matrix_place is_nan
mixed_third true = third_is_observed binary64 true 3 3 (mixed true) nine 0 (lit≤ tt) (mixed_found true) (mixed_right true) (lit≤ tt)
mixed_third false = third_is_observed binary64 false 3 3 (mixed false) nine 0 (lit≤ tt) (mixed_found false) (mixed_right false) (lit≤ tt)

pub mixed_first : (order : Bool) → get_or (later_stats binary64 order 3 3 (mixed order) false nine) 0 nan ≡ one
unfolding in_places stats_of accumulated counted mean value matrix_place is_nan add mul div
mixed_first true = three_places binary64 true 3 3 (mixed true) nine 0 (lit≤ tt) (mixed_found true) (mixed_right true) 0 (lit≤ tt)
mixed_first false = three_places binary64 false 3 3 (mixed false) nine 0 (lit≤ tt) (mixed_found false) (mixed_right false) 0 (lit≤ tt)

-- lent statistics stay, and a NaN or any other third is not read
pub nine_unwritten : (order : Bool) → later_stats binary64 order 3 3 (mixed order) true nine ≡ nine
nine_unwritten order = lent_unwritten binary64 order 3 3 (mixed order) nine

abbrev pub other_thirds : List Float
other_thirds = one ∷ two ∷ nan ∷ nan ∷ plus_zero ∷ inf true ∷ plus_zero ∷ nan ∷ two ∷ []

pub thirds_unread : (order apply : Bool) → later_values binary64 order 3 3 (mixed order) true nine apply ≡ later_values binary64 order 3 3 (mixed order) true other_thirds apply
unfolding stats_at
thirds_unread order apply = (lent_third_unread binary64 order 3 3 (mixed order) nine other_thirds refl same apply).1
  where
    same : (m : ℕ) → m < 3 → stats_at nine m ≡ stats_at other_thirds m
    same zero h = refl
    same (suc zero) h = refl
    same (suc (suc zero)) h = refl
    same (suc (suc (suc m))) h = absurd (omega arith)
