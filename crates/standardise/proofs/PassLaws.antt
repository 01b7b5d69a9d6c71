-- Going through the markers one after the other.
use mathlib.Core.Path.{◌≡◌, refl, sym, ap, ◌∙◌}
use mathlib.Core.Bool.{Bool, true, false, ◌&&◌, cond}
use mathlib.Core.List.{List, []}
use Prim.Native.Nat.{ℕ, suc, ◌+◌, ◌*◌, ◌<◌, ◌≤◌}
use native.Mathlib.Numerals.{add-one}
use native.Mathlib.Nat.{add-zero, mul_comm, mul-le-mul_right, suc-mul}
use native.Mathlib.Omega.{arith}
use lib.ListN.{length, get_or}
use lib.Ieee.{Float, nan, Format}
use Rattle.answer.specs.Answer.{Answer, done, if_done}
use Rattle.answer.specs.Matrix.{matrix_place, matrix}
use Rattle.statistics.specs.declared.Stats.{Stats}
use Rattle.std.specs.Prelude.{Result, Ok, Err}
use Rattle.std.specs.Result.{result_and}
use Rattle.standardise.specs.Says.{standardise_says}
use Rattle.standardise.specs.declared.answers.StandardiseError.{StandardiseError}
use Rattle.standardise.specs.declared.answers.StandardiseError.TheVariants.{CountTooLarge, IndexMismatch, StatsMismatch, NoIndividuals, IllegalSnpMean}
use Rattle.statistics.specs.declared.MarkerStats.{MarkerStats}
use Rattle.statistics.specs.declared.MarkerError.{MarkerError}
use Rattle.statistics.specs.Statistics.{stats_per_marker, stats_at, found_for}
use Rattle.standardise.specs.Standardised.{marker_answer, markers_answer, kept_or_new, applied, value, found, lowest_refused, new_stats, may_change, new_values}
use Rattle.standardise.specs.Private.{later_value, written, from, changed, stored_stats, StatsIn}
use Rattle.answer.proofs.MatrixLaws.{length_matrix}
use Rattle.standardise.proofs.CellLaws.{own_cells, up_to, column_more, column_old, none_new, all_new}
use Rattle.statistics.proofs.CountLaws.{found_for_ext}

-- ---- the answer
says_and : (a b : Result (Unit {0}) StandardiseError) → standardise_says (result_and a b) ≡ if_done (standardise_says a) (standardise_says b) (standardise_says a)
unfolding if_done
says_and (Ok u) b = refl
says_and (Err CountTooLarge) b = refl
says_and (Err IndexMismatch) b = refl
says_and (Err StatsMismatch) b = refl
says_and (Err (NoIndividuals m)) b = refl
says_and (Err (IllegalSnpMean m)) b = refl

-- the first of two refusals, if any
pub refusal_of : (a b r : Result (Unit {0}) StandardiseError) (y : Answer) → r ≡ result_and a b → standardise_says b ≡ y
    → standardise_says r ≡ if_done (standardise_says a) y (standardise_says a)
refusal_of a b r y e g =
    ap standardise_says e ∙ says_and a b ∙ ap (λ (z : Answer). if_done (standardise_says a) z (standardise_says a)) g

module _ (found : ℕ → Result MarkerStats MarkerError) where
  pub answer_more : (m : ℕ) (a b : Answer) (r : Result MarkerStats MarkerError) → a ≡ markers_answer found m → r ≡ found m → b ≡ if_done a (marker_answer m r) a
      → b ≡ markers_answer found (m + 1)
  unfolding markers_answer
  answer_more m a b r e g h =
      h
      ∙ ap (λ (x : Answer). if_done x (marker_answer m r) x) e
      ∙ ap (λ (x : Result MarkerStats MarkerError). if_done (markers_answer found m) (marker_answer m x) (markers_answer found m)) g
      ∙ ap (markers_answer found) (sym (add-one m))

  pub answer_all : (m n : ℕ) (a : Answer) → a ≡ markers_answer found m → m ≤ n → n ≤ m → a ≡ markers_answer found n
  answer_all m n a e h k = let z : m ≡ n = omega arith in e ∙ ap (markers_answer found) z

-- ---- the statistics
abbrev pair_of : Float → Float → Stats
pair_of x y = record { mean = x; deviation = y }

-- number c of marker m, before and after
abbrev pub old_stat : List Float → ℕ → ℕ → Float
old_stat stats c m = get_or stats (m * stats_per_marker + c) nan

abbrev pub new_stat : (ℕ → Result MarkerStats MarkerError) → List Float → ℕ → ℕ → Float
new_stat found stats c m = kept_or_new (found m) c (old_stat stats c m)

module _ (sids : ℕ) (found : ℕ → Result MarkerStats MarkerError) (stats : List Float) where
  -- the markers below m are passed
  pub record StatsPassed (m : ℕ) (answer : Answer) (now : List Float) : Type 0 where
    pub within : m ≤ sids
    pub answered : answer ≡ markers_answer found m
    pub stored : now ≡ matrix false stats_per_marker sids (up_to m (new_stat found stats) (old_stat stats))

  module _ {m : ℕ} {answer : Answer} {now : List Float} (p : StatsPassed m answer now) where
    pub stats_length : length now ≡ stats_per_marker * sids
    stats_length = ap length p.stored ∙ length_matrix false stats_per_marker sids _

    pub marker_inside : m < sids → StatsIn now m
    marker_inside h = let l : length now ≡ 3 * sids = stats_length in omega arith

    module _ (h : m < sids) where
      stat_old : (c : ℕ) → c < stats_per_marker → old_stat now c m ≡ old_stat stats c m
      stat_old c k =
          ap (λ (x : List Float). get_or x (m * stats_per_marker + c) nan) p.stored
          ∙ column_old stats_per_marker sids (new_stat found stats) (old_stat stats) m c h k

      pub stats_at_old : stats_at now m ≡ stats_at stats m
      unfolding stats_at
      stats_at_old =
          let z : get_or now (m * stats_per_marker) nan ≡ get_or stats (m * stats_per_marker) nan = (
          ap (λ (x : ℕ). get_or now x nan) (sym (add-zero (m * stats_per_marker)))
          ∙ stat_old 0 (omega arith)
          ∙ ap (λ (x : ℕ). get_or stats x nan) (add-zero (m * stats_per_marker))
          ) in
          ap (λ (x : Float). pair_of x (get_or now (m * stats_per_marker + 1) nan)) z ∙ ap (pair_of (get_or stats (m * stats_per_marker) nan)) (stat_old 1 (omega arith))

      pub stats_passed_more : (answer' : Answer) (later : List Float) (r : Result MarkerStats MarkerError) → r ≡ found m → answer' ≡ if_done answer (marker_answer m r) answer
          → later ≡ stored_stats r m now
          → StatsPassed (m + 1) answer' later
      stats_passed_more answer' later r g a w = record {
        within = omega arith;
        answered = answer_more found m answer answer' r p.answered g a;
        stored =
            w
            ∙ ap (λ (x : List Float). written x (λ c. m * stats_per_marker + c) (λ c. kept_or_new r c (old_stat now c m)) stats_per_marker) p.stored
            ∙ column_more stats_per_marker sids (new_stat found stats) (old_stat stats) m h (λ c. kept_or_new r c (old_stat now c m))
            (λ c k. ap (λ (x : Result MarkerStats MarkerError). kept_or_new x c (old_stat now c m)) g ∙ ap (kept_or_new (found m) c) (stat_old c k));
      }

  module _ (l : stats_per_marker * sids ≡ length stats) where
    stats_own : stats ≡ matrix false stats_per_marker sids (old_stat stats)
    unfolding matrix_place
    stats_own = own_cells false stats_per_marker sids stats (sym l)

    pub stats_passed_none : StatsPassed 0 (done []) stats
    unfolding markers_answer
    stats_passed_none = record {
      within = omega arith;
      answered = refl;
      stored = stats_own ∙ none_new false stats_per_marker sids (new_stat found stats) (old_stat stats);
    }

    pub stats_passed_all : {m : ℕ} {answer : Answer} {now : List Float} → StatsPassed m answer now → sids ≤ m
        → (answer ≡ markers_answer found sids) × (now ≡ matrix false stats_per_marker sids (new_stat found stats))
    stats_passed_all {m} {answer} {now} p h =
        (answer_all found m sids answer p.answered p.within h, p.stored ∙ all_new false stats_per_marker sids (new_stat found stats) (old_stat stats) m h)

-- ---- the values, in marker order
module _ (f : Format) (iids sids : ℕ) (apply : Bool) (found : ℕ → Result MarkerStats MarkerError) (val : List Float) where
  abbrev old_cell : ℕ → ℕ → Float
  old_cell i m = get_or val (m * iids + i) nan

  abbrev new_cell : ℕ → ℕ → Float
  new_cell i m = later_value f apply (found m) (old_cell i m)

  abbrev pub ValuesPassed : ℕ → List Float → Type 0
  ValuesPassed m now = now ≡ matrix false iids sids (up_to m new_cell old_cell)

  module _ (m : ℕ) (h : m < sids) (now : List Float) (e : ValuesPassed m now) where
    pub value_old : (i : ℕ) → i < iids → from now (m * iids) i ≡ old_cell i m
    value_old i k = ap (λ (x : List Float). get_or x (m * iids + i) nan) e ∙ column_old iids sids new_cell old_cell m i h k

    pub values_more : (later : List Float) (r : Result MarkerStats MarkerError) → r ≡ found m → later ≡ changed now (m * iids) iids (later_value f apply r) → ValuesPassed (m + 1) later
    values_more later r g w =
        w
        ∙ ap (λ (x : List Float). written x (λ i. m * iids + i) (λ i. later_value f apply r (from now (m * iids) i)) iids) e
        ∙ column_more iids sids new_cell old_cell m h (λ i. later_value f apply r (from now (m * iids) i))
        (λ i k. ap (λ (x : Result MarkerStats MarkerError). later_value f apply x (from now (m * iids) i)) g ∙ ap (later_value f apply (found m)) (value_old i k))

  module _ (l : iids * sids ≡ length val) where
    values_own : val ≡ matrix false iids sids old_cell
    unfolding matrix_place
    values_own = own_cells false iids sids val (sym l)

    pub values_none : ValuesPassed 0 val
    values_none = values_own ∙ none_new false iids sids new_cell old_cell

    pub values_all : (m : ℕ) (now : List Float) → ValuesPassed m now → sids ≤ m → now ≡ cond (apply && true) (matrix false iids sids (λ i k. applied f (found k) (old_cell i k))) val
    unfolding later_value
    values_all m now e h = e ∙ all_new false iids sids new_cell old_cell m h ∙ choice apply
      where
        choice : (b : Bool) → matrix false iids sids (λ i k. later_value f b (found k) (old_cell i k)) ≡ cond (b && true) (matrix false iids sids (λ i k. applied f (found k) (old_cell i k))) val
        choice true = refl
        choice false = sym values_own

-- ---- all of it, in marker order
module _ (f : Format) (iids sids : ℕ) (val : List Float) (use_stats : Bool) (stats : List Float) (apply : Bool) where
  abbrev here : ℕ → Result MarkerStats MarkerError
  here = found f false iids sids val use_stats stats

  pub record Passed (m : ℕ) (answer : Answer) (values statistics : List Float) : Type 0 where
    pub counted : StatsPassed sids here stats m answer statistics
    pub valued : ValuesPassed f iids sids apply here val m values

  module _ {m : ℕ} {answer : Answer} {values statistics : List Float} (p : Passed m answer values statistics) where
    pub values_length : length values ≡ iids * sids
    values_length = ap length p.valued ∙ length_matrix false iids sids _

    pub column_inside : m < sids → m * iids + iids ≤ length values
    column_inside h =
        let l : length values ≡ iids * sids = values_length in
        let c : iids * sids ≡ sids * iids = mul_comm iids sids in
        let d : suc m * iids ≤ sids * iids = mul-le-mul_right iids h in
        let e : suc m * iids ≡ m * iids + iids = suc-mul m iids in
        omega arith

  module _ (l : iids * sids ≡ length val) (k : stats_per_marker * sids ≡ length stats) where
    pub passed_none : Passed 0 (done []) val stats
    passed_none = record { counted = stats_passed_none sids here stats k; valued = values_none f iids sids apply here val l }

    pub passed_all : {m : ℕ} {answer : Answer} {values statistics : List Float} → Passed m answer values statistics → sids ≤ m
        → (answer ≡ lowest_refused f false iids sids val use_stats stats) × (values ≡ new_values f false iids sids val use_stats stats apply)
        × (statistics ≡ new_stats f false iids sids val use_stats stats)
    unfolding lowest_refused new_values new_stats may_change value matrix_place
    passed_all {m} {answer} {values} {statistics} p h =
        let q = stats_passed_all sids here stats k p.counted h in
        (q.0, values_all f iids sids apply here val l m values p.valued h, q.1)

  module _ {m : ℕ} (h : m < sids) {answer : Answer} {values statistics : List Float} (p : Passed m answer values statistics) (r : Result MarkerStats MarkerError)
      (e : r ≡ found_for f use_stats (stats_at statistics m) iids (from values (m * iids))) where
    is_found : r ≡ here m
    unfolding found value matrix_place
    is_found =
        e
        ∙ ap (λ (s : Stats). found_for f use_stats s iids (from values (m * iids))) (stats_at_old sids here stats p.counted h)
        ∙ found_for_ext f (from values (m * iids)) (λ i. get_or val (m * iids + i) nan) use_stats (stats_at stats m) iids (λ i b. value_old f iids sids apply here val m h values p.valued i b)

    pub passed_more : (answer' : Answer) (values' statistics' : List Float) → answer' ≡ if_done answer (marker_answer m r) answer
        → values' ≡ changed values (m * iids) iids (later_value f apply r)
        → statistics' ≡ stored_stats r m statistics
        → Passed (m + 1) answer' values' statistics'
    passed_more answer' values' statistics' a v s = record {
      counted = stats_passed_more sids here stats p.counted h answer' statistics' r is_found a s;
      valued = values_more f iids sids apply here val m h values p.valued values' r is_found v;
    }
