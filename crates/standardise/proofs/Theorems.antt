-- The two standardisers agree, and animals reordered have the same statistics, the same answer and their own values.
use mathlib.Core.Path.{◌≡◌, refl, sym, ap, ◌∙◌}
use mathlib.Core.Bool.{Bool, true, false, ◌&&◌, cond, true≢false}
use mathlib.Core.List.{List, [], ◌∷◌}
use mathlib.Core.Logic.{◌⊎◌, inl, inr}
use Prim.Native.Nat.{ℕ, zero, suc, ◌+◌, ◌*◌, ◌<◌, ◌≤◌}
use native.Mathlib.Omega.{arith}
use borrow.Author.Tests.{eqb-true}
use lib.Dec.{leb, eqb}
use lib.IntN.{pos}
use lib.ListN.{length, get_or}
use lib.Seq.{ext_get_or}
use lib.Ieee.{Float, nan, Format}
use Rattle.answer.specs.Answer.{Answer, done, refused, check, check_count, count_limit, is_done, if_done}
use Rattle.codes.specs.Value.{float, values, value_of}
use Rattle.answer.specs.Matrix.{matrix_place, matrix}
use Rattle.answer.proofs.AnswerLaws.{check_done, count_done, old_if_not}
use Rattle.answer.proofs.MatrixLaws.{length_matrix, get_d_matrix, matrix_ext}
use Rattle.answer.proofs.Tests.{by_test}
use Rattle.std.specs.Prelude.{Result, Ok, Err}
use Rattle.statistics.specs.declared.MarkerStats.{MarkerStats}
use Rattle.statistics.specs.declared.MarkerError.{MarkerError}
use Rattle.statistics.specs.declared.MarkerError.TheVariants.{NoIndividuals, IllegalSnpMean}
use Rattle.statistics.specs.Statistics.{stats_per_marker, stats_at, found_for, marker_stats}
use Rattle.statistics.specs.Calls.{IsCall, is_zero, is_one, is_two, is_missing, FewEnough, SumsAgree}
use Rattle.statistics.proofs.CountLaws.{found_for_ext}
use Rattle.statistics.proofs.Exact.{reordered_stats, names_below, names_same}
use Rattle.standardise.specs.Standardised.{marker_answer, markers_answer, buffer_checks, kept_or_new, applied, value, found, lowest_refused, standardise_answer, new_stats, may_change, new_values, later_stats, later_values}
use Rattle.standardise.specs.Private.{later_value}

-- ---- what rests on what is found for the markers
markers_answer_ext : (g h : ℕ → Result MarkerStats MarkerError) (n : ℕ) → ((m : ℕ) → m < n → g m ≡ h m) → markers_answer g n ≡ markers_answer h n
unfolding markers_answer
markers_answer_ext g h zero e = refl
markers_answer_ext g h (suc n) e =
    ap (λ (a : Answer). if_done a (marker_answer n (g n)) a) (markers_answer_ext g h n (λ m l. e m (omega arith)))
    ∙ ap (λ (x : Result MarkerStats MarkerError). if_done (markers_answer h n) (marker_answer n x) (markers_answer h n)) (e n (omega arith))

checks_same : (iids sids : ℕ) (val val' stats : List Float) (later : Answer) → length val ≡ length val' → buffer_checks iids sids val stats later ≡ buffer_checks iids sids val' stats later
unfolding buffer_checks
checks_same iids sids val val' stats later l =
    ap (λ (n : ℕ). check_count iids (check_count sids (check (eqb (iids * sids) n) 15 (check (eqb (stats_per_marker * sids) (length stats)) 17 later)))) l

module _ (f : Format) (iids sids : ℕ) (order order' : Bool) (val val' : List Float) (use_stats : Bool) (stats : List Float)
    (same : (m : ℕ) → m < sids → found f order iids sids val use_stats stats m ≡ found f order' iids sids val' use_stats stats m) where
  lowest_same : lowest_refused f order iids sids val use_stats stats ≡ lowest_refused f order' iids sids val' use_stats stats
  unfolding lowest_refused
  lowest_same = markers_answer_ext (found f order iids sids val use_stats stats) (found f order' iids sids val' use_stats stats) sids same

  new_stats_same : new_stats f order iids sids val use_stats stats ≡ new_stats f order' iids sids val' use_stats stats
  unfolding new_stats
  new_stats_same =
      matrix_ext false stats_per_marker sids (λ c m. kept_or_new (found f order iids sids val use_stats stats m) c (get_or stats (m * stats_per_marker + c) nan))
      (λ c m. kept_or_new (found f order' iids sids val' use_stats stats m) c (get_or stats (m * stats_per_marker + c) nan))
      (λ c m a b. ap (λ (x : Result MarkerStats MarkerError). kept_or_new x c (get_or stats (m * stats_per_marker + c) nan)) (same m b))

  module _ (l : length val ≡ length val') where
    answer_same : standardise_answer f order iids sids val use_stats stats ≡ standardise_answer f order' iids sids val' use_stats stats
    unfolding standardise_answer
    answer_same = checks_same iids sids val val' stats (lowest_refused f order iids sids val use_stats stats) l ∙ ap (buffer_checks iids sids val' stats) lowest_same

    stats_same : later_stats f order iids sids val use_stats stats ≡ later_stats f order' iids sids val' use_stats stats
    unfolding later_stats
    stats_same =
        ap (λ (a : Answer). if_done a (new_stats f order iids sids val use_stats stats) stats) (checks_same iids sids val val' stats (done []) l)
        ∙ ap (λ (x : List Float). if_done (buffer_checks iids sids val' stats (done [])) x stats) new_stats_same

-- whether a call changes values
abbrev pub changes : Format → Bool → ℕ → ℕ → List Float → Bool → List Float → Bool → Bool
changes f order iids sids val use_stats stats apply = is_done (buffer_checks iids sids val stats (done [])) && (apply && may_change f order iids sids val use_stats stats)

-- a value once the buffers are checked, and afterwards
module _ (f : Format) (order : Bool) (iids sids : ℕ) (val : List Float) (use_stats : Bool) (stats : List Float) (apply : Bool) (i m : ℕ) (hi : i < iids) (hm : m < sids) where
  new_value : value order iids sids (new_values f order iids sids val use_stats stats apply) i m
      ≡ later_value f (apply && may_change f order iids sids val use_stats stats) (found f order iids sids val use_stats stats m) (value order iids sids val i m)
  unfolding new_values value later_value
  new_value = go (apply && may_change f order iids sids val use_stats stats)
    where
      new : ℕ → ℕ → Float
      new i m = applied f (found f order iids sids val use_stats stats m) (get_or val (matrix_place order iids sids i m) nan)

      go : (t : Bool) → get_or (cond t (matrix order iids sids new) val) (matrix_place order iids sids i m) nan ≡ cond t (new i m) (get_or val (matrix_place order iids sids i m) nan)
      go true = get_d_matrix iids sids i m hi hm order new nan
      go false = refl

  pub later_value_law : value order iids sids (later_values f order iids sids val use_stats stats apply) i m
      ≡ later_value f (changes f order iids sids val use_stats stats apply) (found f order iids sids val use_stats stats m) (value order iids sids val i m)
  unfolding later_values later_value
  later_value_law = go (is_done (buffer_checks iids sids val stats (done [])))
    where
      go : (b : Bool) → value order iids sids (cond b (new_values f order iids sids val use_stats stats apply) val) i m
          ≡ later_value f (b && (apply && may_change f order iids sids val use_stats stats)) (found f order iids sids val use_stats stats m) (value order iids sids val i m)
      go true = new_value
      go false = refl

same_cell : (f : Format) {a b : Bool} {x y : Result MarkerStats MarkerError} {u v : Float} → a ≡ b → x ≡ y → u ≡ v → later_value f a x u ≡ later_value f b y v
same_cell f p q r = λ i. later_value f (p i) (q i) (r i)

-- ---- 1. the two orders
-- a check that passed
later_done : (b : Bool) (n : ℕ) (later : Answer) → is_done (check b n later) ≡ true → is_done later ≡ true
unfolding check
later_done true n later e = e
later_done false n later e = absurd (true≢false (sym e))

markers_done : (iids sids : ℕ) (val stats : List Float) (later : Answer) → is_done (buffer_checks iids sids val stats later) ≡ true → is_done later ≡ true
unfolding buffer_checks
markers_done iids sids val stats later e =
    later_done (eqb (stats_per_marker * sids) (length stats)) 17 later
    (later_done (eqb (iids * sids) (length val)) 15 (check (eqb (stats_per_marker * sids) (length stats)) 17 later)
    (later_done (leb sids count_limit) 18 (check (eqb (iids * sids) (length val)) 15 (check (eqb (stats_per_marker * sids) (length stats)) 17 later))
    (later_done (leb iids count_limit) 18 (check_count sids (check (eqb (iids * sids) (length val)) 15 (check (eqb (stats_per_marker * sids) (length stats)) 17 later))) e)))

-- whether values may change, by the order
may_rows : (f : Format) (iids sids : ℕ) (val : List Float) (use_stats : Bool) (stats : List Float) → is_done (lowest_refused f true iids sids val use_stats stats) ≡ true → may_change f true iids sids val use_stats stats ≡ true
unfolding may_change
may_rows f iids sids val use_stats stats e = e

may_columns : (f : Format) (iids sids : ℕ) (val : List Float) (use_stats : Bool) (stats : List Float) → may_change f false iids sids val use_stats stats ≡ true
unfolding may_change
may_columns f iids sids val use_stats stats = refl

-- one matrix in animal order and in marker order
module _ (f : Format) (iids sids : ℕ) (rows cols : List Float) (use_stats : Bool) (stats : List Float) (l : length rows ≡ length cols)
    (cells : (i m : ℕ) → i < iids → m < sids → value true iids sids rows i m ≡ value false iids sids cols i m) where
  orders_found : (m : ℕ) → m < sids → found f true iids sids rows use_stats stats m ≡ found f false iids sids cols use_stats stats m
  unfolding found
  orders_found m h = found_for_ext f (λ i. value true iids sids rows i m) (λ i. value false iids sids cols i m) use_stats (stats_at stats m) iids (λ i k. cells i m k h)

  pub orders_same_answer : standardise_answer f true iids sids rows use_stats stats ≡ standardise_answer f false iids sids cols use_stats stats
  orders_same_answer = answer_same f iids sids true false rows cols use_stats stats orders_found l

  pub orders_same_stats : later_stats f true iids sids rows use_stats stats ≡ later_stats f false iids sids cols use_stats stats
  orders_same_stats = stats_same f iids sids true false rows cols use_stats stats orders_found l

  pub orders_same_values : is_done (standardise_answer f true iids sids rows use_stats stats) ≡ true → (apply : Bool) (i m : ℕ) → i < iids → m < sids
      → value true iids sids (later_values f true iids sids rows use_stats stats apply) i m ≡ value false iids sids (later_values f false iids sids cols use_stats stats apply) i m
  unfolding standardise_answer
  orders_same_values e apply i m hi hm =
      let done_rows = markers_done iids sids rows stats (lowest_refused f true iids sids rows use_stats stats) e in
      later_value_law f true iids sids rows use_stats stats apply i m hi hm
      ∙ same_cell f
      (λ j. is_done (checks_same iids sids rows cols stats (done []) l j)
      && (apply && (may_rows f iids sids rows use_stats stats done_rows ∙ sym (may_columns f iids sids cols use_stats stats)) j))
      (orders_found m hm) (cells i m hi hm)
      ∙ sym (later_value_law f false iids sids cols use_stats stats apply i m hi hm)

-- at a refusal the animal-order one changes no value
refused_kept : (p q r t : Bool) (markers : Answer) (apply : Bool) (new old : List Float)
    → is_done (check p 18 (check q 18 (check r 15 (check t 17 markers)))) ≡ false
    → if_done (check p 18 (check q 18 (check r 15 (check t 17 (done []))))) (cond (apply && is_done markers) new old) old ≡ old
unfolding check if_done
refused_kept false q r t markers apply new old e = refl
refused_kept true false r t markers apply new old e = refl
refused_kept true true false t markers apply new old e = refl
refused_kept true true true false markers apply new old e = refl
refused_kept true true true true markers apply new old e = ap (λ (b : Bool). cond (apply && b) new old) e ∙ neither apply
  where
    neither : (b : Bool) → cond (b && false) new old ≡ old
    neither true = refl
    neither false = refl

pub rows_unchanged : (f : Format) (iids sids : ℕ) (val : List Float) (use_stats : Bool) (stats : List Float) (apply : Bool)
    → is_done (standardise_answer f true iids sids val use_stats stats) ≡ false → later_values f true iids sids val use_stats stats apply ≡ val
unfolding standardise_answer later_values new_values may_change buffer_checks check_count
rows_unchanged f iids sids val use_stats stats apply e =
    refused_kept (leb iids count_limit) (leb sids count_limit) (eqb (iids * sids) (length val)) (eqb (stats_per_marker * sids) (length stats))
    (lowest_refused f true iids sids val use_stats stats) apply (matrix true iids sids (λ i m. applied f (found f true iids sids val use_stats stats m) (value true iids sids val i m))) val e

-- ---- 2. at most one marker. "The Rust picks one by strides; picking by order gives the same answers.": such a matrix is one list in both orders, and the
-- two standardisers leave the same at a refusal too
pub either_same : (b : Bool) (v : Float) → cond b v v ≡ v
either_same true v = refl
either_same false v = refl

only_marker : (g : ℕ → Result MarkerStats MarkerError) (sids m : ℕ) → sids ≤ 1 → m < sids → is_done (markers_answer g sids) ≡ is_done (marker_answer m (g m))
unfolding markers_answer if_done
only_marker g zero m o h = absurd (omega arith)
only_marker g (suc zero) zero o h = refl
only_marker g (suc zero) (suc m) o h = absurd (omega arith)
only_marker g (suc (suc n)) m o h = absurd (omega arith)

-- a marker that is refused keeps its value, whether or not values may change
only_cell : (f : Format) (m : ℕ) (b apply : Bool) (x : Result MarkerStats MarkerError) (v : Float) → later_value f (b && (apply && is_done (marker_answer m x))) x v ≡ later_value f (b && (apply && true)) x v
unfolding later_value applied marker_answer
only_cell f m b apply (Ok x) v = refl
only_cell f m b apply (Err NoIndividuals) v = either_same (b && (apply && false)) v ∙ sym (either_same (b && (apply && true)) v)
only_cell f m b apply (Err IllegalSnpMean) v = either_same (b && (apply && false)) v ∙ sym (either_same (b && (apply && true)) v)

-- the same place in both orders
only_place : (iids sids i m : ℕ) → sids ≤ 1 → m < sids → matrix_place true iids sids i m ≡ matrix_place false iids sids i m
unfolding matrix_place
only_place iids zero i m o h = absurd (omega arith)
only_place iids (suc zero) i zero o h = omega arith
only_place iids (suc zero) i (suc m) o h = absurd (omega arith)
only_place iids (suc (suc n)) i m o h = absurd (omega arith)

-- every place is that of an animal at the only marker
place_of : (iids sids p : ℕ) → sids ≤ 1 → p < iids * sids → (p ≡ matrix_place true iids sids p 0) × (p ≡ matrix_place false iids sids p 0) × (p < iids) × (0 < sids)
unfolding matrix_place
place_of iids zero p o h = absurd (omega arith)
place_of iids (suc zero) p o h = (omega arith, omega arith, omega arith, omega arith)
place_of iids (suc (suc n)) p o h = absurd (omega arith)

-- the value buffer keeps its length
long_enough : (iids sids : ℕ) (val stats : List Float) → is_done (buffer_checks iids sids val stats (done [])) ≡ true → iids * sids ≡ length val
unfolding buffer_checks
long_enough iids sids val stats e = eqb-true (iids * sids) (length val) (check_done (eqb (iids * sids) (length val)) 15 _ (count_done sids _ (count_done iids _ e).1).1).0

module _ (f : Format) (order : Bool) (iids sids : ℕ) (val : List Float) (use_stats : Bool) (stats : List Float) (apply : Bool) where
  pub same_length : length (later_values f order iids sids val use_stats stats apply) ≡ length val
  unfolding later_values new_values if_done
  same_length = checked (is_done (buffer_checks iids sids val stats (done []))) refl
    where
      new : ℕ → ℕ → Float
      new i m = applied f (found f order iids sids val use_stats stats m) (value order iids sids val i m)

      chosen : (t : Bool) → iids * sids ≡ length val → length (cond t (matrix order iids sids new) val) ≡ length val
      chosen true l = length_matrix order iids sids new ∙ l
      chosen false l = refl

      checked : (b : Bool) → is_done (buffer_checks iids sids val stats (done [])) ≡ b
          → length (cond b (cond (apply && may_change f order iids sids val use_stats stats) (matrix order iids sids new) val) val) ≡ length val
      checked true e = chosen (apply && may_change f order iids sids val use_stats stats) (long_enough iids sids val stats e)
      checked false e = refl

-- one matrix of at most one marker in animal order and in marker order
module _ (f : Format) (iids sids : ℕ) (rows cols : List Float) (use_stats : Bool) (stats : List Float) (l : length rows ≡ length cols)
    (cells : (i m : ℕ) → i < iids → m < sids → value true iids sids rows i m ≡ value false iids sids cols i m) (one : sids ≤ 1) where
  may_one : (m : ℕ) → m < sids → may_change f true iids sids rows use_stats stats ≡ is_done (marker_answer m (found f true iids sids rows use_stats stats m))
  unfolding may_change lowest_refused
  may_one m hm = only_marker (found f true iids sids rows use_stats stats) sids m one hm

  -- `orders_same_values`, and nothing is asked of the answer
  pub one_marker_same_cells : (apply : Bool) (i m : ℕ) → i < iids → m < sids
      → value true iids sids (later_values f true iids sids rows use_stats stats apply) i m ≡ value false iids sids (later_values f false iids sids cols use_stats stats apply) i m
  one_marker_same_cells apply i m hi hm =
      let b = is_done (buffer_checks iids sids rows stats (done [])) in
      later_value_law f true iids sids rows use_stats stats apply i m hi hm
      ∙ same_cell f (λ j. b && (apply && may_one m hm j)) refl refl
      ∙ only_cell f m b apply (found f true iids sids rows use_stats stats m) (value true iids sids rows i m)
      ∙ same_cell f (λ j. is_done (checks_same iids sids rows cols stats (done []) l j) && (apply && sym (may_columns f iids sids cols use_stats stats) j))
      (orders_found f iids sids rows cols use_stats stats l cells m hm) (cells i m hi hm)
      ∙ sym (later_value_law f false iids sids cols use_stats stats apply i m hi hm)

-- it is one list
module _ (f : Format) (iids sids : ℕ) (val : List Float) (use_stats : Bool) (stats : List Float) (one : sids ≤ 1) where
  same_cells : (i m : ℕ) → i < iids → m < sids → value true iids sids val i m ≡ value false iids sids val i m
  unfolding value
  same_cells i m hi hm = ap (λ (p : ℕ). get_or val p nan) (only_place iids sids i m one hm)

  pub one_marker_same_answer : standardise_answer f true iids sids val use_stats stats ≡ standardise_answer f false iids sids val use_stats stats
  one_marker_same_answer = orders_same_answer f iids sids val val use_stats stats refl same_cells

  pub one_marker_same_stats : later_stats f true iids sids val use_stats stats ≡ later_stats f false iids sids val use_stats stats
  one_marker_same_stats = orders_same_stats f iids sids val val use_stats stats refl same_cells

  pub one_marker_same_values : (apply : Bool) → later_values f true iids sids val use_stats stats apply ≡ later_values f false iids sids val use_stats stats apply
  unfolding later_values value
  one_marker_same_values apply =
      by_test (is_done (buffer_checks iids sids val stats (done [])))
      (λ d. ext_get_or nan (later_values f true iids sids val use_stats stats apply) (later_values f false iids sids val use_stats stats apply)
      (same_length f true iids sids val use_stats stats apply ∙ sym (same_length f false iids sids val use_stats stats apply))
      (λ p h. let l = long_enough iids sids val stats d in
      let k = same_length f true iids sids val use_stats stats apply in
      let (t, u, hi, hm) = place_of iids sids p one (omega arith) in
      ap (λ (q : ℕ). get_or (later_values f true iids sids val use_stats stats apply) q nan) t
      ∙ one_marker_same_cells f iids sids val val use_stats stats refl same_cells one apply p 0 hi hm
      ∙ sym (ap (λ (q : ℕ). get_or (later_values f false iids sids val use_stats stats apply) q nan) u)))
      (λ d. old_if_not (buffer_checks iids sids val stats (done [])) (new_values f true iids sids val use_stats stats apply) val d
      ∙ sym (old_if_not (buffer_checks iids sids val stats (done [])) (new_values f false iids sids val use_stats stats apply) val d))

-- ---- 3. animals reordered
-- row k of the one matrix is row π k of the other, and π names each animal once
module _ (f : Format) (order : Bool) (iids sids : ℕ) (val val' : List Float) (use_stats : Bool) (stats : List Float) (π : ℕ → ℕ) (names : SumsAgree π iids)
    (l : length val' ≡ length val) (moved : (k m : ℕ) → k < iids → m < sids → value order iids sids val' k m ≡ value order iids sids val (π k) m)
    -- lent statistics, or decoded calls of few enough animals
    (known : (use_stats ≡ true) ⊎ (FewEnough f iids × ((i m : ℕ) → i < iids → m < sids → IsCall (value order iids sids val i m)))) where
  reordered_found : (m : ℕ) → m < sids → found f order iids sids val' use_stats stats m ≡ found f order iids sids val use_stats stats m
  unfolding found found_for
  reordered_found m h =
      found_for_ext f (λ k. value order iids sids val' k m) (λ k. value order iids sids val (π k) m) use_stats (stats_at stats m) iids (λ k b. moved k m b h)
      ∙ go use_stats known
    where
      go : (b : Bool) → (b ≡ true) ⊎ (FewEnough f iids × ((i m : ℕ) → i < iids → m < sids → IsCall (value order iids sids val i m)))
          → found_for f b (stats_at stats m) iids (λ k. value order iids sids val (π k) m) ≡ found_for f b (stats_at stats m) iids (λ i. value order iids sids val i m)
      go true k = refl
      go false (inl e) = absurd (true≢false (sym e))
      go false (inr (few, calls)) =
          reordered_stats f (λ k. value order iids sids val (π k) m) (λ i. value order iids sids val i m) iids (λ k b. calls (π k) m (names_below π iids names k b) h) (λ i b. calls i m b h) few
          (names_same π iids (λ i. value order iids sids val i m) names)

  -- the answer of the markers, the statistics and the values once the buffers are checked
  pub reordered_lowest : lowest_refused f order iids sids val' use_stats stats ≡ lowest_refused f order iids sids val use_stats stats
  reordered_lowest = lowest_same f iids sids order order val' val use_stats stats reordered_found

  pub reordered_new_stats : new_stats f order iids sids val' use_stats stats ≡ new_stats f order iids sids val use_stats stats
  reordered_new_stats = new_stats_same f iids sids order order val' val use_stats stats reordered_found

  may_same : may_change f order iids sids val' use_stats stats ≡ may_change f order iids sids val use_stats stats
  unfolding may_change
  may_same = ap (λ (a : Answer). cond order (is_done a) true) reordered_lowest

  pub reordered_new_values : (apply : Bool) (k m : ℕ) → k < iids → m < sids
      → value order iids sids (new_values f order iids sids val' use_stats stats apply) k m ≡ value order iids sids (new_values f order iids sids val use_stats stats apply) (π k) m
  reordered_new_values apply k m hk hm =
      new_value f order iids sids val' use_stats stats apply k m hk hm
      ∙ same_cell f (λ j. apply && may_same j) (reordered_found m hm) (moved k m hk hm)
      ∙ sym (new_value f order iids sids val use_stats stats apply (π k) m (names_below π iids names k hk) hm)

  -- and after the call
  pub reordered_same_answer : standardise_answer f order iids sids val' use_stats stats ≡ standardise_answer f order iids sids val use_stats stats
  reordered_same_answer = answer_same f iids sids order order val' val use_stats stats reordered_found l

  pub reordered_same_stats : later_stats f order iids sids val' use_stats stats ≡ later_stats f order iids sids val use_stats stats
  reordered_same_stats = stats_same f iids sids order order val' val use_stats stats reordered_found l

  pub reordered_moved_values : (apply : Bool) (k m : ℕ) → k < iids → m < sids
      → value order iids sids (later_values f order iids sids val' use_stats stats apply) k m ≡ value order iids sids (later_values f order iids sids val use_stats stats apply) (π k) m
  reordered_moved_values apply k m hk hm =
      later_value_law f order iids sids val' use_stats stats apply k m hk hm
      ∙ same_cell f (λ j. is_done (checks_same iids sids val' val stats (done []) l j) && (apply && may_same j)) (reordered_found m hm) (moved k m hk hm)
      ∙ sym (later_value_law f order iids sids val use_stats stats apply (π k) m (names_below π iids names k hk) hm)

-- ---- no animals: 13 for marker 0, if there is a marker
pub no_animals : (f : Format) (order : Bool) (n : ℕ) (val stats : List Float) → lowest_refused f order 0 (suc n) val false stats ≡ refused 13 (pos 0 ∷ [])
unfolding lowest_refused markers_answer found found_for marker_stats marker_answer if_done
no_animals f order n val stats = go n
  where
    go : (k : ℕ) → markers_answer (λ m. (Err NoIndividuals)) (suc k) ≡ refused 13 (pos 0 ∷ [])
    go zero = refl
    go (suc k) = ap (λ (a : Answer). if_done a (refused 13 (pos (suc k) ∷ [])) a) (go k)

-- ---- what reading decodes are calls
pub decoded_call : (flag : Bool) (code : ℕ) → IsCall (value_of float flag nan code)
unfolding value_of values
decoded_call true zero = is_two
decoded_call true (suc zero) = is_missing
decoded_call true (suc (suc zero)) = is_one
decoded_call true (suc (suc (suc zero))) = is_zero
decoded_call true (suc (suc (suc (suc n)))) = is_missing
decoded_call false zero = is_zero
decoded_call false (suc zero) = is_missing
decoded_call false (suc (suc zero)) = is_one
decoded_call false (suc (suc (suc zero))) = is_two
decoded_call false (suc (suc (suc (suc n)))) = is_missing
