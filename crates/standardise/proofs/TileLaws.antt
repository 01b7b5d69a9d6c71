-- Accumulators of neighbouring markers, animal by animal.
use mathlib.Core.Path.{◌≡◌, refl, sym, ap, subst, ◌∙◌}
use mathlib.Core.Bool.{true, false}
use mathlib.Core.List.{List}
use Prim.Native.Nat.{ℕ, zero, suc, ◌+◌, ◌*◌, ◌<◌, ◌≤◌}
use native.Mathlib.Nat.{suc-mul, mul-le-mul_right, add_assoc, add-zero, add-mul}
use native.Mathlib.Numerals.{add-one}
use native.Mathlib.Omega.{arith}
use lib.Dec.{eqb}
use lib.ListN.{length, get_or, replicate, get_or-replicate}
use lib.Seq.{get_or-set_same, get_or-set_other}
use lib.Ieee.{Float, nan, Format}
use borrow.Author.Tests.{eqb-true, eqb-false}
use Rattle.answer.specs.Answer.{Answer, if_done}
use Rattle.answer.specs.Matrix.{matrix_place}
use Rattle.answer.proofs.Tests.{by_test}
use Rattle.statistics.specs.declared.Accumulator.{Accumulator}
use Rattle.standardise.specs.declared.animal_order.Accumulators.{Accumulators}
use Rattle.std.specs.Prelude.{Result}
use Rattle.statistics.specs.declared.MarkerStats.{MarkerStats}
use Rattle.statistics.specs.declared.MarkerError.{MarkerError}
use Rattle.statistics.specs.Statistics.{plus_zero, start, counted, accumulated, found_for}
use Rattle.standardise.specs.Standardised.{value, found, marker_answer}
use Rattle.standardise.specs.Private.{from, counted_rows, accumulator_at, accumulators_set, AreLong, tile_width, stored_stats}
use Rattle.statistics.specs.Statistics.{stats_from}
use Rattle.statistics.proofs.CountLaws.{accumulated_more, stats_from_law}
use Rattle.standardise.proofs.PassLaws.{StatsPassed, stats_passed_more}

triple : Float → Float → Float → Accumulator
triple x y z = record { count = x; sum = y; squares = z }

-- a tile after a store of an accumulator
module _ (t : Accumulators) (j : ℕ) (a : Accumulator) where
  at_same : AreLong t → j < tile_width → accumulator_at (accumulators_set t j a) j ≡ a
  unfolding triple
  at_same p h =
      let l1 = p.first_long in
      let l2 = p.second_long in
      let l3 = p.third_long in
      λ i. triple (get_or-set_same t.counts j a.count nan (omega arith) i) (get_or-set_same t.sums j a.sum nan (omega arith) i) (get_or-set_same t.squares j a.squares nan (omega arith) i)

  at_other : (k : ℕ) → (k ≡ j → ⊥) → accumulator_at (accumulators_set t j a) k ≡ accumulator_at t k
  unfolding triple
  at_other k n = λ i. triple (get_or-set_other t.counts j k a.count nan n i) (get_or-set_other t.sums j k a.sum nan n i) (get_or-set_other t.squares j k a.squares nan n i)

-- ---- some animals: the accumulators of the first j markers have made their step
module _ (step : ℕ → Accumulator → Accumulator) (before : Accumulators) where
  pub record RowCounted (j : ℕ) (t : Accumulators) : Type 0 where
    pub passed : (k : ℕ) → k < j → accumulator_at t k ≡ step k (accumulator_at before k)
    pub left : (k : ℕ) → j ≤ k → accumulator_at t k ≡ accumulator_at before k

  pub row_none : RowCounted 0 before
  row_none = record { passed = λ k h. absurd (omega arith); left = λ k h. refl }

  pub row_more_law : (j : ℕ) (t : Accumulators) (a : Accumulator) → AreLong t → j < tile_width → RowCounted j t → a ≡ step j (accumulator_at t j)
      → RowCounted (j + 1) (accumulators_set t j a)
  row_more_law j t a l h p e = record {
    passed = λ k b. by_test (eqb k j) (λ q. same k (eqb-true k j q)) (λ q. let n : k ≡ j → ⊥ = eqb-false k j q in at_other t j a k n ∙ p.passed k (omega arith));
    left = λ k b. at_other t j a k (λ q. omega arith) ∙ p.left k (omega arith);
  }
    where
      same : (k : ℕ) → k ≡ j → accumulator_at (accumulators_set t j a) k ≡ step k (accumulator_at before k)
      same k q =
          ap (accumulator_at (accumulators_set t j a)) q
          ∙ at_same t j a l h
          ∙ e
          ∙ ap (step j) (p.left j (omega arith))
          ∙ ap (λ (x : ℕ). step x (accumulator_at before x)) (sym q)

-- a value more of a marker
pub counted_more :
    (f : Format) (val : List Float) (at stride k : ℕ) (s : Accumulator) {a b : Accumulator}
    → b ≡ counted f a (from val at (k * stride)) → a ≡ counted_rows f val at stride k s → b ≡ counted_rows f val at stride (k + 1) s
unfolding counted_rows
counted_more f val at stride k s {a} {b} e h =
    e
    ∙ ap (λ (x : Accumulator). counted f x (from val at (k * stride))) h
    ∙ ap (λ (x : ℕ). counted_rows f val at stride x s) (sym (add-one k))

-- ---- a part of a row of a matrix in animal order
module _ (iids sids base width i : ℕ) (h : i < iids) (k : base + width ≤ sids) where
  pub row_inside : i * sids + base + width ≤ iids * sids
  row_inside = let d : suc i * sids ≤ iids * sids = mul-le-mul_right sids h in let e : suc i * sids ≡ i * sids + sids = suc-mul i sids in omega arith

-- some neighbouring rows
pub rows_inside : (iids sids base width i k : ℕ) → i + k ≤ iids → base + width ≤ sids → (r : ℕ) → r < k → i * sids + base + r * sids + width ≤ iids * sids
rows_inside iids sids base width i k h b r l =
    let n : i + r < iids = omega arith in
    let d : (i + r) * sids + base + width ≤ iids * sids = row_inside iids sids base width (i + r) n b in
    let e : (i + r) * sids ≡ i * sids + r * sids = add-mul i r sids in
    omega arith

-- ---- all animals below i are counted
module _ (f : Format) (iids sids base width : ℕ) (val : List Float) where
  pub record TileCounted (i : ℕ) (t : Accumulators) : Type 0 where
    pub within : i ≤ iids
    pub each : (j : ℕ) → j < width → accumulator_at t j ≡ accumulated f (λ a. value true iids sids val a (base + j)) i

  pub tile_none : (t : Accumulators) → ((j : ℕ) → j < width → accumulator_at t j ≡ start) → TileCounted 0 t
  unfolding accumulated
  tile_none t e = record { within = omega arith; each = e }

  rows_counted : (j i k : ℕ) (a : Accumulator) → a ≡ accumulated f (λ x. value true iids sids val x (base + j)) i
      → counted_rows f val (i * sids + base + j) sids k a ≡ accumulated f (λ x. value true iids sids val x (base + j)) (i + k)
  unfolding value matrix_place counted_rows
  rows_counted j i zero a e = e ∙ ap (accumulated f (λ x. get_or val (x * sids + (base + j)) nan)) (sym (add-zero i))
  rows_counted j i (suc k) a e =
      let m : (i + k) * sids ≡ i * sids + k * sids = add-mul i k sids in
      let q : i * sids + base + j + k * sids ≡ (i + k) * sids + (base + j) = omega arith in
      let n : i + k + 1 ≡ i + suc k = omega arith in
      accumulated_more f (λ x. get_or val (x * sids + (base + j)) nan) (i + k)
      (ap (λ (x : ℕ). counted f (counted_rows f val (i * sids + base + j) sids k a) (get_or val x nan)) q) (rows_counted j i k a e)
      ∙ ap (accumulated f (λ x. get_or val (x * sids + (base + j)) nan)) n

  -- some animals more
  pub tile_more : (i k : ℕ) (t t' : Accumulators) → i + k ≤ iids → TileCounted i t
      → ((j : ℕ) → j < width → accumulator_at t' j ≡ counted_rows f val (i * sids + base + j) sids k (accumulator_at t j))
      → TileCounted (i + k) t'
  tile_more i k t t' h p e = record { within = h; each = λ j b. e j b ∙ rows_counted j i k (accumulator_at t j) (p.each j b) }

  pub tile_all : (i : ℕ) (t : Accumulators) → TileCounted i t → iids ≤ i
      → (j : ℕ) → j < width → accumulator_at t j ≡ accumulated f (λ a. value true iids sids val a (base + j)) iids
  tile_all i t p h j k = let w : i ≤ iids = p.within in let z : i ≡ iids = omega arith in p.each j k ∙ ap (accumulated f (λ a. value true iids sids val a (base + j))) z

-- ---- what is found for a marker of a tile
pub tile_found : (f : Format) (iids sids : ℕ) (val stats : List Float) (m : ℕ) (a : Accumulator) (r : Result MarkerStats MarkerError) → r ≡ stats_from f a
    → a ≡ accumulated f (λ i. value true iids sids val i m) iids → r ≡ found f true iids sids val false stats m
unfolding found found_for
tile_found f iids sids val stats m a r e g = e ∙ ap (stats_from f) g ∙ stats_from_law f (λ i. value true iids sids val i m) iids

-- ---- j markers of a tile are passed: whatever the statistics were at first, if the markers below the tile were passed then
module _ (f : Format) (iids sids : ℕ) (val : List Float) (base : ℕ) (answer₀ : Answer) (stats₀ : List Float) where
  pub record PassedFrom (j : ℕ) (answer : Answer) (stats : List Float) : Type 0 where
    pub long : length stats ≡ length stats₀
    pub passed : (first : List Float) → StatsPassed sids (found f true iids sids val false first) first base answer₀ stats₀
        → StatsPassed sids (found f true iids sids val false first) first (base + j) answer stats

  pub passed_from_none : PassedFrom 0 answer₀ stats₀
  passed_from_none = record {
    long = refl;
    passed = λ first p. subst (λ (x : ℕ). StatsPassed sids (found f true iids sids val false first) first x answer₀ stats₀) (sym (add-zero base)) p;
  }

  pub passed_tile : (j width : ℕ) (answer : Answer) (stats : List Float) → PassedFrom j answer stats → j ≤ width → width ≤ j
      → (first : List Float) → StatsPassed sids (found f true iids sids val false first) first base answer₀ stats₀
      → StatsPassed sids (found f true iids sids val false first) first (base + width) answer stats
  passed_tile j width answer stats p h k first q =
      let z : j ≡ width = omega arith in subst (λ (x : ℕ). StatsPassed sids (found f true iids sids val false first) first (base + x) answer stats) z (p.passed first q)

  pub passed_from_more : (j : ℕ) (answer : Answer) (stats : List Float) → PassedFrom j answer stats → base + j < sids → (a : Accumulator) (r : Result MarkerStats MarkerError) → r ≡ stats_from f a
      → a ≡ accumulated f (λ i. value true iids sids val i (base + j)) iids → (answer' : Answer) (stats' : List Float) → answer' ≡ if_done answer (marker_answer (base + j) r) answer
      → length stats' ≡ length stats
      → stats' ≡ stored_stats r (base + j) stats
      → PassedFrom (j + 1) answer' stats'
  passed_from_more j answer stats p h a r e g answer' stats' u l w = record {
    long = l ∙ p.long;
    passed = λ first q. subst (λ (x : ℕ). StatsPassed sids (found f true iids sids val false first) first x answer' stats') (add_assoc base j 1)
        (stats_passed_more sids (found f true iids sids val false first) first (p.passed first q) h answer' stats' r (tile_found f iids sids val first (base + j) a r e g) u w);
  }

-- accumulators of zeros
pub zeros_start : (j : ℕ) → j < tile_width
    → accumulator_at (record { counts = replicate tile_width plus_zero; sums = replicate tile_width plus_zero; squares = replicate tile_width plus_zero }) j ≡ start
unfolding triple
zeros_start j h = ap (λ (x : Float). triple x x x) (get_or-replicate tile_width j plus_zero nan h)
