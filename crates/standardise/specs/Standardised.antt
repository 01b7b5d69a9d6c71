-- What standardising answers and what it leaves in the two lent buffers. Definitions only.
use Rattle.std.specs.Prelude.{Option, Some, None, Result, Ok, Err}
use Rattle.std.specs.Prelude.{◌≡◌, Bool, ◌&&◌, List, [], ◌∷◌, ℕ, zero, suc, ◌+◌, ◌*◌, pos, eqb, length, get_or, Float}
use Rattle.std.proofs.Math.Bool.{true, false, cond}
use Rattle.std.specs.Float.{nan, Format}
use Rattle.answer.specs.Answer.{Answer, done, refused, check, check_count, is_done, if_done}
use Rattle.answer.specs.Matrix.{matrix_place, matrix}
use Rattle.statistics.specs.declared.MarkerStats.{MarkerStats}
use Rattle.statistics.specs.declared.Stats.{Stats}
use Rattle.statistics.specs.declared.MarkerError.{MarkerError}
use Rattle.statistics.specs.declared.MarkerError.TheVariants.{NoIndividuals, IllegalSnpMean}
use Rattle.statistics.specs.Statistics.{found_for, stats_per_marker, in_places, stats_at, standardised}

-- "13 and 14 carry the marker's place in the matrix, from 0"
unfoldable pub marker_answer : ℕ → Result MarkerStats MarkerError → Answer
marker_answer m (Ok found) = done []
marker_answer m (Err NoIndividuals) = refused 13 (pos m ∷ [])
marker_answer m (Err IllegalSnpMean) = refused 14 (pos m ∷ [])

-- "lowest refused marker" of the first n: the lowest of those before, or else the last one
unfoldable pub markers_answer : (ℕ → Result MarkerStats MarkerError) → ℕ → Answer
unfolding if_done marker_answer
markers_answer found zero = done []
markers_answer found (suc n) = if_done (markers_answer found n) (marker_answer n (found n)) (markers_answer found n)

-- "Checks: 18, 15, 17, then markers." 15: "value buffer is not the product of .. the two counts";
-- 17: "statistics buffer is not 2 times the matrix's markers", which "now reads 3 times markers" (02)
unfoldable pub buffer_checks : ℕ → ℕ → List Float → List Float → Answer → Answer
unfolding check_count check
buffer_checks iids sids val stats markers =
    check_count iids
    (check_count sids (check (eqb (iids * sids) (length val)) 15 (check (eqb (stats_per_marker * sids) (length stats)) 17 markers)))

-- what place c of a marker's statistics holds where the marker is not refused: lent ones stay, others are new
unfoldable pub lent_or_new : Stats → Option Float → ℕ → Float → Float
unfolding in_places
lent_or_new s None c old = old
lent_or_new s (Some observed) c old = get_or (in_places s observed) c nan

-- "At 13 or 14 refused markers keep old statistics, others get new ones", and lent ones stay: what place c of a marker's statistics holds
unfoldable pub kept_or_new : Result MarkerStats MarkerError → ℕ → Float → Float
unfolding lent_or_new
kept_or_new (Ok found) c old = lent_or_new found.stats found.observed c old
kept_or_new (Err NoIndividuals) c old = old
kept_or_new (Err IllegalSnpMean) c old = old

-- "still applies to every marker not refused": the later value of a marker's value
unfoldable pub applied : Format → Result MarkerStats MarkerError → Float → Float
unfolding standardised
applied f (Ok found) v = standardised f found.stats v
applied f (Err NoIndividuals) v = v
applied f (Err IllegalSnpMean) v = v

-- the value of animal i at marker m, of a matrix in animal order (true) or marker order (false)
unfoldable pub value : Bool → ℕ → ℕ → List Float → ℕ → ℕ → Float
unfolding matrix_place
value order iids sids val i m = get_or val (matrix_place order iids sids i m) nan

-- a call
module _ (f : Format) (order : Bool) (iids sids : ℕ) (val : List Float) (use_stats : Bool) (stats : List Float) where
  -- what there is for marker m
  unfoldable pub found : ℕ → Result MarkerStats MarkerError
  unfolding found_for stats_at value
  found m = found_for f use_stats (stats_at stats m) iids (λ i. value order iids sids val i m)

  -- the answer of the markers: the lowest refused one's
  unfoldable pub lowest_refused : Answer
  unfolding markers_answer found
  lowest_refused = markers_answer found sids

  unfoldable pub standardise_answer : Answer
  unfolding buffer_checks lowest_refused
  standardise_answer = buffer_checks iids sids val stats lowest_refused

  -- the statistics once the buffers are checked; as a matrix in marker order they have number c of marker m at 3m + c
  unfoldable pub new_stats : List Float
  unfolding found kept_or_new matrix
  new_stats = matrix false stats_per_marker sids (λ c m. kept_or_new (found m) c (get_or stats (m * stats_per_marker + c) nan))

  -- "The marker-order standardiser still applies to every marker not refused; the animal-order one changes no value."
  unfoldable pub may_change : Bool
  unfolding lowest_refused
  may_change = cond order (is_done lowest_refused) true

  -- the values once the buffers are checked. "without applying no value changes"
  unfoldable pub new_values : Bool → List Float
  unfolding may_change found applied value matrix
  new_values apply = cond (apply && may_change) (matrix order iids sids (λ i m. applied f (found m) (value order iids sids val i m))) val

  -- "Every refusal leaves all lent bytes and values unchanged, except .. at 13 and 14": the two buffers afterwards
  unfoldable pub later_stats : List Float
  unfolding if_done buffer_checks new_stats
  later_stats = if_done (buffer_checks iids sids val stats (done [])) new_stats stats

  unfoldable pub later_values : Bool → List Float
  unfolding if_done buffer_checks new_values
  later_values apply = if_done (buffer_checks iids sids val stats (done [])) (new_values apply) val

  -- a call's answer, and both buffers afterwards
  abbrev pub Standardises : Bool → Answer → List Float → List Float → Type 0
  Standardises apply said val_after stats_after = (said ≡ standardise_answer) × (val_after ≡ later_values apply) × (stats_after ≡ later_stats)
