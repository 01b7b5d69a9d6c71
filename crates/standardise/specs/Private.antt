-- What only private functions speak in: the buffers, accumulators, and how far a pass has come.
use Rattle.std.specs.Prelude.{◌≡◌, Bool, true, ◌&&◌, cond, List, ℕ, zero, suc, ◌+◌, ◌*◌, ◌<◌, ◌≤◌, leb, ltb, length, get_or, set, Float, Result}
use Rattle.std.specs.Float.{nan, Format}
use Rattle.std.specs.Float.Ieee.{div}
use Rattle.answer.specs.Answer.{Answer}
use Rattle.answer.specs.Matrix.{matrix}
use Rattle.statistics.specs.declared.Accumulator.{Accumulator}
use Rattle.statistics.specs.declared.Stats.{Stats}
use Rattle.statistics.specs.declared.MarkerStats.{MarkerStats}
use Rattle.statistics.specs.declared.MarkerError.{MarkerError}
use Rattle.statistics.specs.declared.Scale.{Scale}
use Rattle.standardise.specs.declared.animal_order.Accumulators.{Accumulators}
use Rattle.standardise.specs.declared.animal_order.Scales.{Scales}
use Rattle.statistics.specs.Statistics.{one, counted, accumulated, stats_per_marker, stats_at, is_infinite, standardised, scaled_by}
use Rattle.standardise.specs.Standardised.{value, kept_or_new, applied, lowest_refused, new_stats, new_values}

-- ---- both buffers
-- they have their lengths
abbrev pub BuffersFit : ℕ → ℕ → List Float → List Float → Type 0
BuffersFit iids sids val stats = (iids * sids ≡ length val) × (stats_per_marker * sids ≡ length stats)

-- what the markers of a call answer, and both buffers afterwards
abbrev pub Processes : Format → Bool → ℕ → ℕ → List Float → Bool → List Float → Bool → Answer → List Float → List Float → Type 0
Processes f order iids sids val use_stats stats apply said val_after stats_after =
    (said ≡ lowest_refused f order iids sids val use_stats stats)
    × (val_after ≡ new_values f order iids sids val use_stats stats apply)
    × (stats_after ≡ new_stats f order iids sids val use_stats stats)

-- and of a pass that finds the statistics only
abbrev pub FindsStats : Format → Bool → ℕ → ℕ → List Float → Bool → List Float → Answer → List Float → Type 0
FindsStats f order iids sids val use_stats stats said stats_after =
    (said ≡ lowest_refused f order iids sids val use_stats stats) × (stats_after ≡ new_stats f order iids sids val use_stats stats)

-- the later value of one of a marker's values, by the choice to apply
unfoldable pub later_value : Format → Bool → Result MarkerStats MarkerError → Float → Float
unfolding applied
later_value f apply found v = cond apply (applied f found v) v

-- a list in which, for each j below k in turn, the place `place j` is given the value `value j`
unfoldable pub written : List Float → (ℕ → ℕ) → (ℕ → Float) → ℕ → List Float
written xs place value zero = xs
written xs place value (suc k) = set (written xs place value k) (place k) (value k)

-- the values of a list by their places
abbrev pub nth : List Float → ℕ → Float
nth xs i = get_or xs i nan

-- those from a place on, and a list whose n values from a place on are changed
abbrev pub from : List Float → ℕ → ℕ → Float
from xs start i = get_or xs (start + i) nan

abbrev pub changed : List Float → ℕ → ℕ → (Float → Float) → List Float
changed xs start n change = written xs (λ i. start + i) (λ i. change (from xs start i)) n

-- ---- the statistics buffer
-- marker m has its place in it
abbrev pub StatsIn : List Float → ℕ → Type 0
StatsIn stats m = m * stats_per_marker + stats_per_marker ≤ length stats

-- the buffer after marker m
abbrev pub stored_stats : Result MarkerStats MarkerError → ℕ → List Float → List Float
stored_stats found m stats =
    written stats (λ c. m * stats_per_marker + c) (λ c. kept_or_new found c (get_or stats (m * stats_per_marker + c) nan)) stats_per_marker

-- ---- accumulators
-- four values more
unfoldable pub counted_four : Format → Accumulator → Float → Float → Float → Float → Accumulator
counted_four f a v0 v1 v2 v3 = counted f (counted f (counted f (counted f a v0) v1) v2) v3

-- one to four values more: of each column whose values from place i on are v0 to v3, from the accumulator of its first i values to that of
-- its first k
abbrev pub Accumulates : Format → Accumulator → ℕ → Float → Float → Float → Float → Accumulator → ℕ → Type 0
Accumulates f a i v0 v1 v2 v3 b k =
    (i < k) × (k ≤ i + 4)
    × ((column : ℕ → Float) → v0 ≡ column i → v1 ≡ column (i + 1) → v2 ≡ column (i + 2) → v3 ≡ column (i + 3)
    → a ≡ accumulated f column i → b ≡ accumulated f column k)

-- ---- a tile: neighbouring markers in animal order
-- how many are taken at a time
abbrev pub tile_width : ℕ
tile_width = 1024

-- the accumulator of marker j of a tile, and the tile after a store of one
abbrev pub accumulator_at : Accumulators → ℕ → Accumulator
accumulator_at t j = record { count = get_or t.counts j nan; sum = get_or t.sums j nan; squares = get_or t.squares j nan }

abbrev pub accumulators_set : Accumulators → ℕ → Accumulator → Accumulators
accumulators_set t j a = record { counts = set t.counts j a.count; sums = set t.sums j a.sum; squares = set t.squares j a.squares }

-- its arrays have a number for each of its markers
pub record AreLong (t : Accumulators) : Type 0 where
  pub first_long : length t.counts ≡ tile_width
  pub second_long : length t.sums ≡ tile_width
  pub third_long : length t.squares ≡ tile_width

-- the accumulators of the first `width` markers make a step
abbrev pub TileStep : ℕ → (ℕ → Accumulator → Accumulator) → Accumulators → Accumulators → Type 0
TileStep width step t later = (j : ℕ) → j < width → accumulator_at later j ≡ step j (accumulator_at t j)

-- the values of some animals more, which stand a stride apart
unfoldable pub counted_rows : Format → List Float → ℕ → ℕ → ℕ → Accumulator → Accumulator
counted_rows f val at stride zero a = a
counted_rows f val at stride (suc k) a = counted f (counted_rows f val at stride k a) (from val at (k * stride))

-- ---- applying in animal order
-- what standardises the values of marker j of a tile, and of a marker with the statistics s
abbrev pub scale_at : Scales → ℕ → Scale
scale_at t j = record { mean = get_or t.means j nan; factor = get_or t.factors j nan; infinite = is_infinite (get_or t.deviations j nan) }

abbrev pub scale_of : Format → Stats → Scale
scale_of f s = record { mean = s.mean; factor = div f one s.deviation; infinite = is_infinite s.deviation }

-- a value of marker j of a tile, standardised
unfoldable pub scaled_at : Format → Scales → ℕ → Float → Float
unfolding scaled_by
scaled_at f t j v = scaled_by f (scale_at t j).mean (scale_at t j).factor (scale_at t j).infinite v

-- an animal-order matrix whose markers are all standardised, and one of which only `width` markers from marker `base` on are
unfoldable pub all_applied : Format → ℕ → ℕ → List Float → List Float → List Float
unfolding matrix standardised stats_at value
all_applied f iids sids stats val = matrix true iids sids (λ i m. standardised f (stats_at stats m) (value true iids sids val i m))

unfoldable pub markers_applied : Format → ℕ → ℕ → List Float → ℕ → ℕ → List Float → List Float
unfolding matrix standardised stats_at value
markers_applied f iids sids stats base width val =
    matrix true iids sids
    (λ i m. cond (leb base m && ltb m (base + width)) (standardised f (stats_at stats m) (value true iids sids val i m)) (value true iids sids val i m))
