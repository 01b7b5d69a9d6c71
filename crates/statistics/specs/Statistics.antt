-- The statistics of a marker, over the format f. A marker's values are a function of the animal's place. Definitions only.
use Rattle.std.specs.Prelude.{Bool, true, false, ◌&&◌, ◌||◌, cond, List, [], ◌∷◌, ℕ, zero, suc, ◌+◌, ◌*◌, pos, get_or, Float}
use Rattle.std.specs.Prelude.{Some, None, Result, Ok, Err}
use Rattle.std.specs.Float.{nan, inf, fin, Format}
use Rattle.std.specs.Float.Ieee.{add, sub, mul, div, lt, le, is_nan}
use Rattle.root.specs.Root.{root}
use Rattle.statistics.specs.declared.Accumulator.{Accumulator}
use Rattle.statistics.specs.declared.Stats.{Stats}
use Rattle.statistics.specs.declared.MarkerStats.{MarkerStats}
use Rattle.statistics.specs.declared.MarkerError.{MarkerError}
use Rattle.statistics.specs.declared.MarkerError.TheVariants.{NoIndividuals, IllegalSnpMean}

-- +0 and 1
abbrev pub plus_zero : Float
plus_zero = fin false 0 (pos 0)

abbrev pub one : Float
one = fin false 1 (pos 0)

-- "from +0: count, sum and sum of squares"
abbrev pub start : Accumulator
start = record { count = plus_zero; sum = plus_zero; squares = plus_zero }

-- "over non-NaN values, each step rounded once": one value more
unfoldable pub counted : Format → Accumulator → Float → Accumulator
counted f a v =
    cond (is_nan v) a (record { count = add f a.count one; sum = add f a.sum v; squares = add f a.squares (mul f v v) })

-- "in animal order": the values of the first n animals
unfoldable pub accumulated : Format → (ℕ → Float) → ℕ → Accumulator
accumulated f column zero = start
accumulated f column (suc n) = counted f (accumulated f column n) (column n)

-- "Mean is sum / count"
unfoldable pub mean : Format → Accumulator → Float
mean f a = div f a.sum a.count

-- "variance is squares / count − mean × mean"
unfoldable pub variance : Format → Accumulator → Float
unfolding mean
variance f a = sub f (div f a.squares a.count) (mul f (mean f a) (mean f a))

-- "deviation is its root; NaN or at most 0 becomes +infinity"
unfoldable pub deviation : Format → Accumulator → Float
unfolding variance
deviation f a = let s = root f (variance f a) in cond (is_nan s || le s plus_zero) (inf false) s

-- "The pair of mean and deviation"
unfoldable pub stats_of : Format → Accumulator → Stats
unfolding mean deviation
stats_of f a = record { mean = mean f a; deviation = deviation f a }

-- "no non-NaN value" among those of the first n animals
unfoldable pub no_value : (ℕ → Float) → ℕ → Bool
no_value column zero = true
no_value column (suc n) = no_value column n && is_nan (column n)

-- statistics that are lent, and those that are found, with their "observed count as f64" (02)
abbrev pub lent : Stats → MarkerStats
lent s = record { stats = s; observed = None }

abbrev pub found_with : Stats → Float → MarkerStats
found_with s observed = record { stats = s; observed = Some observed }

-- what is found for a marker with n animals: 13 "has no non-NaN value", else 14 "has a NaN mean", else its pair of mean and deviation, and
-- the count as its observed count
unfoldable pub marker_stats : Format → ℕ → (ℕ → Float) → Result MarkerStats MarkerError
unfolding accumulated mean stats_of no_value
marker_stats f n column =
    let a = accumulated f column n in
    cond (no_value column n) (Err NoIndividuals) (cond (is_nan (mean f a)) (Err IllegalSnpMean) (Ok (found_with (stats_of f a) a.count)))

-- "With lent statistics nothing is recomputed or refused for 13, 14.": what there is for a marker, whose lent statistics are s if some are lent
unfoldable pub found_for : Format → Bool → Stats → ℕ → (ℕ → Float) → Result MarkerStats MarkerError
unfolding marker_stats
found_for f true s n column = Ok (lent s)
found_for f false s n column = marker_stats f n column

-- how many places a marker has in the statistics buffer, and its numbers in the order of their places:
-- "three numbers: mean, deviation and observed count as f64, at places 3m, 3m + 1 and 3m + 2" (02)
abbrev pub stats_per_marker : ℕ
stats_per_marker = 3

unfoldable pub in_places : Stats → Float → List Float
in_places s observed = s.mean ∷ s.deviation ∷ observed ∷ []

-- the lent statistics that stand in a buffer for marker m: "With lent statistics the third is neither read nor written." (02)
unfoldable pub stats_at : List Float → ℕ → Stats
stats_at stats m = record { mean = get_or stats (m * stats_per_marker) nan; deviation = get_or stats (m * stats_per_marker + 1) nan }

unfoldable pub is_infinite : Float → Bool
is_infinite nan = false
is_infinite (inf s) = true
is_infinite (fin s m e) = false

-- "Applying: +0 where the value is NaN or the deviation is infinite of either sign, else (value − mean) × (1 / deviation)"
unfoldable pub standardised : Format → Stats → Float → Float
unfolding is_infinite
standardised f s v = cond (is_nan v || is_infinite s.deviation) plus_zero (mul f (sub f v s.mean) (div f one s.deviation))

-- ---- steps of the calculation

-- what an accumulator says of its marker: it has no non-NaN value if its count is below 1
unfoldable pub stats_from : Format → Accumulator → Result MarkerStats MarkerError
unfolding mean stats_of
stats_from f a =
    cond (lt a.count one) (Err NoIndividuals) (cond (is_nan (mean f a)) (Err IllegalSnpMean) (Ok (found_with (stats_of f a) a.count)))

-- a value standardised by the reciprocal of the deviation
unfoldable pub scaled_by : Format → Float → Float → Bool → Float → Float
scaled_by f mean factor infinite v = cond (is_nan v || infinite) plus_zero (mul f (sub f v mean) factor)
