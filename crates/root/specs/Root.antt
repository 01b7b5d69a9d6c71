-- The root of a float, by document 01: "A positive finite root s is the one f64 for which the variance lies strictly between the squares of
-- the midpoints beside s, compared as scaled whole numbers." Over the format f, so that f32 is said too. Definitions only.
use Rattle.std.specs.Prelude.{ℕ, zero, suc, ◌+◌, ◌-◌, ◌*◌, ◌/◌, ◌^◌, ◌<◌, Bool, true, false, cond, T, ltb, Float}
use Rattle.std.specs.Float.{nan, inf, fin, Format}
use Rattle.std.specs.Float.Ieee.{emax, low, up, down, hid, ones, of_bits, to_bits}
use Rattle.std.specs.Float.Ieee.Positive.{positive}

-- "scaled whole numbers": how many times the format's smallest value, 2 ^ -low, goes into x. Its sign is not counted.
-- An infinity stands where the next value after the largest would: at 2 ^ (emax + 1).
unfoldable pub count : Format → Float → ℕ
count f nan = 0
count f (inf s) = 2 ^ (low f + suc (emax f))
count f (fin s m e) = m * up e * 2 ^ low f / down e

-- the floats beside a positive s: the next lower and the next higher bit pattern
abbrev pub before : Format → Float → Float
before f s = of_bits f (to_bits f s - 1)

abbrev pub after : Format → Float → Float
after f s = of_bits f (to_bits f s + 1)

-- "the midpoints beside s", each doubled, so that it is a whole number
abbrev pub lower : Format → Float → ℕ
lower f s = count f (before f s) + count f s

abbrev pub upper : Format → Float → ℕ
upper f s = count f s + count f (after f s)

-- The variance on the scale of those squares: v is count * 2 ^ -low, and a midpoint's square is lower * lower / 4 * 2 ^ -(2 * low),
-- so each is multiplied by 4 * 2 ^ (2 * low).
abbrev pub scaled : Format → Float → ℕ
scaled f v = 4 * (count f v * 2 ^ low f)

-- "A positive finite root s is the one f64 for which the variance lies strictly between the squares of the midpoints beside s"
pub record IsRoot (f : Format) (v s : Float) : Type 0 where
  pub positive_finite : T (positive s)
  pub above_lower : lower f s * lower f s < scaled f v
  pub below_upper_law : scaled f v < upper f s * upper f s

-- the first number from k on that passes the test, and k + n if the n numbers from k on all fail
unfoldable pub first_from : (ℕ → Bool) → ℕ → ℕ → ℕ
first_from test zero k = k
first_from test (suc n) k = cond (test k) k (first_from test n (suc k))

-- whether the variance is below the square of the midpoint above the value of bit pattern k
abbrev pub below_upper : Format → Float → ℕ → Bool
below_upper f v k = ltb (scaled f v) (upper f (of_bits f k) * upper f (of_bits f k))

-- The root, as a function: of a positive finite v the first value of the format, counting its bit patterns up from that of +0, with v below the
-- square of the midpoint above it. `root_is` and `root_only` of proofs/Roots say that it is the one s with IsRoot f v s.
-- A zero is its own root, with its sign; so is +infinity. Of what is below zero, and of a NaN, the root is a NaN.
unfoldable pub root : Format → Float → Float
root f nan = nan
root f (inf true) = nan
root f (inf false) = inf false
root f (fin s zero e) = fin s zero e
root f (fin true (suc m) e) = nan
root f (fin false (suc m) e) = of_bits f (first_from (below_upper f (fin false (suc m) e)) (ones f * hid f) 0)
