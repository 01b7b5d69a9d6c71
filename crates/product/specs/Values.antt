-- A matrix of f64 in bytes: the bytes as a list of floats, and the rows and columns of such a list.
use Rattle.std.specs.Prelude.{List, [], ◌∷◌, ℕ, ◌+◌, ◌*◌, take, drop, get_or, Float}
use Rattle.std.specs.Float.{nan, binary64}
use Rattle.std.specs.Float.Ieee.{of_bits}
use Rattle.answer.specs.Lists.{tabulate}

-- "little-endian": the number of a list of bytes, the lowest first
unfoldable pub le_number : List ℕ → ℕ
le_number [] = 0
le_number (b ∷ bs) = b + 256 * le_number bs

-- the f64 whose bit pattern is the eight bytes from a place on; every NaN pattern is `nan`
unfoldable pub float_at : List ℕ → ℕ → Float
float_at bytes at = of_bits binary64 (le_number (take 8 (drop at bytes)))

-- "little-endian f64 after an offset": so many of them, as a list
unfoldable pub floats_of : List ℕ → ℕ → ℕ → List Float
floats_of bytes offset count = tabulate count (λ k. float_at bytes (offset + 8 * k))

-- "column-order": "row i of column j" is value j × rows + i
unfoldable pub matrix_value : List Float → ℕ → ℕ → ℕ → Float
matrix_value values rows i j = get_or values (j * rows + i) nan

-- column j, row by row
unfoldable pub column : List Float → ℕ → ℕ → List Float
column values rows j = tabulate rows (λ i. matrix_value values rows i j)

-- row i, column by column
unfoldable pub row : List Float → ℕ → ℕ → ℕ → List Float
row values rows columns i = tabulate columns (λ j. matrix_value values rows i j)
