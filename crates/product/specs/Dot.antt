-- The sum of the products of two lists of floats, at any format.
use Rattle.std.specs.Prelude.{false, List, [], ◌∷◌, pos, Float}
use Rattle.std.specs.Float.{fin, Format}
use Rattle.std.specs.Float.Ieee.{add, mul}

-- +0
abbrev pub plus_zero : Float
plus_zero = fin false 0 (pos 0)

-- from a sum so far: each product is rounded and added, and the sum rounded, "upward"
unfoldable pub dot_from : Format → Float → List Float → List Float → Float
dot_from f sum [] ys = sum
dot_from f sum (x ∷ xs) [] = sum
dot_from f sum (x ∷ xs) (y ∷ ys) = dot_from f (add f sum (mul f x y)) xs ys

-- "each sum runs upward from +0"
unfoldable pub dot : Format → List Float → List Float → Float
dot f xs ys = dot_from f plus_zero xs ys
