-- What only private functions speak in: where values stand in the bytes, sums, and how far a piece is formed.
use Rattle.std.specs.Prelude.{◌≡◌, Bool, cond, ◌&&◌, List, ℕ, zero, suc, ◌+◌, ◌-◌, ◌*◌, ◌/◌, ◌%◌, ◌<◌, ◌≤◌, leb, ltb, Float, length, get_or, take, drop}
use Rattle.std.specs.Float.{nan, Format}
use Rattle.std.specs.Float.Ieee.{add, mul}
use Rattle.answer.specs.Lists.{tabulate}
use Rattle.product.specs.Values.{le_number, float_at}
use Rattle.product.specs.Dot.{plus_zero}
use Rattle.product.specs.Piece.{piece_of}

-- ---- values in the bytes
-- value i of those from a place on, each step values after the one before
abbrev pub spaced_value : List ℕ → ℕ → ℕ → ℕ → Float
spaced_value bytes at step i = float_at bytes (at + 8 * (i * step))

-- the first n of them stand in the bytes
abbrev pub SpacedIn : ℕ → ℕ → ℕ → ℕ → Type 0
SpacedIn byte_count at step n = (i : ℕ) → i < n → at + 8 * (i * step) + 8 ≤ byte_count

-- the first n values from a place on are no NaN's patterns
abbrev pub NoNan : List ℕ → ℕ → ℕ → Type 0
NoNan bytes at n = (i : ℕ) → i < n → le_number (take 8 (drop (at + 8 * i) bytes)) % 9223372036854775808 ≤ 9218868437227405312

-- ---- four runs of neighbouring values, the starts step values apart
-- value j of run t
abbrev pub run_value : List ℕ → ℕ → ℕ → ℕ → ℕ → Float
run_value bytes at step j t = float_at bytes (at + 8 * (t * step) + 8 * j)

-- the first n values of each run stand in the bytes
abbrev pub RunsIn : ℕ → ℕ → ℕ → ℕ → Type 0
RunsIn byte_count at step n = (t : ℕ) → t < 4 → at + 8 * (t * step) + 8 * n ≤ byte_count

-- and are no NaN's patterns
abbrev pub RunsNoNan : List ℕ → ℕ → ℕ → ℕ → Type 0
RunsNoNan bytes at step n = (t : ℕ) → t < 4 → NoNan bytes (at + 8 * (t * step)) n

-- ---- lines
-- value k of line r
unfoldable pub value_of_line : List ℕ → ℕ → ℕ → ℕ → ℕ → ℕ → Float
value_of_line bytes base line step r k = float_at bytes (base + 8 * (r * line + k * step))

-- the first n values of each of so many lines stand in the bytes
abbrev pub LinesIn : ℕ → ℕ → ℕ → ℕ → ℕ → ℕ → Type 0
LinesIn byte_count base line step lines n = (r i : ℕ) → r < lines → i < n → base + 8 * (r * line + i * step) + 8 ≤ byte_count

-- the products of lines top to bottom - 1 can be formed straight from the bytes: they are four, neighbouring lines have
-- neighbouring values, and none of these is a NaN's pattern
abbrev pub Straight : List ℕ → ℕ → ℕ → ℕ → ℕ → ℕ → ℕ → Type 0
Straight bytes base line step n top bottom = (line ≡ 1) × (n ≡ 4) × RunsNoNan bytes (base + 8 * top) step (bottom - top)

-- all n terms go into tiles, or else the products can be formed straight from the bytes
abbrev pub LoadedOrStraight : List ℕ → ℕ → ℕ → ℕ → ℕ → ℕ → ℕ → ℕ → Type 0
LoadedOrStraight bytes base line step n loaded top bottom = (loaded ≡ n → ⊥) → Straight bytes base line step n top bottom

-- ---- tiles
-- value i of line j of a tile
abbrev pub tile_value : List Float → ℕ → ℕ → ℕ → Float
tile_value x g j i = get_or x (i * g + j) nan

-- a tile has the first n values of lines r to r + m - 1
abbrev pub TileHas : List Float → ℕ → (ℕ → ℕ → Float) → ℕ → ℕ → ℕ → Type 0
TileHas x g value r n m = (i j : ℕ) → i < n → j < m → tile_value x g j i ≡ value (r + j) i

-- n products of each of lines top to bottom - 1 can be formed: a tile has the first `loaded` values of each, and if that is not all, they can be
-- formed straight from the bytes
pub record BlockReady (bytes : List ℕ) (base line step n top bottom loaded g : ℕ) (x : List Float) : Type 0 where
  pub not_wide : bottom - top ≤ g
  pub tile_room : loaded * g + 8 ≤ length x
  pub tile_has : TileHas x g (value_of_line bytes base line step) top loaded (bottom - top)
  pub else_straight : LoadedOrStraight bytes base line step n loaded top bottom

-- ---- sums
-- n products more on a sum
unfoldable pub sum_more : Format → Float → (ℕ → Float) → (ℕ → Float) → ℕ → Float
sum_more f sum x y zero = sum
sum_more f sum x y (suc n) = add f (sum_more f sum x y n) (mul f (x n) (y n))

-- each sum with one product more, by v
abbrev pub term_more : Format → (ℕ → Float) → Float → List Float → List Float
term_more f value v sums = tabulate (length sums) (λ j. add f (get_or sums j nan) (mul f (value j) v))

-- sum j with the products of the first n values of x j and y more
abbrev pub row_more : Format → (ℕ → ℕ → Float) → (ℕ → Float) → ℕ → List Float → List Float
row_more f x y n sums = tabulate (length sums) (λ j. sum_more f (get_or sums j nan) (x j) y n)

-- sum j with the products of the first n values of lines r + j and c more
abbrev pub lines_more : Format → (ℕ → ℕ → Float) → ℕ → ℕ → ℕ → List Float → List Float
lines_more f value n r c sums = row_more f (λ j t. value (r + j) t) (λ t. value c t) n sums

-- ---- a piece
-- a list's values at places a width apart, and the other places as before
abbrev pub Put : List Float → ℕ → ℕ → List Float → List Float → Type 0
Put src from width old new =
    ((i : ℕ) → i < length src → get_or new (from + i * width) nan ≡ get_or src i nan)
    × ((p : ℕ) → ((i : ℕ) → i < length src → p ≡ from + i * width → ⊥) → get_or new p nan ≡ get_or old p nan)

-- entry (r, c) is on or below the diagonal, in rows top to bottom - 1 and columns left to right - 1
abbrev pub in_block : ℕ → ℕ → ℕ → ℕ → ℕ → ℕ → Bool
in_block top bottom left right r c = leb c r && (leb top r && (ltb r bottom && (leb left c && ltb c right)))

-- a piece with n products more in each entry of a block
unfoldable pub block_more : Format → ℕ → (ℕ → ℕ → Float) → ℕ → ℕ → ℕ → ℕ → ℕ → List Float → List Float
block_more f width value n top bottom left right piece =
    tabulate (length piece)
    (λ p.
    cond (in_block top bottom left right (p / width) (p % width)) (sum_more f (get_or piece p nan) (value (p / width)) (value (p % width)) n)
    (get_or piece p nan))

-- and in each of rows top to bottom - 1
abbrev pub rows_more : Format → ℕ → (ℕ → ℕ → Float) → ℕ → ℕ → ℕ → List Float → List Float
rows_more f width value n top bottom piece = block_more f width value n top bottom 0 width piece

-- a piece with +0 above the diagonal, and n terms of each other sum
unfoldable pub lower_piece : Format → ℕ → ℕ → (ℕ → ℕ → Float) → ℕ → List Float
unfolding piece_of
lower_piece f height width value n = piece_of height width (λ r c. cond (leb c r) (sum_more f plus_zero (value r) (value c) n) plus_zero)

-- a piece with a copy of entry (c, r) at each entry (r, c) above the diagonal
abbrev pub mirrored_piece : ℕ → List Float → List Float
mirrored_piece width piece =
    tabulate (length piece) (λ p. cond (leb (p % width) (p / width)) (get_or piece p nan) (get_or piece (p % width * width + p / width) nan))
