-- The pieces of A'A and AA', and when a call for one is refused.
use Rattle.std.specs.Prelude.{Bool, cond, ◌&&◌, ◌||◌, List, [], ℕ, ◌+◌, ◌*◌, ◌/◌, ◌%◌, length, leb, ltb, eqb, Float}
use Rattle.std.specs.Float.{Format, binary64}
use Rattle.answer.specs.Answer.{Answer, done, check, check_count, if_done}
use Rattle.answer.specs.Lists.{tabulate}
use Rattle.product.specs.Values.{floats_of, column, row}
use Rattle.product.specs.Dot.{dot, plus_zero}

-- "a piece's entry (r, c) is at r × width + c"
unfoldable pub piece_of : ℕ → ℕ → (ℕ → ℕ → Float) → List Float
piece_of height width entry = tabulate (height * width) (λ p. entry (p / width) (p % width))

-- "A'A piece: entry (r, c) is column start + r times column start + c for c ≤ r, and a copy of entry (c, r) for c > r."
unfoldable pub ata_entry : Format → List Float → ℕ → ℕ → ℕ → ℕ → Float
ata_entry f values rows start r c = cond (leb c r) (product r c) (product c r)
  where
    product : ℕ → ℕ → Float
    product r c = dot f (column values rows (start + r)) (column values rows (start + c))

-- "AA' piece: the same over rows, nothing above the diagonal but +0."
unfoldable pub aat_entry : Format → List Float → ℕ → ℕ → ℕ → ℕ → ℕ → Float
aat_entry f values rows columns start r c = cond (leb c r) (product r c) plus_zero
  where
    product : ℕ → ℕ → Float
    product r c = dot f (row values rows columns (start + r)) (row values rows columns (start + c))

-- none of 20's "start ≥ total, start + height ≠ total, start + width > total"
unfoldable pub good_piece : ℕ → ℕ → ℕ → ℕ → Bool
good_piece total start height width = ltb start total && (eqb (start + height) total && leb (start + width) total)

-- 1 is not met: "if rows and columns are both above 0 and the bytes are fewer than offset + 8 × rows × columns"
unfoldable pub enough_bytes : ℕ → ℕ → ℕ → ℕ → Bool
enough_bytes byte_count offset rows columns = eqb rows 0 || (eqb columns 0 || leb (offset + 8 * rows * columns) byte_count)

-- "18 comes first", then 20, which is met unless good, "then 15, then 1"
unfoldable pub piece_answer : Bool → ℕ → ℕ → ℕ → ℕ → ℕ → ℕ → ℕ → ℕ → Answer
unfolding check_count check enough_bytes
piece_answer good byte_count offset rows columns start height width piece_length =
    check_count rows
    (check_count columns
    (check_count start
    (check_count height
    (check_count width
    (check good 20 (check (eqb (height * width) piece_length) 15 (check (enough_bytes byte_count offset rows columns) 1 (done []))))))))

-- `file_ata_piece`: the total is the columns; 20 also for "width 0 (A'A only)"
unfoldable pub ata_answer : List ℕ → ℕ → ℕ → ℕ → ℕ → ℕ → ℕ → List Float → Answer
unfolding piece_answer good_piece
ata_answer bytes offset rows columns start height width piece =
    piece_answer (good_piece columns start height width && ltb 0 width) (length bytes) offset rows columns start height width (length piece)

-- the piece that `file_ata_piece` leaves
unfoldable pub ata_leaves : List ℕ → ℕ → ℕ → ℕ → ℕ → ℕ → ℕ → List Float → List Float
ata_leaves bytes offset rows columns start height width piece =
    if_done (ata_answer bytes offset rows columns start height width piece)
    (piece_of height width (ata_entry binary64 (floats_of bytes offset (rows * columns)) rows start))
    piece

-- `file_aat_piece`: the total is the rows
unfoldable pub aat_answer : List ℕ → ℕ → ℕ → ℕ → ℕ → ℕ → ℕ → List Float → Answer
unfolding piece_answer good_piece
aat_answer bytes offset rows columns start height width piece =
    piece_answer (good_piece rows start height width) (length bytes) offset rows columns start height width (length piece)

-- the piece that `file_aat_piece` leaves
unfoldable pub aat_leaves : List ℕ → ℕ → ℕ → ℕ → ℕ → ℕ → ℕ → List Float → List Float
aat_leaves bytes offset rows columns start height width piece =
    if_done (aat_answer bytes offset rows columns start height width piece)
    (piece_of height width (aat_entry binary64 (floats_of bytes offset (rows * columns)) rows columns start))
    piece
