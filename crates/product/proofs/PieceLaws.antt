-- From a piece formed by lines to the pieces of A'A and AA'.
use mathlib.Core.Path.{◌≡◌, sym, ap, ◌∙◌}
use mathlib.Core.Bool.{Bool, cond}
use mathlib.Core.List.{List}
use mathlib.Core.Logic.{⊎_elim}
use Prim.Native.Nat.{ℕ, ◌+◌, ◌*◌, ◌/◌, ◌%◌, ◌≤◌, ◌<◌}
use native.Mathlib.Nat.{div-add-mod'}
use native.Mathlib.Omega.{arith}
use lib.Dec.{leb}
use lib.ListN.{length, get_or}
use lib.Ieee.{Float, nan, Format, binary64}
use borrow.Author.Tests.{le-leb, lt-leb}
use Rattle.answer.specs.Lists.{tabulate}
use Rattle.answer.proofs.Tabulate.{length_tabulate, get_d_tabulate, tabulate_ext}
use Rattle.product.specs.Values.{float_at, floats_of, matrix_value, column, row}
use Rattle.product.specs.Dot.{plus_zero, dot}
use Rattle.product.specs.Piece.{piece_of, ata_entry, aat_entry}
use Rattle.product.specs.Private.{sum_more, value_of_line, lower_piece}
use Rattle.product.proofs.SumLaws.{dot_sum, sum_ext}
use Rattle.product.proofs.PartLaws.{below_or}
use Rattle.product.proofs.GridLaws.{grid, grid_at, grid_same, grid_ext, row_in, row_below}

-- the sums of a piece are the dots of its lines
pub lower_dots : (f : Format) (h w n : ℕ) (v u : ℕ → ℕ → Float) → w ≤ h → ((r k : ℕ) → r < h → k < n → v r k ≡ u r k)
    → lower_piece f h w v n ≡ piece_of h w (λ r c. cond (leb c r) (dot f (tabulate n (u r)) (tabulate n (u c))) plus_zero)
unfolding lower_piece piece_of
lower_dots f h w n v u b e =
    grid_ext h w (λ r c. cond (leb c r) (sum_more f plus_zero (v r) (v c) n) plus_zero) (λ r c. cond (leb c r) (dot f (tabulate n (u r)) (tabulate n (u c))) plus_zero)
    (λ r c p q.
    ap (λ (x : Float). cond (leb c r) x plus_zero)
    (sum_ext f plus_zero (v r) (v c) (u r) (u c) n (λ k l. e r k (row_below h w r c h p (omega arith)) l) (λ k l. e c k (omega arith) l) ∙ sym (dot_sum f n (u r) (u c))))

-- a piece with its lower part mirrored
pub mirrored_piece_law : (h w : ℕ) (g : ℕ → ℕ → Float) (l l' : List Float) → 0 < w → w ≤ h → l ≡ piece_of h w (λ r c. cond (leb c r) (g r c) plus_zero)
    → l' ≡ tabulate (length l) (λ p. cond (leb (p % w) (p / w)) (get_or l p nan) (get_or l (p % w * w + p / w) nan))
    → l' ≡ piece_of h w (λ r c. cond (leb c r) (g r c) (g c r))
unfolding piece_of
mirrored_piece_law h w g l l' p b e e' =
    e'
    ∙ ap (λ (k : ℕ). tabulate k (λ p. cond (leb (p % w) (p / w)) (get_or l p nan) (get_or l (p % w * w + p / w) nan))) (ap length e ∙ length_tabulate (h * w) (λ q. half (q / w) (q % w)))
    ∙ grid_by_place
  where
    half : ℕ → ℕ → Float
    half r c = cond (leb c r) (g r c) plus_zero

    low : (r c : ℕ) → r < h → c < w → c ≤ r → get_or l (r * w + c) nan ≡ g r c
    low r c a a' a'' =
        ap (λ (z : List Float). get_or z (r * w + c) nan) e
        ∙ grid_at (h * w) w half r c nan a' (let z : r * w + w ≤ h * w = row_in h w r a in omega arith)
        ∙ ap (λ (t : Bool). cond t (g r c) plus_zero) (le-leb c r a'')

    by_entry : (r c : ℕ) → r * w + c < h * w → c < w → cond (leb c r) (get_or l (r * w + c) nan) (get_or l (c * w + r) nan) ≡ cond (leb c r) (g r c) (g c r)
    by_entry r c a a' =
        ⊎_elim (λ d. ap (λ (t : Bool). cond t (get_or l (r * w + c) nan) (get_or l (c * w + r) nan)) (lt-leb c r d) ∙ low c r (omega arith) (omega arith) (omega arith) ∙ sym (ap (λ (t : Bool). cond t (g r c) (g c r)) (lt-leb c r d)))
        (λ d. ap (λ (t : Bool). cond t (get_or l (r * w + c) nan) (get_or l (c * w + r) nan)) (le-leb c r d) ∙ low r c (row_below h w r c h a (omega arith)) a' d ∙ sym (ap (λ (t : Bool). cond t (g r c) (g c r)) (le-leb c r d)))
        (below_or r c)

    grid_by_place : tabulate (h * w) (λ p. cond (leb (p % w) (p / w)) (get_or l p nan) (get_or l (p % w * w + p / w) nan)) ≡ grid (h * w) w (λ r c. cond (leb c r) (g r c) (g c r))
    grid_by_place =
        tabulate_ext (h * w) (λ p. cond (leb (p % w) (p / w)) (get_or l p nan) (get_or l (p % w * w + p / w) nan)) (λ p. cond (leb (p % w) (p / w)) (get_or l (p / w * w + p % w) nan) (get_or l (p % w * w + p / w) nan))
        (λ q a. ap (λ (x : ℕ). cond (leb (q % w) (q / w)) (get_or l x nan) (get_or l (q % w * w + q / w) nan)) (sym (div-add-mod' q w)))
        ∙ grid_same (h * w) w (λ r c. cond (leb c r) (get_or l (r * w + c) nan) (get_or l (c * w + r) nan)) (λ r c. cond (leb c r) (g r c) (g c r)) p by_entry

module _ (bytes : List ℕ) (offset rows columns start h w : ℕ) where
  -- a value's place in the list and in the bytes
  value_at : (i j : ℕ) → i < rows → j < columns → matrix_value (floats_of bytes offset (rows * columns)) rows i j ≡ float_at bytes (offset + 8 * (j * rows + i))
  unfolding matrix_value floats_of
  value_at i j b b' = get_d_tabulate (rows * columns) (λ k. float_at bytes (offset + 8 * k)) (j * rows + i) nan (let z : j * rows + rows ≤ columns * rows = row_in columns rows j b' in omega arith)

  column_value : start + h ≡ columns → (r k : ℕ) → r < h → k < rows → value_of_line bytes (offset + 8 * (start * rows)) rows 1 r k ≡ matrix_value (floats_of bytes offset (rows * columns)) rows k (start + r)
  unfolding value_of_line
  column_value e r k b b' =
      ap (float_at bytes) (let z : offset + 8 * (start * rows) + 8 * (r * rows + k * 1) ≡ offset + 8 * ((start + r) * rows + k) = omega arith in z)
      ∙ sym (value_at k (start + r) b' (omega arith))

  row_value : start + h ≡ rows → (r k : ℕ) → r < h → k < columns → value_of_line bytes (offset + 8 * start) 1 rows r k ≡ matrix_value (floats_of bytes offset (rows * columns)) rows (start + r) k
  unfolding value_of_line
  row_value e r k b b' =
      ap (float_at bytes) (let z : offset + 8 * start + 8 * (r * 1 + k * rows) ≡ offset + 8 * (k * rows + (start + r)) = omega arith in z)
      ∙ sym (value_at (start + r) k (omega arith) b')

  -- the A'A piece
  pub ata_piece : (l l' : List Float) → 0 < w → w ≤ h → start + h ≡ columns
      → l ≡ lower_piece binary64 h w (value_of_line bytes (offset + 8 * (start * rows)) rows 1) rows
      → l' ≡ tabulate (length l) (λ p. cond (leb (p % w) (p / w)) (get_or l p nan) (get_or l (p % w * w + p / w) nan))
      → l' ≡ piece_of h w (ata_entry binary64 (floats_of bytes offset (rows * columns)) rows start)
  unfolding ata_entry column
  ata_piece l l' p b s e e' =
      mirrored_piece_law h w (λ r c. dot binary64 (column (floats_of bytes offset (rows * columns)) rows (start + r)) (column (floats_of bytes offset (rows * columns)) rows (start + c))) l l' p b
      (e ∙ lower_dots binary64 h w rows (value_of_line bytes (offset + 8 * (start * rows)) rows 1) (λ r k. matrix_value (floats_of bytes offset (rows * columns)) rows k (start + r)) b (column_value s))
      e'

  -- the AA' piece
  pub aat_piece : (l : List Float) → w ≤ h → start + h ≡ rows
      → l ≡ lower_piece binary64 h w (value_of_line bytes (offset + 8 * start) 1 rows) columns
      → l ≡ piece_of h w (aat_entry binary64 (floats_of bytes offset (rows * columns)) rows columns start)
  unfolding aat_entry row
  aat_piece l b s e =
      e
      ∙ lower_dots binary64 h w columns (value_of_line bytes (offset + 8 * start) 1 rows) (λ r k. matrix_value (floats_of bytes offset (rows * columns)) rows (start + r) k) b (row_value s)
