-- From the checks of a piece to what the two calls answer and leave.
use mathlib.Core.Path.{◌≡◌, refl, sym, ap, ◌∙◌}
use mathlib.Core.Bool.{Bool, true, false, ◌&&◌}
use mathlib.Core.List.{List, []}
use mathlib.Core.Logic.{⊎_elim}
use Prim.Native.Nat.{ℕ, ◌+◌, ◌*◌, ◌≤◌, ◌<◌}
use native.Mathlib.Nat.{mul-le-mul_right}
use native.Mathlib.Omega.{arith}
use lib.Dec.{leb, ltb, eqb}
use lib.ListN.{length}
use lib.Ieee.{Float}
use borrow.Author.Tests.{ltb-true, leb-true, eqb-true, lt-ltb, le-ltb, le-leb, lt-leb, ne_eqb}
use Rattle.answer.specs.Answer.{Answer, done, check, if_done}
use Rattle.answer.proofs.AnswerLaws.{same_error}
use Rattle.answer.proofs.Tests.{both_true}
use Rattle.product.specs.Piece.{good_piece, enough_bytes, piece_answer, ata_answer, aat_answer}
use Rattle.product.specs.Says.{piece_says}
use Rattle.product.specs.Private.{LinesIn}
use Rattle.std.specs.Prelude.{Result, Ok, Err, IsErrAnd}
use Rattle.product.specs.declared.checks.PieceError.{PieceError}
use Rattle.product.specs.declared.checks.PieceError.TheVariants.{CountTooLarge, CannotConvertBetaToFromF64, IndexMismatch, ReadError}
use Rattle.product.proofs.CheckLaws.{counts, four_checks}
use Rattle.product.proofs.PartLaws.{below_or}
use Rattle.product.proofs.GridLaws.{row_in}

-- a check that finds nothing
check_done : (b : Bool) (n : ℕ) (later : Answer) → check b n later ≡ done [] → (b ≡ true) × (later ≡ done [])
unfolding check
check_done true n later e = (refl, e)
check_done false n later e = absurd (let z : ◌≡◌ {A = ℕ} 0 1 = cc in let z' : ⊥ = omega arith in z')

-- what an accepted call's numbers keep
pub record Accepted (least total bytes offset rows columns start height width piece : ℕ) : Type 0 where
  pub started : start < total
  pub ends : start + height ≡ total
  pub narrow : width ≤ height
  pub wide : least ≤ width
  pub size : piece ≡ height * width
  pub held : 0 < rows → 0 < columns → offset + 8 * rows * columns ≤ bytes

pub accepted : (least total bytes offset rows columns start height width piece : ℕ) (a : Result (Unit {0}) PieceError) → piece_says a ≡ piece_answer (good_piece total start height width && leb least width) bytes offset rows columns start height width piece → a ≡ Ok tt → Accepted least total bytes offset rows columns start height width piece
unfolding good_piece enough_bytes
accepted least total bytes offset rows columns start height width piece x says told =
    let e5 = (check_done (counts rows columns start height width) 18 _ (sym (four_checks (good_piece total start height width && leb least width) bytes offset rows columns start height width piece) ∙ sym says ∙ ap piece_says told)).1 in
    let e6 = check_done (good_piece total start height width && leb least width) 20 _ e5 in
    let e7 = check_done (eqb (height * width) piece) 15 _ e6.1 in
    let e8 = check_done (enough_bytes bytes offset rows columns) 1 _ e7.1 in
    let g = both_true (good_piece total start height width) (leb least width) e6.0 in
    let g1 = both_true (ltb start total) (eqb (start + height) total && leb (start + width) total) g.0 in
    let g2 = both_true (eqb (start + height) total) (leb (start + width) total) g1.1 in
    let a : start < total = ltb-true start total g1.0 in
    let b : start + height ≡ total = eqb-true (start + height) total g2.0 in
    let c : start + width ≤ total = leb-true (start + width) total g2.1 in
    record {
      started = a;
      ends = b;
      narrow = omega arith;
      wide = leb-true least width g.1;
      size = sym (eqb-true (height * width) piece e7.0);
      held = λ p q. leb-true (offset + 8 * rows * columns) bytes (simp (ne_eqb rows 0 (λ z. omega arith), ne_eqb columns 0 (λ z. omega arith)) at e8.0);
    }

-- the lines of an accepted call stand in the bytes
module _ {bytes offset rows columns start height width piece : ℕ} where
  -- columns start, start + 1 and so on
  module _ (a : Accepted 1 columns bytes offset rows columns start height width piece) where
    pub columns_in : LinesIn bytes (offset + 8 * (start * rows)) rows 1 height rows
    columns_in r i h h' =
        let z : (start + r) * rows + rows ≤ columns * rows = row_in columns rows (start + r) (omega arith) in
        omega (arith, a.held (omega arith) (omega arith))

    pub first_in : start * rows ≤ bytes
    first_in =
        ⊎_elim (λ p. let z : start * rows + rows ≤ columns * rows = row_in columns rows start a.started in omega (arith, a.held p (omega arith)))
        (λ p. let z : start * rows ≡ start * 0 = ap (λ (x : ℕ). start * x) (let u : rows ≡ 0 = omega arith in u) in omega arith)
        (below_or 0 rows)

    pub square_in : width * width ≤ piece
    square_in = let z : width * width ≤ height * width = mul-le-mul_right width a.narrow in omega arith

  -- rows start, start + 1 and so on
  pub rows_in : Accepted 0 rows bytes offset rows columns start height width piece → LinesIn bytes (offset + 8 * start) 1 rows height columns
  rows_in a r i h h' =
      let z : i * rows + rows ≤ columns * rows = row_in columns rows i h' in
      omega (arith, a.held (omega arith) (omega arith))

-- "width 0 (A'A only)": the code's least width is 1 for A'A and 0 for AA'
pub least_one : (g : Bool) (w : ℕ) → g && leb 1 w ≡ g && ltb 0 w
least_one g w = ap (λ (t : Bool). g && t) (⊎_elim (λ b. le-leb 1 w (omega arith) ∙ sym (lt-ltb 0 w b)) (λ b. lt-leb 1 w (omega arith) ∙ sym (le-ltb 0 w b)) (below_or 0 w))

pub least_none : (g : Bool) (w : ℕ) → g && leb 0 w ≡ g
least_none true w = le-leb 0 w (omega arith)
least_none false w = refl

-- a call that refuses leaves the old list, one that is done the new one
pub leaves_old : (r : Result (Unit {0}) PieceError) (e : PieceError) (s : Answer) (new old : List Float) → IsErrAnd r (λ error. error ≡ e) → piece_says (Err e) ≡ s → (piece_says r ≡ s) × (old ≡ if_done s new old)
unfolding if_done
leaves_old r e s new old h q = (ap piece_says (same_error r e h) ∙ q, sym (ap (λ (t : Answer). if_done t new old) (sym q) ∙ by_error e))
  where
    by_error : (e : PieceError) → if_done (piece_says (Err e)) new old ≡ old
    by_error CountTooLarge = refl
    by_error CannotConvertBetaToFromF64 = refl
    by_error IndexMismatch = refl
    by_error ReadError = refl

pub leaves_new : (a : Result (Unit {0}) PieceError) (s : Answer) (l new old : List Float) → a ≡ Ok tt → piece_says a ≡ s → l ≡ new → (done [] ≡ s) × (l ≡ if_done s new old)
unfolding if_done
leaves_new a s l new old told e q =
    let d : done [] ≡ s = sym (ap piece_says told) ∙ e in
    (d, q ∙ ap (λ (t : Answer). if_done t new old) d)

module _ (bytes : List ℕ) (offset rows columns start height width : ℕ) (piece : List Float) (s : Answer) where
  pub ata_says : s ≡ piece_answer (good_piece columns start height width && leb 1 width) (length bytes) offset rows columns start height width (length piece) → s ≡ ata_answer bytes offset rows columns start height width piece
  unfolding ata_answer
  ata_says e = e ∙ ap (λ (g : Bool). piece_answer g (length bytes) offset rows columns start height width (length piece)) (least_one (good_piece columns start height width) width)

  pub aat_says : s ≡ piece_answer (good_piece rows start height width && leb 0 width) (length bytes) offset rows columns start height width (length piece) → s ≡ aat_answer bytes offset rows columns start height width piece
  unfolding aat_answer
  aat_says e = e ∙ ap (λ (g : Bool). piece_answer g (length bytes) offset rows columns start height width (length piece)) (least_none (good_piece rows start height width) width)
