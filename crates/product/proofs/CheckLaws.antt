-- The checks of a piece, by the code's tests.
use mathlib.Core.Path.{◌≡◌, refl, ap, ◌∙◌}
use mathlib.Core.Bool.{Bool, true, false, ◌&&◌}
use mathlib.Core.List.{[]}
use Prim.Native.Nat.{ℕ, ◌+◌, ◌-◌, ◌*◌, ◌/◌, ◌≤◌, ◌<◌}
use native.Mathlib.Omega.{arith}
use lib.Dec.{leb, eqb}
use borrow.Author.Tests.{lt-leb}
use Rattle.answer.specs.Answer.{Answer, done, check, count_limit, counts_fit}
use Rattle.answer.proofs.Tests.{leb_both}
use Rattle.product.specs.Piece.{enough_bytes, piece_answer}

-- 18
abbrev pub counts : ℕ → ℕ → ℕ → ℕ → ℕ → Bool
counts a b c d e = counts_fit a b && (counts_fit c d && leb e count_limit)

-- 1
module _ (bytes offset rows columns : ℕ) where
  pub offset_past : bytes < offset → leb (offset + 8 * rows * columns) bytes ≡ false
  offset_past b = lt-leb (offset + 8 * rows * columns) bytes (omega arith)

  pub bytes_by_eight : offset ≤ bytes → leb (rows * columns) ((bytes - offset) / 8) ≡ leb (offset + 8 * rows * columns) bytes
  bytes_by_eight b = leb_both (rows * columns) ((bytes - offset) / 8) (offset + 8 * rows * columns) bytes (λ h. omega arith) (λ h. omega arith)

-- several checks of one number are one
check_and : (a b : Bool) (n : ℕ) (later : Answer) → check a n (check b n later) ≡ check (a && b) n later
unfolding check
check_and true b n later = refl
check_and false b n later = refl

-- the answer, by four tests
module _ (fine : Bool) (bytes offset rows columns start height width piece : ℕ) where
  abbrev last2 : Answer
  last2 = check (eqb (height * width) piece) 15 (check (enough_bytes bytes offset rows columns) 1 (done []))

  pub four_checks : piece_answer fine bytes offset rows columns start height width piece ≡ check (counts rows columns start height width) 18 (check fine 20 (check (eqb (height * width) piece) 15 (check (enough_bytes bytes offset rows columns) 1 (done []))))
  unfolding piece_answer
  four_checks =
      check_and (leb rows count_limit) (leb columns count_limit) 18 _
      ∙ ap (check (counts_fit rows columns) 18)
      (check_and (leb start count_limit) (leb height count_limit) 18 _ ∙ check_and (counts_fit start height) (leb width count_limit) 18 (check fine 20 last2))
      ∙ check_and (counts_fit rows columns) (counts_fit start height && leb width count_limit) 18 (check fine 20 last2)
