use native.Mathlib.Omega.{arith}
use lib.ListN.{length}
use Rattle.product.specs.Piece.{ata_leaves}
use Rattle.product.proofs.AnswerLaws.{Accepted, accepted, columns_in, first_in, square_in, leaves_old, leaves_new, ata_says}
use Rattle.product.proofs.PieceLaws.{ata_piece}
use Rattle.product.proofs.file_ata_piece_f64.Goals as goal
use Rattle.product.proofs.file_ata_piece_f64.Goals.{In_ok-check_piece}

-- what the checks keep
kept : (c : In_ok-check_piece) →
    let a = c.args in Accepted 1 a.col_count (length a.bytes.now) a.offset a.row_count a.col_count a.col_start a.height a.width (length a.piece.now)
kept c = accepted _ _ _ _ _ _ _ _ _ _ _ c.check_piece.ensures c.in_ok-check_piece.was

pub returns-in_err-check_piece : goal.returns-in_err-check_piece
unfolding ata_leaves
returns-in_err-check_piece c =
    let z = leaves_old _ _ _ _ _ c.from_residual.ensures.1 (ata_says _ _ _ _ _ _ _ _ _ c.in_err-check_piece.ensures) in
    record { result_value = z.0; piece_after = z.1 }

pub overflow_mul-col_start : goal.overflow_mul-col_start
overflow_mul-col_start c = omega (arith, first_in (kept (goal.at.overflow_mul-col_start c).In_ok-check_piece))

pub lower_piece-requires : goal.lower_piece-requires
lower_piece-requires c =
    let k = kept (goal.at.lower_piece-requires c).In_ok-check_piece in (omega arith, k.narrow, k.size, columns_in k)

pub mirror-requires : goal.mirror-requires
mirror-requires c =
    let k = kept (goal.at.mirror-requires c).In_ok-check_piece in (omega arith, omega (arith, c.lower_piece.auto.piece, square_in k))

pub returns : goal.returns
unfolding ata_leaves
returns c =
    let k = kept (goal.at.returns c).In_ok-check_piece in
    let z = leaves_new _ _ _ _ _ c.in_ok-check_piece.was (ata_says _ _ _ _ _ _ _ _ _ c.check_piece.ensures) (ata_piece _ _ _ _ _ _ _ _ _ (omega (arith, k.wide)) k.narrow k.ends c.lower_piece.ensures c.mirror.ensures) in
    record { result_value = z.0; piece_after = z.1 }
