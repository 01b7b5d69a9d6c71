use native.Mathlib.Omega.{arith}
use lib.ListN.{length}
use Rattle.product.specs.Piece.{aat_leaves}
use Rattle.product.proofs.AnswerLaws.{Accepted, accepted, rows_in, leaves_old, leaves_new, aat_says}
use Rattle.product.proofs.PieceLaws.{aat_piece}
use Rattle.product.proofs.file_aat_piece_f64.Goals as goal
use Rattle.product.proofs.file_aat_piece_f64.Goals.{In_ok-check_piece}

-- what the checks keep
kept : (c : In_ok-check_piece) →
    let a = c.args in Accepted 0 a.row_count (length a.bytes.now) a.offset a.row_count a.col_count a.row_start a.height a.width (length a.piece.now)
kept c = accepted _ _ _ _ _ _ _ _ _ _ _ c.check_piece.ensures c.in_ok-check_piece.was

pub returns-in_err-check_piece : goal.returns-in_err-check_piece
unfolding aat_leaves
returns-in_err-check_piece c =
    let z = leaves_old _ _ _ _ _ c.from_residual.ensures.1 (aat_says _ _ _ _ _ _ _ _ _ c.in_err-check_piece.ensures) in
    record { result_value = z.0; piece_after = z.1 }

pub lower_piece-requires : goal.lower_piece-requires
lower_piece-requires c =
    let k = kept (goal.at.lower_piece-requires c).In_ok-check_piece in (omega (arith, k.started, k.ends), k.narrow, k.size, rows_in k)

pub returns : goal.returns
unfolding aat_leaves
returns c =
    let k = kept (goal.at.returns c).In_ok-check_piece in
    let z = leaves_new _ _ _ _ _ c.in_ok-check_piece.was (aat_says _ _ _ _ _ _ _ _ _ c.check_piece.ensures) (aat_piece _ _ _ _ _ _ _ _ k.narrow k.ends c.lower_piece.ensures) in
    record { result_value = z.0; piece_after = z.1 }
