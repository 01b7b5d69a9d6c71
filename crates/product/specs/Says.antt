-- What a product call's result says: document 01's number for each of its cases.
use Rattle.std.specs.Prelude.{[], Result, Ok, Err}
use Rattle.answer.specs.Answer.{Answer, done, refused}
use Rattle.product.specs.declared.checks.PieceError.{PieceError}
use Rattle.product.specs.declared.checks.PieceError.TheVariants.{CountTooLarge, CannotConvertBetaToFromF64, IndexMismatch, ReadError}

abbrev pub piece_says : Result (Unit {0}) PieceError → Answer
piece_says (Ok t) = done []
piece_says (Err CountTooLarge) = refused 18 []
piece_says (Err CannotConvertBetaToFromF64) = refused 20 []
piece_says (Err IndexMismatch) = refused 15 []
piece_says (Err ReadError) = refused 1 []
