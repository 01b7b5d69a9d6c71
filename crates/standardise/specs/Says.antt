-- What a result of standardising says: document 01's number and the values for each of its cases.
use Rattle.std.specs.Prelude.{[], ◌∷◌, pos, Result, Ok, Err}
use Rattle.answer.specs.Answer.{Answer, done, refused}
use Rattle.standardise.specs.declared.answers.StandardiseError.{StandardiseError}
use Rattle.standardise.specs.declared.answers.StandardiseError.TheVariants.{CountTooLarge, IndexMismatch, StatsMismatch, NoIndividuals, IllegalSnpMean}

abbrev pub standardise_says : Result (Unit {0}) StandardiseError → Answer
standardise_says (Ok u) = done []
standardise_says (Err CountTooLarge) = refused 18 []
standardise_says (Err IndexMismatch) = refused 15 []
standardise_says (Err StatsMismatch) = refused 17 []
standardise_says (Err (NoIndividuals m)) = refused 13 (pos m ∷ [])
standardise_says (Err (IllegalSnpMean m)) = refused 14 (pos m ∷ [])
