-- What a result of the joined call says: document 01's number and the values for each of its cases.
use Rattle.std.specs.Prelude.{List, [], ◌∷◌, pos, Result, Ok, Err}
use Rattle.answer.specs.Answer.{Answer, done, refused}
use Rattle.bed_file.specs.Says.{file_number}
use Rattle.bed_read.specs.Says.{read_says}
use Rattle.standardise.specs.Says.{standardise_says}
use Rattle.read_standardised.specs.declared.in_turn.AnswersInTurn.{AnswersInTurn}
use Rattle.read_standardised.specs.declared.answers.JoinedError.{JoinedError}
use Rattle.read_standardised.specs.declared.answers.JoinedError.TheVariants as errors

-- "Show that the joined call never gives 14 and take it from that call's answers." (02): 14 has no case
abbrev pub joined_says : Result Unit JoinedError → Answer
joined_says (Ok _) = done []
joined_says (Err errors.IndexMismatch) = refused 15 []
joined_says (Err errors.StatsMismatch) = refused 17 []
joined_says (Err (errors.File error)) = refused (file_number error) []
joined_says (Err (errors.IidIndexTooBig e)) = refused 5 (e ∷ [])
joined_says (Err (errors.SidIndexTooBig e)) = refused 6 (e ∷ [])
joined_says (Err (errors.NoIndividuals m)) = refused 13 (pos m ∷ [])

-- and what the answers of the two calls in turn say
abbrev pub in_turn_says : AnswersInTurn → List Answer
in_turn_says r = read_says r.reading ∷ standardise_says r.standardising ∷ []
