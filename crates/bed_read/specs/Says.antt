-- What each result of the code says: document 01's number and the values for each of its cases.
use Rattle.std.specs.Prelude.{[], ◌∷◌, Result, Ok, Err}
use Rattle.answer.specs.Answer.{Answer, done, refused}
use Rattle.bed_file.specs.Says.{file_number}
use Rattle.bed_read.specs.declared.checks.ReadError.{ReadError}
use Rattle.bed_read.specs.declared.checks.ReadError.TheVariants as reads

abbrev pub read_says : Result Unit ReadError → Answer
read_says (Ok _) = done []
read_says (Err reads.IndexMismatch) = refused 15 []
read_says (Err (reads.File error)) = refused (file_number error) []
read_says (Err (reads.IidIndexTooBig e)) = refused 5 (e ∷ [])
read_says (Err (reads.SidIndexTooBig e)) = refused 6 (e ∷ [])
