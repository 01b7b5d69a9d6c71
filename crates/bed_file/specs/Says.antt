-- What each result of the code says: document 01's number and the values for each of its cases.
use Rattle.std.specs.Prelude.{[], ◌∷◌, ℕ, pos, Result, Ok, Err}
use Rattle.answer.specs.Answer.{Answer, done, refused}
use Rattle.bed_file.specs.declared.OpenError.{OpenError}
use Rattle.bed_file.specs.declared.OpenError.TheVariants as opens
use Rattle.bed_file.specs.declared.FileError.{FileError}
use Rattle.bed_file.specs.declared.FileError.TheVariants as files

-- the numbers of the header's refusals, which carry nothing
abbrev pub open_number : OpenError → ℕ
open_number opens.ReadError = 1
open_number opens.IllFormed = 2

abbrev pub open_says : Result ℕ OpenError → Answer
open_says (Ok mode) = done (pos mode ∷ [])
open_says (Err error) = refused (open_number error) []

-- the numbers of a file's refusals, which carry nothing
abbrev pub file_number : FileError → ℕ
file_number files.CountTooLarge = 18
file_number files.ReadError = 1
file_number files.IllFormed = 2
file_number files.BadMode = 3
file_number files.IndexesTooBigForFiles = 4

abbrev pub accept_says : Result Unit FileError → Answer
accept_says (Ok _) = done []
accept_says (Err error) = refused (file_number error) []
