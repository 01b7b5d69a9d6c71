-- What each result of the code says: document 01's number and the values for each of its cases.
use Rattle.std.specs.Prelude.{[], ℕ, Result, Ok, Err}
use Rattle.answer.specs.Answer.{Answer, done, refused}
use Rattle.bed_file.specs.Says.{file_number}
use Rattle.canonical.specs.declared.checks.CanonicalError.{CanonicalError}
use Rattle.canonical.specs.declared.checks.CanonicalError.TheVariants as canonicals

-- the numbers of its refusals, which carry nothing
abbrev pub canonical_number : CanonicalError → ℕ
canonical_number (canonicals.File error) = file_number error
canonical_number canonicals.EncodingLength = 16

abbrev pub canonical_says : Result Unit CanonicalError → Answer
canonical_says (Ok _) = done []
canonical_says (Err error) = refused (canonical_number error) []
