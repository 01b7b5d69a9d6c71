-- What each result of the code says: document 01's number and the values for each of its cases.
use Rattle.std.specs.Prelude.{[], ◌∷◌, ℕ, pos, Result, Ok, Err}
use Rattle.answer.specs.Answer.{Answer, done, refused}
use Rattle.blocks.specs.declared.DivError.{DivError}
use Rattle.blocks.specs.declared.DivError.TheVariants.{CountTooLarge, IndexesTooBigForFiles}

-- the numbers of its refusals, which carry nothing
abbrev pub div_number : DivError → ℕ
div_number CountTooLarge = 18
div_number IndexesTooBigForFiles = 4

abbrev pub div_says : Result ℕ DivError → Answer
div_says (Ok width) = done (pos width ∷ [])
div_says (Err error) = refused (div_number error) []
