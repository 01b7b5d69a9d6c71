-- What each result of the code says: document 01's number and the values for each of its cases.
use Rattle.std.specs.Prelude.{ℕ, [], ◌∷◌, pos, Result, Ok, Err}
use Rattle.answer.specs.Answer.{Answer, done, refused}
use Rattle.index.specs.declared.ListError.{ListError}
use Rattle.index.specs.declared.range.Bounds.{Bounds}
use Rattle.index.specs.declared.range.RangeError.{RangeError}

-- the number of each refusal of a list
abbrev pub list_refusal : ListError → ℕ
list_refusal ListError.CountTooLarge = 18
list_refusal ListError.BoolArrayVectorWrongLength = 8
list_refusal ListError.StepZero = 9
list_refusal ListError.StartGreaterThanCount = 10
list_refusal ListError.EndGreaterThanCount = 11
list_refusal ListError.StartGreaterThanEnd = 12
list_refusal ListError.ListTooShort = 19

-- and of a range
abbrev pub range_refusal : RangeError → ℕ
range_refusal RangeError.CountTooLarge = 18
range_refusal RangeError.StartGreaterThanEnd = 12

-- the length of the list, or a refusal
abbrev pub list_says : Result ℕ ListError → Answer
list_says (Ok length) = done (pos length ∷ [])
list_says (Err error) = refused (list_refusal error) []

-- the start and the end of a range, or a refusal
abbrev pub range_says : Result Bounds RangeError → Answer
range_says (Ok range) = done (pos range.start ∷ pos range.end ∷ [])
range_says (Err error) = refused (range_refusal error) []
