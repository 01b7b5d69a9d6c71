-- What only private functions speak in.
use Rattle.std.specs.Prelude.{List, [], ◌≡◌, ℕ, ℤ, length, Result, Ok, Err}
use Rattle.answer.specs.Answer.{Answer, refused}
use Rattle.index.specs.declared.slice.SliceError.{SliceError}
use Rattle.index.specs.declared.slice.SliceInfo1.{SliceInfo1}
use Rattle.index.specs.Numbers.{slice_list}
use Rattle.index.specs.Checks.{check_slice, list_answer, list_buffer}

-- an answer and a later buffer are those of a list, after checks and with 19 the last
pub record Checked (checks : Answer → Answer) (means old : List ℤ) (says : Answer) (new : List ℤ) : Type 0 where
  pub answer : says ≡ checks (list_answer means (length old))
  pub buffer : new ≡ list_buffer (checks (list_answer means (length old))) means old

-- the same with 19 the only check
abbrev pub Listed : List ℤ → List ℤ → Answer → List ℤ → Type 0
Listed = Checked (λ later. later)

-- the number of each refusal of a slice
abbrev pub slice_refusal : SliceError → ℕ
slice_refusal SliceError.StepZero = 9
slice_refusal SliceError.StartGreaterThanCount = 10
slice_refusal SliceError.EndGreaterThanCount = 11

-- what `RangeNdSlice::new` makes: the numbers of the slice given, whose checks say nothing; or the first check that speaks
unfoldable pub MakesSlice : SliceInfo1 → ℕ → Result (List ℤ) SliceError → Type 0
MakesSlice s count (Ok list) = (list ≡ slice_list s count) × ((later : Answer) → check_slice s count later ≡ later)
MakesSlice s count (Err error) = (later : Answer) → check_slice s count later ≡ refused (slice_refusal error) []
