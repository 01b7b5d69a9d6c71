-- What each result of the code says: document 01's number and the values for each of its cases.
use Rattle.std.specs.Prelude.{ℕ, [], ◌∷◌, pos, Result, Ok, Err}
use Rattle.answer.specs.Answer.{Answer, done, refused}
use Rattle.entries.specs.declared.BadEntry.{BadEntry}
use Rattle.entries.specs.declared.SpanError.{SpanError}
use Rattle.entries.specs.declared.SpanError.TheVariants.{CountTooLarge, IidIndexTooBig}

-- the number of the item that an entry means; a bad entry is refused by its list's number n, 5 or 6, which carries it
abbrev pub item_says : {I : Type 0} → (I → ℕ) → ℕ → Result I BadEntry → Answer
item_says number n (Ok item) = done (pos (number item) ∷ [])
item_says number n (Err bad) = refused n (bad.0 ∷ [])

abbrev pub span_says : Result (ℕ × ℕ) SpanError → Answer
span_says (Ok (lowest, length)) = done (pos lowest ∷ pos length ∷ [])
span_says (Err CountTooLarge) = refused 18 []
span_says (Err (IidIndexTooBig e)) = refused 5 (e ∷ [])
