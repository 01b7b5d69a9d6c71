-- What only the private functions of this crate speak in.
use Rattle.std.specs.Prelude.{ℕ, ℤ}
use Rattle.bed_answer.specs.declared.BedAnswer.{BedAnswer}

-- an answer from its three numbers
abbrev pub three_of : ℕ → ℤ → ℤ → BedAnswer
three_of number first second = record { number = number; first = first; second = second }
