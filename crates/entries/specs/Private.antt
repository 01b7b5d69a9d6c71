-- What only private functions speak in.
use Rattle.std.specs.Prelude.{◌≡◌, ℕ, ◌+◌, ◌-◌, ◌/◌, List, [], ◌∷◌, ℤ, pos, Option, Some, None}
use Rattle.entries.specs.Entry.{span}

-- the two numbers of a span so far: its lowest byte, and its length highest + 1 − lowest
abbrev pub span_numbers : Option (ℕ × ℕ) → List ℤ
span_numbers None = pos 0 ∷ pos 0 ∷ []
span_numbers (Some (lowest, highest)) = pos lowest ∷ pos (highest + 1 - lowest) ∷ []

-- a span so far is the span of a list
abbrev pub IsSpan : ℕ → List ℤ → Option (ℕ × ℕ) → Type 0
IsSpan count list sofar = span_numbers sofar ≡ span count list

-- the bytes of the lowest and the highest item so far
abbrev pub bytes_of : Option (ℕ × ℕ) → Option (ℕ × ℕ)
bytes_of None = None
bytes_of (Some (lowest, highest)) = Some (lowest / 4, highest / 4)
