-- Words and numbers in bytes.
use Rattle.std.specs.Prelude.{cond, List, [], ◌∷◌, ◌++◌, ℕ, zero, suc, ◌+◌, ◌/◌, ◌%◌, ltb}
use Prim.Native.Char.{code}
use Prim.Native.String.{String, [] as []ˢ, ◌∷◌ as ◌∷ˢ◌}

-- a text in bytes: the ASCII codes of its characters
unfoldable pub ascii : String → List ℕ
ascii []ˢ = []
ascii (c ∷ˢ s) = code c ∷ ascii s

-- the byte of a digit: `0` is 48, `9` is 57
abbrev pub digit : ℕ → ℕ
digit d = 48 + d

-- the decimal digits of n, the highest first, if they are no more than `most`
unfoldable pub digits : ℕ → ℕ → List ℕ
digits zero n = []
digits (suc most) n = let longer = digits most (n / 10) ++ (digit (n % 10) ∷ []) in cond (ltb n 10) (digit n ∷ []) longer

-- n in decimal, without a leading zero; 0 is `0`. n has no more than n + 1 digits
unfoldable pub decimal : ℕ → List ℕ
decimal n = digits (suc n) n
