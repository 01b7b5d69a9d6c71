-- Sections that were read, and those that are being read.
use Rattle.std.specs.Prelude.{if◌then◌else◌, List, [], ◌∷◌, ◌++◌, ℕ, ◌+◌, ◌*◌, ◌^◌, min, take, ltb, leb, eqb, Option, Some, None, option_map, option_and_then}
use Rattle.std.specs.Option.{unwrap_or}
use Rattle.std.specs.Char.{digit_value}
use Rattle.stored_list.specs.declared.words.Words.{Words}
use Rattle.stored_list.specs.Lines.{is_digit, of_length}

-- the words of a section that was read
abbrev pub listed : Words → List ℕ
listed section = take (min section.count 64) section.words

-- an element before others, if there are both
abbrev pub before : {A : Type 0} → Option A → Option (List A) → Option (List A)
before o l = option_and_then (λ y. option_map (λ ys. y ∷ ys) l) o

-- a list before others, if there are others
abbrev pub onto : {A : Type 0} → List A → Option (List A) → Option (List A)
onto xs l = option_map (λ ys. xs ++ ys) l

-- at most as many words as a section may have
abbrev pub few : Option (List ℕ) → Option (List ℕ)
few l = option_and_then (of_length (λ n. leb n 64)) l

-- a text as far as its first `|`
unfoldable pub until_bar : List ℕ → List ℕ
until_bar [] = []
until_bar (b ∷ bs) = if eqb b 124 then [] else b ∷ until_bar bs

-- the words that are left as far as `|`, where a word may be read in part
unfoldable pub words_left : Option ℕ → List ℕ → Option (List ℕ)
words_left word [] = before word (Some [])
words_left word (b ∷ bs) =
    if is_digit b then if ltb (unwrap_or word 0) (2 ^ 60) then words_left (Some (16 * unwrap_or word 0 + digit_value b)) bs else None
    else if eqb b 32 then before word (words_left None bs)
    else if eqb b 124 then before word (Some [])
    else None
