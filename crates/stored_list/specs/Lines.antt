-- A line of the list, as text: words of hexadecimal digits, a space between two words, `|` between two sections.
use Rattle.std.specs.Prelude.{Bool, ◌&&◌, ◌||◌, if◌then◌else◌, List, [], ◌∷◌, ℕ, ◌^◌, ltb, leb, eqb, length, slice_index, Option, Some, None, option_map, option_and_then}
use Rattle.std.specs.List.{slice_split, list_all}
use Rattle.std.specs.Str.Parse.{digits_value}

-- `#` begins a comment
abbrev pub is_comment : List ℕ → Bool
is_comment text = eqb (slice_index text 0) 35

-- `0` to `9` and `a` to `f`
abbrev pub is_digit : ℕ → Bool
is_digit b = (leb 48 b && leb b 57) || (leb 97 b && leb b 102)

-- whether a text is a word: one digit or more, of a number below 2^64
abbrev pub is_word : List ℕ → Bool
is_word text = list_all is_digit text && ltb 0 (length text) && ltb (digits_value 16 text) (2 ^ 64)

-- the number that a word writes
unfoldable pub word_of : List ℕ → Option ℕ
word_of text = if is_word text then Some (digits_value 16 text) else None

-- what each element of a list gives, if each gives something
unfoldable pub each : {A B : Type 0} → (A → Option B) → List A → Option (List B)
each f [] = Some []
each f (x ∷ xs) = option_and_then (λ y. option_map (λ ys. y ∷ ys) (each f xs)) (f x)

-- the list, if its length is as it should be
abbrev pub of_length : {A : Type 0} → (ℕ → Bool) → List A → Option (List A)
of_length allowed l = if allowed (length l) then Some l else None

-- the words of a section: none in an empty one, and at most 64
unfoldable pub words_of : List ℕ → Option (List ℕ)
words_of text =
    if eqb (length text) 0 then Some []
    else option_and_then (of_length (λ n. leb n 64)) (each word_of (slice_split (λ b. eqb b 32) text))

-- the sections of a line: eleven
unfoldable pub line_of : List ℕ → Option (List (List ℕ))
line_of text = option_and_then (of_length (λ n. eqb n 11)) (each words_of (slice_split (λ b. eqb b 124) text))
