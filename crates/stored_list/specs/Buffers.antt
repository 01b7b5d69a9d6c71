-- Buffers that stand in a section, and whether one does.
use Rattle.std.specs.Prelude.{Bool, true, false, ◌&&◌, List, [], ◌∷◌, ℕ, eqb, map}
use Rattle.std.specs.List.{range_with_len}
use Rattle.stored_list.specs.declared.line.Line.{Line}
use Rattle.stored_list.specs.declared.line.Section.{Section}
use Rattle.stored_list.specs.Words.{words_at, word_at}

-- the buffer of n places that has what each word of a section stands for, and what 0 stands for past the section's end
abbrev pub buffer_at : {A : Type 0} → (ℕ → A) → Line → Section → ℕ → List A
buffer_at of line section n = map (λ i. of (word_at line section i)) (range_with_len 0 n)

-- whether a list's words are these, as they are to be read by `of`
unfoldable pub same_words : {A : Type 0} → (A → ℕ) → (ℕ → ℕ) → List A → List ℕ → Bool
same_words word of [] [] = true
same_words word of [] (w ∷ ws) = false
same_words word of (x ∷ xs) [] = false
same_words word of (x ∷ xs) (w ∷ ws) = eqb (word x) (of w) && same_words word of xs ws

-- whether a section has a list: its length, and the word of each element
abbrev pub same_at : {A : Type 0} → (A → ℕ) → (ℕ → ℕ) → Line → Section → List A → Bool
same_at word of line section l = same_words word of l (words_at line section)
