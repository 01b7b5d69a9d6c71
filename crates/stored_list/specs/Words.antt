-- The words of a line that was read.
use Rattle.std.specs.Prelude.{List, [], ℕ, length, get_or}
use Rattle.std.specs.Option.{unwrap_or}
use Rattle.stored_list.specs.declared.line.Line.{Line}
use Rattle.stored_list.specs.declared.line.Section.{Section}
use Rattle.stored_list.specs.declared.line.Section.TheVariants.{Head, Bytes, Out, Index, List as Lists, I8s, F64s, Stats, Answer, Later, LaterStats}
use Rattle.stored_list.specs.Lines.{line_of}

-- the sections of a line, each its words
abbrev pub sections_in : Line → List (List ℕ)
sections_in line = unwrap_or (line_of line.text.now) []

-- the place of a section in a line
abbrev pub place_of : Section → ℕ
place_of Head = 0
place_of Bytes = 1
place_of Out = 2
place_of Index = 3
place_of Lists = 4
place_of I8s = 5
place_of F64s = 6
place_of Stats = 7
place_of Answer = 8
place_of Later = 9
place_of LaterStats = 10

-- the words of a section
abbrev pub words_at : Line → Section → List ℕ
words_at line section = get_or (sections_in line) (place_of section) []

-- how many words a section has
abbrev pub length_at : Line → Section → ℕ
length_at line section = length (words_at line section)

-- word i of a section, or 0 past its end
abbrev pub word_at : Line → Section → ℕ → ℕ
word_at line section i = get_or (words_at line section) i 0
