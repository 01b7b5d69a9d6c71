-- What only private functions speak in.
use Rattle.std.specs.Prelude.{◌≡◌, Bool, true, false, cond, List, map, ℕ, ◌+◌, ◌*◌, ◌/◌, ◌%◌, ◌<◌, ◌≤◌, ℤ, length, get_or, set}
use Rattle.codes.specs.Code.{code_at, code_table}
use Rattle.calls.specs.declared.Part.{Part}
use Rattle.calls.specs.declared.Shape.{Shape}
use Rattle.calls.specs.declared.parts.Parts.{Parts}
use Rattle.calls.specs.Lists.{entry_byte, Inside}
use Rattle.bed_read.specs.Reading.{read_code, codes_read}

-- ---- lines and their places
-- what the four entries from o on add to the byte
abbrev pub FourBytes : Shape → Bool → List ℤ → ℕ → List ℕ → Type 0
FourBytes shape animals list o bytes = (j : ℕ) → j < 4 → get_or bytes j 0 ≡ entry_byte shape animals list (o + j)

-- bytes in the file and places in a byte: those of four lines that are blocks, with those of n entries
abbrev pub FourInside : List ℕ → List ℕ → Parts → ℕ → Type 0
FourInside file starts parts n = (j : ℕ) → j < 4 → Inside file (get_or starts j 0) 0 parts n

-- ---- values
-- the value that a table of 1,024 values has for a code: byte c has code c at place 0
unfoldable pub value_in : {A : Type 0} → List A → A → ℕ → A
value_in table d code = get_or table (code * 4) d

-- a table of values has one value for each code
pub record ByCode {A : Type 0} (table : List A) (d : A) : Type 0 where
  pub by_code_law : table ≡ map (value_in table d) code_table

-- the value at a place of a byte, where v is the value of a code
unfoldable pub place_value : {A : Type 0} → (ℕ → A) → List ℕ → ℕ → ℕ → A
place_value v file byte place = v (code_at (get_or file byte 0) place)

-- the value of item k of the block that starts at a byte
abbrev pub item_value : {A : Type 0} → List A → A → List ℕ → ℕ → ℕ → A
item_value table d file start k = place_value (value_in table d) file (start + k / 4) (k % 4)

-- the value of entry k in a line
abbrev pub part_value : {A : Type 0} → List A → A → List ℕ → Part → Parts → ℕ → A
part_value table d file part parts k = place_value (value_in table d) file (part.byte + get_or parts.bytes k 0) (part.place + get_or parts.places k 0)

-- the value of entry k in the block that starts at a byte
abbrev pub entry_value : {A : Type 0} → List A → A → List ℕ → ℕ → Parts → ℕ → A
entry_value table d file start parts k = place_value (value_in table d) file (start + get_or parts.bytes k 0) (get_or parts.places k 0)

-- and in block j of those that start at some bytes
abbrev pub block_value : {A : Type 0} → List A → A → List ℕ → List ℕ → Parts → ℕ → ℕ → A
block_value table d file starts parts j k = entry_value table d file (get_or starts j 0) parts k

-- the value for place o of the outer list and place t of the inner one
unfoldable pub line_value : {A : Type 0} → Bool → (ℕ → A) → List ℕ → Shape → List ℤ → List ℤ → ℕ → ℕ → A
line_value true v file shape outer inner o t = v (read_code file shape.iids shape.sids outer inner o t)
line_value false v file shape outer inner o t = v (read_code file shape.iids shape.sids inner outer t o)

-- the codes read by the two lists: in animal order where the outer list is of animals
abbrev pub lines_read : Bool → List ℕ → Shape → List ℤ → List ℤ → List ℕ
lines_read animals file shape outer inner = codes_read animals file shape.iids shape.sids (cond animals outer inner) (cond animals inner outer)

-- ---- filling a matrix
-- places p and p + 1 set
unfoldable pub set_two : {A : Type 0} → List A → ℕ → A → A → List A
set_two out p v w = set (set out p v) (p + 1) w

-- places k and k + 1 of four lines, which begin at place `at` and are n apart, set to the values f j k and f j (k + 1)
unfoldable pub set_pairs : {A : Type 0} → List A → ℕ → ℕ → ℕ → (ℕ → ℕ → A) → List A
set_pairs out at n k f =
    set_two (set_two (set_two (set_two out (at + k) (f 0 k) (f 0 (k + 1))) (at + k + n) (f 1 k) (f 1 (k + 1))) (at + k + n + n) (f 2 k) (f 2 (k + 1)))
    (at + k + n + n + n) (f 3 k) (f 3 (k + 1))

-- the first k places of some lines of m places are stored: value j t at place j t. Said for every list G of values that has them there:
-- what agreed with G still does, and those places do
pub record Drawn {A : Type 0} (d : A) (lines m : ℕ) (place : ℕ → ℕ → ℕ) (value : ℕ → ℕ → A) (old : List A) (k : ℕ) (new : List A) : Type 0 where
  pub bound : k ≤ m
  pub long : length new ≡ length old
  pub draws :
      (G : ℕ → A) → ((j t : ℕ) → j < lines → t < m → value j t ≡ G (place j t))
      → ((p : ℕ) → get_or old p d ≡ G p → get_or new p d ≡ G p) × ((j t : ℕ) → j < lines → t < k → get_or new (place j t) d ≡ G (place j t))

-- every line of a matrix is filled up to place `from`: g o t is what belongs at place t of line o
pub record Rows {A : Type 0} (g : ℕ → ℕ → A) (d : A) (outer inner : ℕ) (val : List A) (from : ℕ) : Type 0 where
  pub long : length val ≡ outer * inner
  pub bound : from ≤ inner
  pub filled : (o t : ℕ) → o < outer → t < from → get_or val (o * inner + t) d ≡ g o t

-- the matrix that is read, filled so far
abbrev pub ReadTo : {A : Type 0} → Bool → List A → A → List ℕ → Shape → List ℤ → List ℤ → List A → ℕ → Type 0
ReadTo animals table d file shape outer inner val from =
    Rows (line_value animals (value_in table d) file shape outer inner) d (length outer) (length inner) val from
