-- The lists of a call, of animals (true) or of markers: what their entries add to where a call stands.
use Rattle.std.specs.Prelude.{◌≡◌, Bool, not, ◌&&◌, cond, List, ℕ, ◌+◌, ◌-◌, ◌^◌, ◌<◌, ◌≤◌, nat_lt, ℤ, pos, length, get_or, None}
use Rattle.answer.specs.Lists.{tabulate}
use Rattle.entries.specs.Entry.{means, first_bad, in_order}
use Rattle.calls.specs.declared.Part.{Part}
use Rattle.calls.specs.declared.Shape.{Shape}
use Rattle.calls.specs.declared.parts.Parts.{Parts}
use Rattle.calls.specs.Places.{Shaped, is_block, part_byte, part_place, in_word}

-- how many animals or markers a file has
abbrev pub count_of : Bool → Shape → ℕ
count_of animals shape = cond animals shape.iids shape.sids

-- the number that entry k means
unfoldable pub entry_number : Shape → Bool → List ℤ → ℕ → ℕ
entry_number shape animals list k = means (count_of animals shape) (get_or list k (pos 0))

-- what that number adds to the byte
unfoldable pub entry_byte : Shape → Bool → List ℤ → ℕ → ℕ
entry_byte shape animals list k = part_byte (is_block shape.mode1 animals) shape.width (entry_number shape animals list k)

-- and to the place in it
unfoldable pub entry_place : Shape → Bool → List ℤ → ℕ → ℕ
entry_place shape animals list k = part_place (is_block shape.mode1 animals) (entry_number shape animals list k)

-- whether the entries are the items of a block, in order
abbrev pub is_along_block : Shape → Bool → List ℤ → Bool
is_along_block shape animals list = not (is_block shape.mode1 animals) && in_order (count_of animals shape) list

-- how many entries are resolved at once
abbrev pub at_once : Shape → Bool → ℕ
at_once shape animals = cond (is_block shape.mode1 animals) 128 2048

-- 2,048 numbers: f k at each place k before n, and past it those of a list
unfoldable pub begun_with : ℕ → (ℕ → ℕ) → List ℕ → List ℕ
begun_with n f old = tabulate 2048 (λ k. cond (nat_lt k n) (f k) (get_or old k 0))

-- bytes that begin with what the entries add to the byte, as far as 64 bits hold it, and places that begin with what they add to the place
abbrev pub with_bytes : Shape → Bool → List ℤ → List ℕ → List ℕ
with_bytes shape animals list = begun_with (length list) (λ k. in_word (entry_byte shape animals list k))

abbrev pub with_places : Shape → Bool → List ℤ → List ℕ → List ℕ
with_places shape animals list = begun_with (length list) (entry_place shape animals list)

-- ---- what private functions of the crates above speak in
-- an accepted file, whose counts 64 bits hold, and two good lists: the outer one is of animals (true) or of markers, the inner one of the other kind
pub record Ready (file : List ℕ) (shape : Shape) (animals : Bool) (outer inner : List ℤ) : Type 0 where
  pub shaped : Shaped file shape
  pub iids_fit : shape.iids < 2 ^ 64
  pub sids_fit : shape.sids < 2 ^ 64
  pub outer_good : first_bad (count_of animals shape) outer ≡ None
  pub inner_good : first_bad (count_of (not animals) shape) inner ≡ None

-- what entry k of a good list adds
pub record IsEntryPart (shape : Shape) (animals : Bool) (list : List ℤ) (k : ℕ) (part : Part) : Type 0 where
  pub byte_is : part.byte ≡ entry_byte shape animals list k
  pub place_is : part.place ≡ entry_place shape animals list k

-- what the entries of a good list from `from` to `until` add
pub record EntryParts (shape : Shape) (animals : Bool) (list : List ℤ) (from until : ℕ) (parts : Parts) : Type 0 where
  pub byte_is : (k : ℕ) → k < until - from → get_or parts.bytes k 0 ≡ entry_byte shape animals list (from + k)
  pub place_is : (k : ℕ) → k < until - from → get_or parts.places k 0 ≡ entry_place shape animals list (from + k)

-- bytes in the file and places in a byte: those of a line, with those of the first n entries of the parts
pub record Inside (file : List ℕ) (byte place : ℕ) (parts : Parts) (n : ℕ) : Type 0 where
  pub bound : n ≤ 2048
  pub byte_in : (k : ℕ) → k < n → byte + get_or parts.bytes k 0 < length file
  pub place_in : (k : ℕ) → k < n → place + get_or parts.places k 0 < 4
