-- What only private functions speak in: a buffer that is begun, and the bytes of a block by the mode of the file.
use Rattle.std.specs.Prelude.{◌≡◌, true, List, ℕ, zero, suc, ◌+◌, ◌%◌, ◌<◌, length, get_or}
use Rattle.codes.specs.Code.{group_byte, code_at}
use Rattle.calls.specs.declared.Part.{Part}
use Rattle.calls.specs.declared.Shape.{Shape}
use Rattle.calls.specs.Places.{is_block, part_byte, in_word}
use Rattle.canonical.specs.Canonical.{canonical_file}

-- a buffer that is as long as the canonical file and has its header
pub record Begun (file : List ℕ) (shape : Shape) (out : List ℕ) : Type 0 where
  pub long : length out ≡ length (canonical_file file shape.iids shape.sids)
  pub head : (p : ℕ) → p < 3 → get_or out p 0 ≡ get_or (canonical_file file shape.iids shape.sids) p 0

-- ---- mode 1
-- a byte whose first `left` places have items: the others cleared
unfoldable pub kept_byte : ℕ → ℕ → ℕ
kept_byte zero byte = 0
kept_byte (suc zero) byte = byte % 4
kept_byte (suc (suc zero)) byte = byte % 16
kept_byte (suc (suc (suc zero))) byte = byte % 64
kept_byte (suc (suc (suc (suc left)))) byte = byte

-- ---- mode 0
-- where the blocks of the four animals from `first` on start
pub record Starts (shape : Shape) (first : ℕ) (starts : List ℕ) : Type 0 where
  pub start_is : (j : ℕ) → j < 4 → get_or starts j 0 ≡ in_word (part_byte (is_block shape.mode1 true) shape.width (first + j))

-- the code of an item in block j of a group
unfoldable pub group_code : List ℕ → List ℕ → Part → ℕ → ℕ
group_code file starts item j = code_at (get_or file (get_or starts j 0 + item.byte) 0) item.place

-- it stands in the file, in each of the `left` blocks of the group
pub record GroupInside (file starts : List ℕ) (left : ℕ) (item : Part) : Type 0 where
  pub byte_in : (j : ℕ) → j < 4 → j < left → get_or starts j 0 + item.byte < length file
  pub place_in : item.place < 4

-- the byte of four codes
abbrev pub four_byte : (ℕ → ℕ) → ℕ
four_byte f = group_byte (f 0) (f 1) (f 2) (f 3)
