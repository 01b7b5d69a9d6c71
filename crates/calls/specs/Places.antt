-- Where a call stands: the shape of a file, and what an animal and a marker each add to the byte and to the place in it.
use Rattle.std.specs.Prelude.{◌≡◌, Bool, true, false, not, cond, List, ℕ, ◌+◌, ◌-◌, ◌*◌, ◌/◌, ◌%◌, ◌^◌, leb, length}
use Rattle.blocks.specs.Block.{block_width, file_length}
use Rattle.bed_file.specs.File.{is_mode1, items, blocks}
use Rattle.calls.specs.declared.Part.{Part}
use Rattle.calls.specs.declared.Shape.{Shape}

-- the shape of a file for two counts
pub record IsShape (file : List ℕ) (iids sids : ℕ) (shape : Shape) : Type 0 where
  pub mode_is : shape.mode1 ≡ is_mode1 file
  pub width_is : shape.width ≡ block_width (items (is_mode1 file) iids sids)
  pub iids_are : shape.iids ≡ iids
  pub sids_are : shape.sids ≡ sids

-- the shape of an accepted file
pub record Shaped (file : List ℕ) (shape : Shape) : Type 0 where
  pub mode_is : shape.mode1 ≡ is_mode1 file
  pub width_is : shape.width ≡ block_width (items shape.mode1 shape.iids shape.sids)
  pub length_is : length file ≡ file_length (items shape.mode1 shape.iids shape.sids) (blocks shape.mode1 shape.iids shape.sids)

-- whether the animals (true) or the markers are the blocks, by the mode
abbrev pub is_block : Bool → Bool → Bool
is_block mode1 animals = cond animals (not mode1) mode1

-- "Its blocks stand in order from byte 3.": a block's number (true) adds its first byte. "Item i has bits 2(i mod 4) and the next, of byte
-- i/4.": an item's number adds that byte of the block, and the place in the byte
unfoldable pub part_byte : Bool → ℕ → ℕ → ℕ
part_byte true width n = 3 + n * width
part_byte false width n = n / 4

unfoldable pub part_place : Bool → ℕ → ℕ
part_place true n = 0
part_place false n = n % 4

-- a number, or the greatest one of 64 bits, at which no file has a byte
unfoldable pub in_word : ℕ → ℕ
in_word n = cond (leb n (2 ^ 64 - 1)) n (2 ^ 64 - 1)

-- what the number n of a block (true) or of an item adds
pub record IsPart (is_block : Bool) (width n : ℕ) (part : Part) : Type 0 where
  pub byte_is : part.byte ≡ in_word (part_byte is_block width n)
  pub place_is : part.place ≡ part_place is_block n
