-- Codes: where an item's two bits stand, the table of all of them, and a packed block.
use Rattle.std.specs.Prelude.{List, ℕ, zero, suc, ◌+◌, ◌*◌, ◌/◌, ◌%◌, ◌^◌, length, get_or}
use Rattle.std.specs.Prelude.{Option, Some, None}
use Rattle.answer.specs.Lists.{tabulate}
use Rattle.blocks.specs.Block.{block_width}

-- "Item i has bits 2(i mod 4) and the next, of byte i/4.": the code at a place, 0 to 3, of a byte
unfoldable pub code_at : ℕ → ℕ → ℕ
code_at byte place = byte / 2 ^ (2 * place) % 4

-- the code of item i of a block
unfoldable pub item_code : List ℕ → ℕ → ℕ
item_code block i = code_at (get_or block (i / 4) 0) (i % 4)

-- "Codes: 0 two copies of the first allele, 1 missing, 2 one, 3 none."
unfoldable pub copies : ℕ → Option ℕ
copies zero = Some 2
copies (suc zero) = None
copies (suc (suc zero)) = Some 1
copies (suc (suc (suc n))) = Some 0

-- "A table of 1,024 entries gives the code for every byte and place.": place p of byte b at 4 × b + p
unfoldable pub code_table : List ℕ
code_table = tabulate 1024 (λ k. code_at (k / 4) (k % 4))

-- the byte of four codes, the first in the low bits
abbrev pub group_byte : ℕ → ℕ → ℕ → ℕ → ℕ
group_byte c0 c1 c2 c3 = c0 % 4 + 4 * (c1 % 4) + 16 * (c2 % 4) + 64 * (c3 % 4)

-- byte b of a packed block of codes. "Pads are zero": a place past the codes holds 0.
unfoldable pub packed_byte : List ℕ → ℕ → ℕ
packed_byte codes b =
    get_or codes (4 * b) 0 + 4 * get_or codes (4 * b + 1) 0 + 16 * get_or codes (4 * b + 2) 0 + 64 * get_or codes (4 * b + 3) 0

-- the packed block of a list of codes
unfoldable pub packed : List ℕ → List ℕ
packed codes = tabulate (block_width (length codes)) (packed_byte codes)
