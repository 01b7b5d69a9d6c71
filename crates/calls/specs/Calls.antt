-- The calls of a file.
use Rattle.std.specs.Prelude.{Bool, true, false, List, ℕ, ◌+◌, ◌*◌, take, drop}
use Rattle.blocks.specs.Block.{block_width}
use Rattle.codes.specs.Code.{item_code}
use Rattle.bed_file.specs.File.{is_mode1}

-- "Its blocks stand in order from byte 3.": block b, of blocks for a number of items
unfoldable pub block : List ℕ → ℕ → ℕ → List ℕ
block file items b = take (block_width items) (drop (3 + b * block_width items) file)

-- "The call of animal a at marker m is held in the code of item a of block m in mode 1, of item m of block a in mode 0"
unfoldable pub code_in : Bool → List ℕ → ℕ → ℕ → ℕ → ℕ → ℕ
code_in true file iids sids a m = item_code (block file iids m) a
code_in false file iids sids a m = item_code (block file sids a) m

unfoldable pub call_code : List ℕ → ℕ → ℕ → ℕ → ℕ → ℕ
unfolding code_in
call_code file iids sids a m = code_in (is_mode1 file) file iids sids a m
