-- Computed examples: file F of document 01, "5 animals, 2 markers: 6C 1B 01 E4 00 2F 02".
use mathlib.Core.Path.{◌≡◌, refl}
use mathlib.Core.List.{List, [], ◌∷◌}
use Prim.Native.Nat.{ℕ}
use lib.IntN.{pos, negsuc}
use Rattle.answer.specs.Answer.{done, refused, check, check_entry, check_count}
use Rattle.answer.specs.Lists.{tabulate, how_many}
use Rattle.blocks.specs.Block.{block_width, check_size}
use Rattle.entries.specs.Entry.{is_good, means, first_bad}
use Rattle.codes.specs.Code.{copies, code_at, item_code}
use Rattle.bed_file.specs.File.{is_mode1, items, blocks, check_file, check_open, check_mode, check_length}
use Rattle.calls.specs.Calls.{block, code_in, call_code}
use Rattle.bed_read.specs.Reading.{check_lists, file_order}
use Rattle.call_counts.specs.Counts.{counts_answer, same_copies, code_named, calls_with, counted, new_counts}

abbrev F : List ℕ
F = 0x6C ∷ 0x1B ∷ 1 ∷ 0xE4 ∷ 0x00 ∷ 0x2F ∷ 0x02 ∷ []

-- the same calls in mode 0
abbrev twin : List ℕ
twin = 0x6C ∷ 0x1B ∷ 0 ∷ 0x0C ∷ 0x0D ∷ 0x0A ∷ 0x03 ∷ 0x08 ∷ []

-- F's values are 2, missing, 1, 0, 2 and 0, 0, 1, 2, 1
pub counts_of_F : new_counts F 5 2 (file_order 5) (file_order 2) ≡ 1 ∷ 1 ∷ 2 ∷ 1 ∷ 2 ∷ 2 ∷ 1 ∷ 0 ∷ []
unfolding new_counts calls_with how_many same_copies counted code_named copies means file_order tabulate call_code code_in is_mode1 block block_width item_code code_at
counts_of_F = refl

pub counts_in_mode_0 : new_counts twin 5 2 (file_order 5) (file_order 2) ≡ 1 ∷ 1 ∷ 2 ∷ 1 ∷ 2 ∷ 2 ∷ 1 ∷ 0 ∷ []
unfolding new_counts calls_with how_many same_copies counted code_named copies means file_order tabulate call_code code_in is_mode1 block block_width item_code code_at
counts_in_mode_0 = refl

-- the last animal twice and animal 1, at the last marker and at marker 0: a repeated entry counts again
pub counts_by_lists :
    new_counts F 5 2 (negsuc 0 ∷ negsuc 0 ∷ pos 1 ∷ []) (negsuc 0 ∷ pos 0 ∷ []) ≡ 1 ∷ 2 ∷ 0 ∷ 0 ∷ 0 ∷ 0 ∷ 2 ∷ 1 ∷ []
unfolding new_counts calls_with how_many same_copies counted code_named copies means tabulate call_code code_in is_mode1 block block_width item_code code_at
counts_by_lists = refl

-- four numbers a marker: 8 for the two markers, and neither 7 nor 6
pub eight_places : counts_answer F 5 2 (file_order 5) (file_order 2) 8 ≡ done []
unfolding counts_answer check_count check check_file check_open check_mode check_length check_size check_lists check_entry first_bad is_good is_mode1 items blocks block_width file_order tabulate
eight_places = refl

pub not_seven : counts_answer F 5 2 (file_order 5) (file_order 2) 7 ≡ refused 15 []
unfolding counts_answer check_count check file_order tabulate
not_seven = refl

pub not_six : counts_answer F 5 2 (file_order 5) (file_order 2) 6 ≡ refused 15 []
unfolding counts_answer check_count check file_order tabulate
not_six = refl

-- 15 comes before the file's own checks, and those before the lists'
pub order_of_checks :
    (counts_answer [] 5 2 (pos 5 ∷ []) (pos 2 ∷ []) 3 ≡ refused 15 [])
    × (counts_answer [] 5 2 (pos 5 ∷ []) (pos 2 ∷ []) 4 ≡ refused 1 [])
    × (counts_answer F 5 2 (pos 5 ∷ []) (pos 2 ∷ []) 4 ≡ refused 5 (pos 5 ∷ []))
    × (counts_answer F 5 2 (pos 4 ∷ []) (pos 2 ∷ []) 4 ≡ refused 6 (pos 2 ∷ []))
unfolding counts_answer check_count check check_file check_open check_mode check_length check_size check_lists check_entry first_bad is_good is_mode1 items blocks block_width
order_of_checks = (refl, refl, refl, refl)
