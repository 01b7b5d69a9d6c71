-- The theorems at small blocks, their hypotheses closed by computation.
use mathlib.Core.Path.{◌≡◌, refl}
use mathlib.Core.Bool.{true}
use mathlib.Core.List.{List, [], ◌∷◌}
use Prim.Native.Nat.{ℕ}
use lib.Dec.{lit≤}
use lib.IntN.{ℤ, pos, negsuc}
use lib.ListN.{get_or}
use Rattle.answer.specs.Answer.{refused, check, check_count, is_done, if_done}
use Rattle.blocks.specs.Block.{block_width}
use Rattle.codes.specs.Code.{packed_byte, packed}
use Rattle.answer.specs.Lists.{tabulate}
use Rattle.codes.specs.Value.{i8, same_int, same_or_nan, code_of}
use Rattle.bed_write.specs.Packing.{place_code, or_zero, packed_codes, or_else, first_of, if_bad, first_bad_animal, check_animal}
use Rattle.block.specs.Blocks.{check_bytes, pack_answer, pack_buffer, decode_buffer}
use Rattle.block.proofs.Theorems.{packed_read_back, refused_unchanged}

-- "i8 column 0, −127, 1, 2, 2, counted, missing −127: 27 00."
abbrev column : List ℤ
column = pos 0 ∷ negsuc 126 ∷ pos 1 ∷ pos 2 ∷ pos 2 ∷ []

abbrev old : List ℕ
old = 9 ∷ 9 ∷ []

abbrev bytes : List ℕ
bytes = pack_buffer 5 5 (place_code i8 true (negsuc 126) column) old

column_packable : is_done (pack_answer 5 5 (place_code i8 true (negsuc 126) column) 2) ≡ true
unfolding pack_answer check_count check_bytes check check_animal first_bad_animal first_of or_else if_bad place_code code_of same_or_nan same_int block_width
column_packable = refl

pub column_bytes : bytes ≡ (0x27 ∷ 0x00 ∷ [])
unfolding pack_buffer pack_answer check_count check_bytes check check_animal first_bad_animal first_of or_else if_bad packed_codes packed packed_byte tabulate or_zero place_code code_of same_or_nan same_int block_width if_done
column_bytes = refl

-- read back, the animal 1 is missing
pub column_back : same_or_nan i8 (negsuc 126) (get_or (decode_buffer i8 true (negsuc 126) bytes 5 column) 1 (negsuc 126)) ≡ true
column_back = (packed_read_back i8 true (negsuc 126) 5 column old column_packable column refl).1 1 (lit≤ tt)

-- 3 is bad: animal 4, in the second group of four. Both bytes stay
abbrev with_three : List ℤ
with_three = pos 0 ∷ negsuc 126 ∷ pos 1 ∷ pos 2 ∷ pos 3 ∷ []

three_refused : pack_answer 5 5 (place_code i8 true (negsuc 126) with_three) 2 ≡ refused 7 (pos 4 ∷ [])
unfolding pack_answer check_count check_bytes check check_animal first_bad_animal first_of or_else if_bad place_code code_of same_or_nan same_int block_width
three_refused = refl

pub three_unchanged : pack_buffer 5 5 (place_code i8 true (negsuc 126) with_three) old ≡ 9 ∷ 9 ∷ []
three_unchanged = refused_unchanged 5 5 (place_code i8 true (negsuc 126) with_three) old 7 (pos 4 ∷ []) three_refused
