-- What is read back at small files, the hypotheses closed by computation.
use mathlib.Core.Path.{◌≡◌, refl, ◌∙◌}
use mathlib.Core.Bool.{Bool, true}
use mathlib.Core.List.{List, [], ◌∷◌}
use Prim.Native.Nat.{ℕ, ◌-◌, ◌^◌, ◌≤◌, ◌<◌}
use lib.Dec.{lit≤}
use lib.IntN.{ℤ, pos, negsuc}
use lib.Ieee.{Float, nan, fin, eq}
use lib.ListN.{length, get_or}
use Rattle.answer.specs.Answer.{is_done}
use Rattle.blocks.specs.Block.{block_width, file_length, check_size}
use Rattle.codes.specs.Code.{packed_byte, packed}
use Rattle.answer.specs.Lists.{tabulate}
use Rattle.answer.specs.Matrix.{matrix_place}
use Rattle.codes.specs.Value.{i8, float, code_of, same_int, same_or_nan}
use Rattle.codes.proofs.ValueLaws.{i8_numbers, NoNumber}
use Rattle.bed_file.specs.File.{is_mode1, items, blocks, accept_answer}
use Rattle.bed_read.specs.Reading.{file_order, read_buffer}
use Rattle.bed_write.specs.Packing.{place_code, or_zero, packed_codes, first_of, if_bad}
use Rattle.bed_write.specs.Writing.{value_code, first_bad_call, check_call, check_buffers, write_answer, write_buffer}
use Rattle.canonical.specs.Canonical.{canonical_buffer}
use Rattle.canonical.proofs.Examples.{canonical_of_mode_0}
use Rattle.demands.specs.ReadBack.{EqualOrBothNan}
use Rattle.demands.proofs.WriteLaws.{written_canonical}
use Rattle.demands.proofs.ReadBack.{written_read_back, written_read_back_i8, written_read_back_f64, read_written}

-- "i8 column 0, −127, 1, 2, 2, counted, missing −127: 27 00"
abbrev pub column : List ℤ
column = pos 0 ∷ negsuc 126 ∷ pos 1 ∷ pos 2 ∷ pos 2 ∷ []

pub packed_column : packed_codes 5 (place_code i8 true (negsuc 126) column) ≡ 0x27 ∷ 0x00 ∷ []
unfolding packed_codes packed packed_byte tabulate block_width place_code code_of same_int same_or_nan or_zero
packed_column = refl

abbrev five : List ℕ
five = 9 ∷ 9 ∷ 9 ∷ 9 ∷ 9 ∷ []

column_writable : is_done (write_answer 5 1 (value_code i8 true (negsuc 126) true 5 1 column) (length column) (length five)) ≡ true
unfolding write_answer check_buffers check_size check_call first_bad_call first_of if_bad value_code place_code matrix_place code_of same_int same_or_nan block_width
column_writable = refl

-- the column 0, −127, 1, 2, 2 written and read back: the animal 1 is missing
pub column_read_back :
    (later : Bool)
    → same_or_nan i8 (negsuc 126)
    (get_or
    (read_buffer i8 (write_buffer 5 1 (value_code i8 true (negsuc 126) true 5 1 column) 5 five) 5 1 true (file_order 5) (file_order 1) (negsuc 126) later column)
    (matrix_place later 5 1 1 0) (negsuc 126))
    ≡ true
unfolding matrix_place
column_read_back later = (written_read_back i8 true (negsuc 126) 5 1 true column five column_writable later column refl).1 1 0 (lit≤ tt) (lit≤ tt)

-- the integer itself
pub column_read_back_i8 :
    (later : Bool)
    → get_or
    (read_buffer i8 (write_buffer 5 1 (value_code i8 true (negsuc 126) true 5 1 column) 5 five) 5 1 true (file_order 5) (file_order 1) (negsuc 126) later column)
    (matrix_place later 5 1 1 0) (negsuc 126)
    ≡ negsuc 126
unfolding matrix_place
column_read_back_i8 later = written_read_back_i8 true (negsuc 126) 5 1 true column five column_writable later column refl 1 0 (lit≤ tt) (lit≤ tt)

five_long : length five ≡ file_length 5 1
unfolding block_width
five_long = refl

-- the canonical file of its file is that file
pub column_canonical :
    canonical_buffer (write_buffer 5 1 (value_code i8 true (negsuc 126) true 5 1 column) 5 five) 5 1 five ≡ write_buffer 5 1 (value_code i8 true (negsuc 126) true 5 1 column) 5 five
column_canonical = (written_canonical i8 true (negsuc 126) true 5 1 column five column_writable five five_long).1

-- −0.0 and NaN, with missing NaN: what is read back is equal by number, and NaN
abbrev zero_and_nan : List Float
zero_and_nan = fin true 0 (pos 0) ∷ nan ∷ []

abbrev four : List ℕ
four = 9 ∷ 9 ∷ 9 ∷ 9 ∷ []

zero_writable : is_done (write_answer 2 1 (value_code float true nan true 2 1 zero_and_nan) (length zero_and_nan) (length four)) ≡ true
unfolding write_answer check_buffers check_size check_call first_bad_call first_of if_bad value_code place_code matrix_place code_of eq same_or_nan block_width
zero_writable = refl

pub zero_read_back :
    (later : Bool) (a : ℕ) → a < 2
    → EqualOrBothNan (get_or zero_and_nan (matrix_place true 2 1 a 0) nan)
    (get_or
    (read_buffer float (write_buffer 2 1 (value_code float true nan true 2 1 zero_and_nan) 2 four) 2 1 true (file_order 2) (file_order 1) nan later zero_and_nan)
    (matrix_place later 2 1 a 0) nan)
zero_read_back later a h = written_read_back_f64 true nan 2 1 true zero_and_nan four zero_writable later zero_and_nan refl a 0 h (lit≤ tt)

abbrev in_mode0 : List ℕ
in_mode0 = 0x6C ∷ 0x1B ∷ 0 ∷ 0x0C ∷ 0x0D ∷ 0x0A ∷ 0x03 ∷ 0x08 ∷ []

mode_0_accepted : is_done (accept_answer in_mode0 5 2) ≡ true
unfolding accept_answer is_mode1 items blocks block_width
mode_0_accepted = refl

short : file_length 5 2 ≤ 2 ^ 64 - 1
unfolding block_width
short = lit≤ tt

-- −127 is none of 0, 1, 2
no_number : NoNumber i8 (negsuc 126)
unfolding same_int
no_number = record { not_zero = refl; not_one = refl; not_two = refl }

abbrev ten : List ℤ
ten = pos 9 ∷ pos 9 ∷ pos 9 ∷ pos 9 ∷ pos 9 ∷ pos 9 ∷ pos 9 ∷ pos 9 ∷ pos 9 ∷ pos 9 ∷ []

abbrev seven : List ℕ
seven = 9 ∷ 9 ∷ five

seven_long : length seven ≡ file_length 5 2
unfolding block_width
seven_long = refl

-- the mode 0 file read as i8 and written is F, under either flag and by either matrix order
pub mode_0_read_written :
    (flag order : Bool)
    → write_buffer 5 2
    (value_code i8 flag (negsuc 126) order 5 2 (read_buffer i8 in_mode0 5 2 flag (file_order 5) (file_order 2) (negsuc 126) order ten))
    (length (read_buffer i8 in_mode0 5 2 flag (file_order 5) (file_order 2) (negsuc 126) order ten)) seven
    ≡ 0x6C ∷ 0x1B ∷ 1 ∷ 0xE4 ∷ 0x00 ∷ 0x2F ∷ 0x02 ∷ []
mode_0_read_written flag order =
    (read_written i8 i8_numbers flag (negsuc 126) no_number in_mode0 5 2 mode_0_accepted short order ten refl seven seven_long).2 ∙ canonical_of_mode_0
