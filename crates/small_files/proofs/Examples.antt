-- Small files, computed: the theorems at three animals and two markers, and other shapes.
use mathlib.Core.Path.{◌≡◌, refl, sym, ap, subst, ◌∙◌}
use mathlib.Core.List.{List, [], ◌∷◌}
use Prim.Native.Nat.{ℕ, ◌-◌, ◌^◌, ◌≤◌}
use native.Mathlib.Omega.{arith}
use lib.Dec.{lit<, lit≤}
use lib.ListN.{length}
use Rattle.answer.specs.Answer.{done, if_done}
use Rattle.answer.specs.Lists.{tabulate}
use Rattle.answer.specs.Matrix.{matrix}
use Rattle.blocks.specs.Block.{block_width, file_length}
use Rattle.codes.specs.Code.{code_at, item_code, packed_byte, packed}
use Rattle.bed_file.specs.File.{is_mode1, items, blocks, check_file, accept_answer}
use Rattle.calls.specs.Calls.{block, code_in, call_code}
use Rattle.bed_write.specs.Writing.{joined, bed_file}
use Rattle.canonical.specs.Canonical.{canonical_answer, canonical_file, canonical_buffer}
use Rattle.small_files.specs.Serial.{digit, serial_code, serial_file}
use Rattle.small_files.specs.OneSerial.{IsSmall, codes_by_marker, digits, number_of, HasOneSerial, IsCanonical}
use Rattle.small_files.proofs.Theorems.{one_serial, every_canonical_file, every_own_canonical, every_serial, only_file, different_files}

-- ---- three animals, two markers: codes 1, 2, 3 and 0, 0, 2; as a number 1 × 1024 + 2 × 256 + 3 × 64 + 2
abbrev pub three_by_two : List ℕ
three_by_two = 0x6C ∷ 0x1B ∷ 0x01 ∷ 0x39 ∷ 0x20 ∷ []

pub digits_1730 : digits 6 1730 ≡ 1 ∷ 2 ∷ 3 ∷ 0 ∷ 0 ∷ 2 ∷ []
unfolding tabulate digit
digits_1730 = refl

pub number_1730 : number_of (1 ∷ 2 ∷ 3 ∷ 0 ∷ 0 ∷ 2 ∷ []) ≡ 1730
unfolding number_of
number_1730 = refl

pub serial_1730 : serial_file 3 2 1730 ≡ three_by_two
unfolding serial_file serial_code digit bed_file joined packed packed_byte block_width tabulate
serial_1730 = refl

-- the one serial that these bytes can have
pub only_1730 : (file : List ℕ) → file ≡ three_by_two → (h : HasOneSerial 3 2 file) → h.serial ≡ 1730
only_1730 file e h = sym (h.no_other 1730 (lit< tt) (serial_1730 ∙ sym e))

-- the same calls in mode 0, the first animal's pads not zero
abbrev pub in_mode0 : List ℕ
in_mode0 = 0x6C ∷ 0x1B ∷ 0x00 ∷ 0xF1 ∷ 0x02 ∷ 0x0B ∷ []

abbrev pub five : List ℕ
five = 7 ∷ 7 ∷ 7 ∷ 7 ∷ 7 ∷ []

pub mode_0_left : canonical_buffer in_mode0 3 2 five ≡ three_by_two
unfolding canonical_buffer canonical_answer check_file canonical_file bed_file joined is_mode1 items blocks block_width call_code code_in block item_code code_at packed packed_byte tabulate if_done
mode_0_left = refl

is_small : IsSmall 3 2
is_small = record { at_least_1 = lit≤ tt; at_most_8 = lit≤ tt }

mode_0_accepted : accept_answer in_mode0 3 2 ≡ done []
unfolding accept_answer check_file is_mode1 items blocks block_width
mode_0_accepted = refl

five_long : length five ≡ file_length 3 2
unfolding block_width
five_long = refl

pub mode_0_one_serial : HasOneSerial 3 2 (canonical_buffer in_mode0 3 2 five)
mode_0_one_serial = (every_canonical_file 3 2 is_small in_mode0 mode_0_accepted five five_long).1

pub mode_0_serial : mode_0_one_serial.serial ≡ 1730
mode_0_serial = only_1730 (canonical_buffer in_mode0 3 2 five) mode_0_left mode_0_one_serial

pub mode_0_done : canonical_answer in_mode0 3 2 (length five) ≡ done []
mode_0_done = (every_canonical_file 3 2 is_small in_mode0 mode_0_accepted five five_long).0

-- the file of 1730 is canonical, has these codes, and is the only one that has
pub is_canonical : IsCanonical 3 2 three_by_two
is_canonical = subst (IsCanonical 3 2) serial_1730 (every_serial 3 2 is_small 1730).0

pub is_left_there : canonical_buffer three_by_two 3 2 five ≡ three_by_two
is_left_there = is_canonical.is_left five five_long

pub has_codes : codes_by_marker 3 2 three_by_two ≡ 1 ∷ 2 ∷ 3 ∷ 0 ∷ 0 ∷ 2 ∷ []
has_codes = sym (ap (codes_by_marker 3 2) serial_1730) ∙ (every_serial 3 2 is_small 1730).1 ∙ digits_1730

codes_computed : codes_by_marker 3 2 three_by_two ≡ digits 6 1730
unfolding matrix tabulate call_code code_in is_mode1 block block_width item_code code_at digit
codes_computed = refl

pub is_only_file : three_by_two ≡ serial_file 3 2 1730
is_only_file = only_file 3 2 is_small 1730 (lit< tt) three_by_two is_canonical codes_computed

pub own_one_serial : HasOneSerial 3 2 three_by_two
own_one_serial = every_own_canonical 3 2 is_small three_by_two is_canonical

pub own_serial : own_one_serial.serial ≡ 1730
own_serial = only_1730 three_by_two refl own_one_serial

-- 1730 and 1731 differ in the last animal at the last marker
pub serial_1731 : serial_file 3 2 1731 ≡ 0x6C ∷ 0x1B ∷ 0x01 ∷ 0x39 ∷ 0x30 ∷ []
unfolding serial_file serial_code digit bed_file joined packed packed_byte block_width tabulate
serial_1731 = refl

pub differ : serial_file 3 2 1730 ≡ serial_file 3 2 1731 → ⊥
differ = different_files 3 2 1730 1731 (lit< tt) (lit< tt) (λ e. omega arith)

-- 4096 is 4 to the power of 6: it would give the file of 0 again
pub past_the_limit : serial_file 3 2 4096 ≡ serial_file 3 2 0
unfolding serial_file serial_code digit bed_file joined packed packed_byte block_width tabulate
past_the_limit = refl

-- ---- other shapes: the first marker of 01's file F, whose code 0 of the first animal is a digit too; the same for one animal at five markers; the last of
-- eight calls
pub five_by_one : serial_file 5 1 108 ≡ 0x6C ∷ 0x1B ∷ 0x01 ∷ 0xE4 ∷ 0x00 ∷ []
unfolding serial_file serial_code digit bed_file joined packed packed_byte block_width tabulate
five_by_one = refl

pub one_by_five : serial_file 1 5 108 ≡ 0x6C ∷ 0x1B ∷ 0x01 ∷ 0x00 ∷ 0x01 ∷ 0x02 ∷ 0x03 ∷ 0x00 ∷ []
unfolding serial_file serial_code digit bed_file joined packed packed_byte block_width tabulate
one_by_five = refl

pub two_by_four : serial_file 2 4 65535 ≡ 0x6C ∷ 0x1B ∷ 0x01 ∷ 0x0F ∷ 0x0F ∷ 0x0F ∷ 0x0F ∷ []
unfolding serial_file serial_code digit bed_file joined packed packed_byte block_width tabulate
two_by_four = refl

-- ---- ten calls, which the law for any two counts holds for too: 01's file F, from its file of mode 0
abbrev pub F : List ℕ
F = 0x6C ∷ 0x1B ∷ 0x01 ∷ 0xE4 ∷ 0x00 ∷ 0x2F ∷ 0x02 ∷ []

abbrev pub F_in_mode_0 : List ℕ
F_in_mode_0 = 0x6C ∷ 0x1B ∷ 0x00 ∷ 0x0C ∷ 0x0D ∷ 0x0A ∷ 0x03 ∷ 0x08 ∷ []

F_accepted : accept_answer F_in_mode_0 5 2 ≡ done []
unfolding accept_answer check_file is_mode1 items blocks block_width
F_accepted = refl

F_left : canonical_buffer F_in_mode_0 5 2 F ≡ F
unfolding canonical_buffer canonical_answer check_file canonical_file bed_file joined is_mode1 items blocks block_width call_code code_in block item_code code_at packed packed_byte tabulate if_done
F_left = refl

F_short : file_length 5 2 ≤ 2 ^ 64 - 1
unfolding block_width
F_short = lit≤ tt

F_long : length F ≡ file_length 5 2
unfolding block_width
F_long = refl

serial_of_F : serial_file 5 2 111586 ≡ F
unfolding serial_file serial_code digit bed_file joined packed packed_byte block_width tabulate
serial_of_F = refl

pub F_one_serial : HasOneSerial 5 2 (canonical_buffer F_in_mode_0 5 2 F)
F_one_serial = one_serial F_in_mode_0 5 2 F_accepted F_short F F_long

pub F_serial : F_one_serial.serial ≡ 111586
F_serial = sym (F_one_serial.no_other 111586 (lit< tt) (serial_of_F ∙ sym F_left))
