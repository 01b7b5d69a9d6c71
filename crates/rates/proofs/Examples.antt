-- Computed reports: "For F of document 01 it prints `0 0 1 1 2 1`, `0 1 2 2 1 0`, `all 3 3 3 1`", and small inputs at each edge.
use mathlib.Core.Path.{◌≡◌, refl, ◌∙◌}
use mathlib.Core.List.{List, [], ◌∷◌, ◌++◌, flat_map}
use Prim.Native.Nat.{ℕ, ◌^◌, ◌-◌}
use native.Mathlib.Omega.{arith}
use Rattle.answer.specs.Answer.{check, check_count, if_done}
use Rattle.answer.specs.Lists.{tabulate, how_many}
use Rattle.blocks.specs.Block.{block_width, check_size}
use Rattle.entries.specs.Entry.{means}
use Rattle.codes.specs.Code.{copies, code_at, item_code}
use Rattle.bed_file.specs.File.{is_mode1, items, blocks, check_file, check_open, check_mode, check_length, accept_answer}
use Rattle.calls.specs.Calls.{block, code_in, call_code}
use Rattle.bed_read.specs.Reading.{file_order}
use Rattle.call_counts.specs.Counts.{same_copies, code_named, calls_with}
use Rattle.product.specs.Values.{le_number}
use Rattle.rates.specs.Text.{ascii, digits, decimal}
use Rattle.rates.specs.Input.{number_at, file_bytes, check_record, record_at, goes_on, records, run}
use Rattle.rates.specs.Report.{marker_counts, no_calls, plus, totals, printed_markers, record_counts, line, marker_line, refused_line, all_line, marker_lines, lines_by, record_lines, lines_from, report}
use Rattle.rates.proofs.Reports.{report_from_law, from_too_long_more}

-- ---- numbers
pub in_decimal : (decimal 0 ≡ ascii "0") × (decimal 10 ≡ ascii "10") × (decimal 65536 ≡ ascii "65536") × (decimal (2 ^ 64 - 1) ≡ ascii "18446744073709551615")
unfolding decimal digits ascii
in_decimal = (refl, refl, refl, refl)

-- the first byte is the lowest
pub low_byte_first : number_at (9 ∷ 1 ∷ 2 ∷ 0 ∷ 0 ∷ 0 ∷ 0 ∷ 0 ∷ 0 ∷ 9 ∷ []) 1 ≡ 513
unfolding number_at le_number
low_byte_first = refl

-- ---- reports. To unfold this is to unfold all that a report computes by
computing : List ℕ → List ℕ
unfolding report run records record_at goes_on check_record number_at le_number check accept_answer check_count check_file check_open check_mode check_length check_size is_mode1 items blocks block_width
    lines_from record_lines lines_by marker_lines marker_line refused_line all_line line decimal digits ascii flat_map record_counts printed_markers totals plus marker_counts if_done tabulate
    calls_with how_many same_copies code_named copies means file_order call_code code_in block item_code code_at
computing input = report input

-- 8 bytes of a number below 256, and a record
abbrev eight : ℕ → List ℕ
eight n = n ∷ 0 ∷ 0 ∷ 0 ∷ 0 ∷ 0 ∷ 0 ∷ 0 ∷ []

abbrev record_of : ℕ → ℕ → ℕ → List ℕ → List ℕ
record_of iids sids bytes file = eight iids ++ (eight sids ++ (eight bytes ++ file))

-- "File F, 5 animals, 2 markers: 6C 1B 01 E4 00 2F 02", with another last byte
abbrev ending : ℕ → List ℕ
ending b = 0x6C ∷ 0x1B ∷ 1 ∷ 0xE4 ∷ 0x00 ∷ 0x2F ∷ b ∷ []

abbrev of_f : List ℕ
of_f = record_of 5 2 7 (ending 0x02)

pub report_of_F : report of_f ≡ ascii "0 0 1 1 2 1\n0 1 2 2 1 0\nall 3 3 3 1\n"
unfolding computing
report_of_F = refl

-- "Last byte F2: same": pads are not counted
pub report_with_pads : report (record_of 5 2 7 (ending 0xF2)) ≡ ascii "0 0 1 1 2 1\n0 1 2 2 1 0\nall 3 3 3 1\n"
unfolding computing
report_with_pads = refl

-- the same calls in mode 0: a marker's calls stand in five blocks
abbrev of_twin : List ℕ
of_twin = record_of 5 2 8 (0x6C ∷ 0x1B ∷ 0 ∷ 0x0C ∷ 0x0D ∷ 0x0A ∷ 0x03 ∷ 0x08 ∷ [])

pub report_in_mode_0 : report of_twin ≡ ascii "0 0 1 1 2 1\n0 1 2 2 1 0\nall 3 3 3 1\n"
unfolding computing
report_in_mode_0 = refl

-- one byte too many: the file's own refusal, and the run goes on
abbrev of_longer : List ℕ
of_longer = record_of 5 2 8 (ending 0x02 ++ (0 ∷ []))

pub report_of_longer : report of_longer ≡ ascii "0 refused 2\nall 0 0 0 0\n"
unfolding computing
report_of_longer = refl

-- refused files have numbers too
pub two_refused : report (of_longer ++ of_longer) ≡ ascii "0 refused 2\n1 refused 2\nall 0 0 0 0\n"
unfolding computing
two_refused = refl

pub three_in_turn : report (of_f ++ (of_longer ++ of_twin)) ≡ ascii "0 0 1 1 2 1\n0 1 2 2 1 0\n1 refused 2\n2 0 1 1 2 1\n2 1 2 2 1 0\nall 6 6 6 2\n"
unfolding computing
three_in_turn = refl

-- no animals: nothing is printed, in either mode
pub no_animals : report (record_of 0 9 3 (0x6C ∷ 0x1B ∷ 1 ∷ [])) ≡ ascii "all 0 0 0 0\n"
unfolding computing
no_animals = refl

-- with 2^63 − 1 markers too, and at once
pub no_animals_many_markers : report (eight 0 ++ ((0xFF ∷ 0xFF ∷ 0xFF ∷ 0xFF ∷ 0xFF ∷ 0xFF ∷ 0xFF ∷ 0x7F ∷ []) ++ (eight 3 ++ (0x6C ∷ 0x1B ∷ 1 ∷ [])))) ≡ ascii "all 0 0 0 0\n"
unfolding computing
no_animals_many_markers = refl

-- no markers: nothing is printed either
pub no_markers : report (record_of 9 0 3 (0x6C ∷ 0x1B ∷ 1 ∷ [])) ≡ ascii "all 0 0 0 0\n"
unfolding computing
no_markers = refl

-- no byte: "`all` and the four totals"
pub no_input : report [] ≡ ascii "all 0 0 0 0\n"
unfolding computing
no_input = refl

-- ---- 21 and 22
-- F without its last byte: 22 and not the file's own 2
pub cut_record : report (record_of 5 2 7 (0x6C ∷ 0x1B ∷ 1 ∷ 0xE4 ∷ 0x00 ∷ 0x2F ∷ [])) ≡ ascii "0 refused 22\nall 0 0 0 0\n"
unfolding computing
cut_record = refl

-- the lines of the records before it stay
pub cut_behind_F : report (of_f ++ (5 ∷ [])) ≡ ascii "0 0 1 1 2 1\n0 1 2 2 1 0\n1 refused 22\nall 3 3 3 1\n"
unfolding computing
cut_behind_F = refl

-- 23 bytes of a header, though those of the length are all FF
pub cut_header : report (eight 5 ++ (eight 2 ++ (0xFF ∷ 0xFF ∷ 0xFF ∷ 0xFF ∷ 0xFF ∷ 0xFF ∷ 0xFF ∷ []))) ≡ ascii "0 refused 22\nall 0 0 0 0\n"
unfolding computing
cut_header = refl

-- a header with a length of 65,536 or 65,537
abbrev header_of : ℕ → List ℕ
header_of low = eight 5 ++ (eight 2 ++ (low ∷ 0 ∷ 1 ∷ 0 ∷ 0 ∷ 0 ∷ 0 ∷ 0 ∷ []))

pub at_the_limit : report (header_of 0) ≡ ascii "0 refused 22\nall 0 0 0 0\n"
unfolding computing
at_the_limit = refl

-- 21 before 22
pub past_the_limit : report (header_of 1) ≡ ascii "0 refused 21\nall 0 0 0 0\n"
unfolding computing
past_the_limit = refl

-- 21 ends the run, whatever stands behind the header
header_read : (file_bytes (header_of 1) ≡ 65537) × (refused_line 0 21 ++ all_line no_calls ≡ ascii "0 refused 21\nall 0 0 0 0\n")
unfolding computing
header_read = (refl, refl)

pub ended_by_21 : (more : List ℕ) → report (header_of 1 ++ more) ≡ ascii "0 refused 21\nall 0 0 0 0\n"
ended_by_21 more =
    report_from_law (header_of 1 ++ more) ∙ from_too_long_more 0 no_calls 999999 (header_of 1) more (omega arith) (let e = header_read.0 in omega arith) ∙ header_read.1

-- both before the file's own checks, 18 among them: 2^63 animals
pub past_the_limit_before_18 : report ((0 ∷ 0 ∷ 0 ∷ 0 ∷ 0 ∷ 0 ∷ 0 ∷ 0x80 ∷ []) ++ (eight 2 ++ (1 ∷ 0 ∷ 1 ∷ 0 ∷ 0 ∷ 0 ∷ 0 ∷ 0 ∷ []))) ≡ ascii "0 refused 21\nall 0 0 0 0\n"
unfolding computing
past_the_limit_before_18 = refl

-- 18 is the file's own, and the run goes on
pub refused_18 : report (((0 ∷ 0 ∷ 0 ∷ 0 ∷ 0 ∷ 0 ∷ 0 ∷ 0x80 ∷ []) ++ (eight 2 ++ eight 0)) ++ of_f) ≡ ascii "0 refused 18\n1 0 1 1 2 1\n1 1 2 2 1 0\nall 3 3 3 1\n"
unfolding computing
refused_18 = refl
