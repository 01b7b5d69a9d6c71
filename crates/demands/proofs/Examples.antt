-- Document 01's columns, and small matrices and files, computed. A root is known by `root_only`.
use mathlib.Core.Path.{◌≡◌, refl, sym, ap}
use mathlib.Core.Bool.{Bool, true, false, ◌||◌, cond}
use mathlib.Core.List.{List, [], ◌∷◌}
use Prim.Native.Nat.{ℕ}
use lib.IntN.{ℤ, pos, negsuc}
use lib.Dec.{lit<}
use lib.Ieee.{Float, nan, inf, fin, binary64, add, sub, mul, div, neg, le, lt, eq, is_nan, fits, of_bits, to_bits}
use Rattle.answer.specs.Answer.{done, if_done}
use Rattle.blocks.specs.Block.{block_width}
use Rattle.codes.specs.Code.{code_at, item_code}
use Rattle.entries.specs.Entry.{first_bad, is_good, means}
use Rattle.answer.specs.Lists.{tabulate}
use Rattle.answer.specs.Matrix.{matrix_place, matrix}
use Rattle.codes.specs.Value.{Width, values, value_of}
use Rattle.bed_file.specs.File.{is_mode1, items, blocks}
use Rattle.calls.specs.Calls.{block, code_in, call_code}
use Rattle.bed_read.specs.Reading.{read_answer, read_code, codes_read, values_read, read_buffer}
use Rattle.product.specs.Values.{le_number, float_at, floats_of, matrix_value, column, row}
use Rattle.product.specs.Dot.{dot, dot_from}
use Rattle.product.specs.Piece.{piece_of, ata_entry, aat_entry, ata_answer, ata_leaves, aat_answer, aat_leaves}
use Rattle.root.specs.Root.{count, IsRoot, root}
use Rattle.root.proofs.Roots.{root_only}
use Rattle.statistics.specs.declared.MarkerStats.{MarkerStats}
use Rattle.statistics.specs.declared.MarkerError.{MarkerError}
use Rattle.statistics.specs.Statistics.{found_with}
use Rattle.std.specs.Prelude.{Result, Ok}
use Rattle.statistics.specs.Statistics.{plus_zero, one, counted, accumulated, mean, variance, deviation, stats_of, no_value, marker_stats, found_for, is_infinite, standardised}
use Rattle.statistics.specs.Calls.{two}
use Rattle.standardise.specs.Standardised.{marker_answer, markers_answer, kept_or_new, lent_or_new, applied, value, found, lowest_refused, standardise_answer, new_stats, may_change, new_values, later_stats, later_values}

-- ---- columns, in either order: a matrix of one marker
abbrev pub old_stats : List Float
old_stats = nan ∷ two ∷ nan ∷ []

abbrev pub minus_one : Float
minus_one = fin true 1 (pos 0)

pub root_one : root binary64 one ≡ one
unfolding fits count of_bits to_bits
root_one = sym (root_only binary64 one one tt tt is_root)
  where
    is_root : IsRoot binary64 one one
    is_root = record { positive_finite = tt; above_lower = lit< tt; below_upper_law = lit< tt }

-- a mean with the deviation that a root gives, and an observed count
abbrev pub by_root : Float → Float → Float → Result MarkerStats MarkerError
by_root m observed s = Ok (found_with (record { mean = m; deviation = cond (is_nan s || le s plus_zero) (inf false) s }) observed)

-- "Column 0, 2, NaN: mean 1, deviation 1, values −1, 1, +0."
abbrev pub zero_two_nan : List Float
zero_two_nan = plus_zero ∷ two ∷ nan ∷ []

zero_two_found : (order : Bool) → found binary64 order 3 1 zero_two_nan false old_stats 0 ≡ Ok (found_with (record { mean = one; deviation = one }) two)
unfolding found found_for marker_stats no_value accumulated counted stats_of mean deviation variance value matrix_place is_nan add sub mul div neg le lt eq
zero_two_found true = ap (by_root one two) root_one
zero_two_found false = ap (by_root one two) root_one

pub zero_two_answer : (order : Bool) → standardise_answer binary64 order 3 1 zero_two_nan false old_stats ≡ done []
unfolding standardise_answer lowest_refused markers_answer marker_answer
zero_two_answer order = rw (zero_two_found order)

pub zero_two_stats : (order : Bool) → later_stats binary64 order 3 1 zero_two_nan false old_stats ≡ one ∷ one ∷ two ∷ []
unfolding later_stats new_stats kept_or_new lent_or_new matrix tabulate
zero_two_stats order = rw (zero_two_found order)

pub zero_two_values : (order : Bool) → later_values binary64 order 3 1 zero_two_nan false old_stats true ≡ minus_one ∷ one ∷ plus_zero ∷ []
unfolding later_values new_values may_change lowest_refused markers_answer marker_answer applied standardised is_infinite value matrix_place matrix tabulate is_nan add sub mul div neg
zero_two_values true = rw (zero_two_found true)
zero_two_values false = rw (zero_two_found false)

-- "Column 1, 1: deviation infinite, values +0."
abbrev pub one_one : List Float
one_one = one ∷ one ∷ []

one_one_found : (order : Bool) → found binary64 order 2 1 one_one false old_stats 0 ≡ Ok (found_with (record { mean = one; deviation = inf false }) two)
unfolding found found_for marker_stats no_value accumulated counted stats_of mean deviation variance root value matrix_place is_nan add sub mul div neg le lt eq
one_one_found true = refl
one_one_found false = refl

pub one_one_answer : (order : Bool) → standardise_answer binary64 order 2 1 one_one false old_stats ≡ done []
unfolding standardise_answer lowest_refused markers_answer marker_answer
one_one_answer order = rw (one_one_found order)

pub one_one_stats : (order : Bool) → later_stats binary64 order 2 1 one_one false old_stats ≡ one ∷ inf false ∷ two ∷ []
unfolding later_stats new_stats kept_or_new lent_or_new matrix tabulate
one_one_stats order = rw (one_one_found order)

pub one_one_values : (order : Bool) → later_values binary64 order 2 1 one_one false old_stats true ≡ plus_zero ∷ plus_zero ∷ []
unfolding later_values new_values may_change lowest_refused markers_answer marker_answer applied standardised is_infinite value matrix_place matrix tabulate is_nan
one_one_values true = rw (one_one_found true)
one_one_values false = rw (one_one_found false)

-- "NaN or at most 0 becomes +infinity": a deviation just above 0 stays. The column 2^−537, −2^−537 has the least positive f64, 2^−1074, as its variance
abbrev pub small : Float
small = fin false 1 (negsuc 536)

abbrev pub least_variance : List Float
least_variance = small ∷ fin true 1 (negsuc 536) ∷ []

root_least : root binary64 (fin false 1 (negsuc 1073)) ≡ small
unfolding fits count of_bits to_bits
root_least = sym (root_only binary64 (fin false 1 (negsuc 1073)) small tt tt is_root)
  where
    is_root : IsRoot binary64 (fin false 1 (negsuc 1073)) small
    is_root = record { positive_finite = tt; above_lower = lit< tt; below_upper_law = lit< tt }

least_found : (order : Bool) → found binary64 order 2 1 least_variance false old_stats 0 ≡ Ok (found_with (record { mean = plus_zero; deviation = small }) two)
unfolding found found_for marker_stats no_value accumulated counted stats_of mean deviation variance value matrix_place is_nan add sub mul div neg le lt eq
least_found true = ap (by_root plus_zero two) root_least
least_found false = ap (by_root plus_zero two) root_least

pub least_answer : (order : Bool) → standardise_answer binary64 order 2 1 least_variance false old_stats ≡ done []
unfolding standardise_answer lowest_refused markers_answer marker_answer
least_answer order = rw (least_found order)

pub least_stats : (order : Bool) → later_stats binary64 order 2 1 least_variance false old_stats ≡ plus_zero ∷ small ∷ two ∷ []
unfolding later_stats new_stats kept_or_new lent_or_new matrix tabulate
least_stats order = rw (least_found order)

pub least_values : (order : Bool) → later_values binary64 order 2 1 least_variance false old_stats true ≡ one ∷ minus_one ∷ []
unfolding later_values new_values may_change lowest_refused markers_answer marker_answer applied standardised is_infinite value matrix_place matrix tabulate is_nan add sub mul div neg
least_values true = rw (least_found true)
least_values false = rw (least_found false)

-- ---- products of two 2 × 2 matrices
abbrev old_piece : List Float
old_piece = nan ∷ nan ∷ nan ∷ nan ∷ []

-- "A'A .. a copy of entry (c, r) for c > r", "AA' .. nothing above the diagonal but +0": of the columns −0, 1 and 2, 3
abbrev pub first_bytes : List ℕ
first_bytes =
    0 ∷ 0 ∷ 0 ∷ 0 ∷ 0 ∷ 0 ∷ 0 ∷ 0x80
    ∷ 0 ∷ 0 ∷ 0 ∷ 0 ∷ 0 ∷ 0 ∷ 0xF0 ∷ 0x3F
    ∷ 0 ∷ 0 ∷ 0 ∷ 0 ∷ 0 ∷ 0 ∷ 0 ∷ 0x40
    ∷ 0 ∷ 0 ∷ 0 ∷ 0 ∷ 0 ∷ 0 ∷ 0x08 ∷ 0x40 ∷ []

pub ata_two_by_two : ata_leaves first_bytes 0 2 2 0 2 2 old_piece ≡ one ∷ fin false 3 (pos 0) ∷ fin false 3 (pos 0) ∷ fin false 13 (pos 0) ∷ []
unfolding ata_leaves ata_answer piece_of ata_entry dot dot_from floats_of float_at le_number column matrix_value tabulate if_done of_bits add mul
ata_two_by_two = refl

pub aat_two_by_two : aat_leaves first_bytes 0 2 2 0 2 2 old_piece ≡ fin false 1 (pos 2) ∷ plus_zero ∷ fin false 3 (pos 1) ∷ fin false 5 (pos 1) ∷ []
unfolding aat_leaves aat_answer piece_of aat_entry dot dot_from floats_of float_at le_number row matrix_value tabulate if_done of_bits add mul
aat_two_by_two = refl

-- "each sum runs upward from +0": of the columns −0, −0 and 1, 2 no sum is −0
abbrev pub minus_zero_bytes : List ℕ
minus_zero_bytes =
    0 ∷ 0 ∷ 0 ∷ 0 ∷ 0 ∷ 0 ∷ 0 ∷ 0x80
    ∷ 0 ∷ 0 ∷ 0 ∷ 0 ∷ 0 ∷ 0 ∷ 0 ∷ 0x80
    ∷ 0 ∷ 0 ∷ 0 ∷ 0 ∷ 0 ∷ 0 ∷ 0xF0 ∷ 0x3F
    ∷ 0 ∷ 0 ∷ 0 ∷ 0 ∷ 0 ∷ 0 ∷ 0 ∷ 0x40 ∷ []

pub ata_of_minus_zero : ata_leaves minus_zero_bytes 0 2 2 0 2 2 old_piece ≡ plus_zero ∷ plus_zero ∷ plus_zero ∷ fin false 5 (pos 0) ∷ []
unfolding ata_leaves ata_answer piece_of ata_entry dot dot_from floats_of float_at le_number column matrix_value tabulate if_done of_bits add mul
ata_of_minus_zero = refl

pub aat_of_minus_zero : aat_leaves minus_zero_bytes 0 2 2 0 2 2 old_piece ≡ one ∷ plus_zero ∷ two ∷ fin false 1 (pos 2) ∷ []
unfolding aat_leaves aat_answer piece_of aat_entry dot dot_from floats_of float_at le_number row matrix_value tabulate if_done of_bits add mul
aat_of_minus_zero = refl

-- a 1 × 1 product of −0 and 1 alone is +0 too, since the sum runs from +0
pub minus_zero_times_one : dot binary64 (fin true 0 (pos 0) ∷ []) (one ∷ []) ≡ plus_zero
unfolding dot dot_from add mul
minus_zero_times_one = refl

-- ---- reading two animals at two markers: 2, 1 at marker 0 and 0, missing at marker 1, under the flag; the second animal first
abbrev pub two_by_two : Bool → List ℕ
two_by_two true = 0x6C ∷ 0x1B ∷ 1 ∷ 0x08 ∷ 0x07 ∷ []
two_by_two false = 0x6C ∷ 0x1B ∷ 0 ∷ 0x0C ∷ 0x06 ∷ []

abbrev second_first : List ℤ
second_first = pos 1 ∷ negsuc 1 ∷ []

abbrev in_order : List ℤ
in_order = pos 0 ∷ pos 1 ∷ []

-- "in marker order (a marker's values adjacent) or animal order", from either mode
pub read_in_animal_order : (mode1 : Bool) {V : Type 0} (w : Width V) (missing : V)
    → read_buffer w (two_by_two mode1) 2 2 true second_first in_order missing true (missing ∷ missing ∷ missing ∷ missing ∷ []) ≡ w.one ∷ missing ∷ w.two ∷ w.zero ∷ []
unfolding read_buffer read_answer is_mode1 items blocks block_width first_bad is_good means values_read codes_read matrix tabulate read_code call_code code_in block item_code code_at value_of values if_done
read_in_animal_order true w missing = refl
read_in_animal_order false w missing = refl

pub read_in_marker_order : (mode1 : Bool) {V : Type 0} (w : Width V) (missing : V)
    → read_buffer w (two_by_two mode1) 2 2 true second_first in_order missing false (missing ∷ missing ∷ missing ∷ missing ∷ []) ≡ w.one ∷ w.two ∷ missing ∷ w.zero ∷ []
unfolding read_buffer read_answer is_mode1 items blocks block_width first_bad is_good means values_read codes_read matrix tabulate read_code call_code code_in block item_code code_at value_of values if_done
read_in_marker_order true w missing = refl
read_in_marker_order false w missing = refl
