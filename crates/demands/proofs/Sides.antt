-- The two sides of demand 3, computed: three animals at two markers, whose calls are 0, 2, missing and 1, 1, 1, or 0, 2, missing and none.
use mathlib.Core.Path.{◌≡◌, refl, ap}
use mathlib.Core.Bool.{Bool, true, false}
use mathlib.Core.List.{List, [], ◌∷◌}
use Prim.Native.Nat.{ℕ}
use lib.IntN.{ℤ, pos, negsuc}
use lib.Ieee.{Float, nan, inf, fin, binary64, add, sub, mul, div, neg, le, lt, eq, is_nan}
use Rattle.answer.specs.Answer.{Answer, done, refused, if_done}
use Rattle.blocks.specs.Block.{block_width}
use Rattle.codes.specs.Code.{code_at, item_code}
use Rattle.entries.specs.Entry.{first_bad, is_good, means}
use Rattle.answer.specs.Lists.{tabulate}
use Rattle.answer.specs.Matrix.{matrix_place, matrix}
use Rattle.codes.specs.Value.{values, value_of}
use Rattle.bed_file.specs.File.{is_mode1, items, blocks}
use Rattle.calls.specs.Calls.{block, code_in, call_code}
use Rattle.bed_read.specs.Reading.{file_order, read_answer, read_code, codes_read, values_read, read_buffer}
use Rattle.root.specs.Root.{root}
use Rattle.statistics.specs.declared.MarkerError.TheVariants.{NoIndividuals}
use Rattle.statistics.specs.Statistics.{found_with}
use Rattle.std.specs.Prelude.{Ok, Err}
use Rattle.statistics.specs.Statistics.{plus_zero, one, counted, accumulated, mean, variance, deviation, stats_of, no_value, marker_stats, found_for, is_infinite, standardised}
use Rattle.statistics.specs.Calls.{two}
use Rattle.standardise.specs.Standardised.{marker_answer, markers_answer, kept_or_new, lent_or_new, applied, value, found, lowest_refused, standardise_answer, new_stats, may_change, new_values, later_stats, later_values}
use Rattle.read_standardised.specs.Joined.{read_nan, joined_answer, joined_stats, joined_values}
use Rattle.read_standardised.specs.Ways.{Way, in_turn, joined_call, as_read, answers_of, values_left, stats_left}
use Rattle.demands.proofs.Examples.{minus_one, root_one, by_root}

-- in mode 1 (true) and mode 0 (false); marker 1 with calls, and without one
abbrev pub T : Bool → List ℕ
T true = 0x6C ∷ 0x1B ∷ 1 ∷ 0x13 ∷ 0x2A ∷ []
T false = 0x6C ∷ 0x1B ∷ 0 ∷ 0x0B ∷ 0x08 ∷ 0x09 ∷ []

abbrev pub T13 : Bool → List ℕ
T13 true = 0x6C ∷ 0x1B ∷ 1 ∷ 0x13 ∷ 0x15 ∷ []
T13 false = 0x6C ∷ 0x1B ∷ 0 ∷ 0x07 ∷ 0x04 ∷ 0x05 ∷ []

-- the animals 2, 0, 1 (true), and in file order (false)
abbrev pub animals : Bool → List ℤ
animals true = pos 2 ∷ pos 0 ∷ negsuc 1 ∷ []
animals false = file_order 3

abbrev pub markers : List ℤ
markers = pos 0 ∷ pos 1 ∷ []

abbrev pub val : List Float
val = nan ∷ nan ∷ nan ∷ nan ∷ nan ∷ nan ∷ []

abbrev pub stats : List Float
stats = two ∷ two ∷ two ∷ two ∷ two ∷ two ∷ []

-- what a side of demand 3 answers and leaves
abbrev pub Leaves : List ℕ → List ℤ → Bool → Way → List Answer → List Float → List Float → Type 0
Leaves file list order way answers after after_stats =
    (answers_of binary64 file 3 2 true list markers order val stats way ≡ answers) × (values_left binary64 file 3 2 true list markers order val stats way ≡ after)
    × (stats_left binary64 file 3 2 true list markers order val stats way ≡ after_stats)

-- one answer by itself, and after a reading that is done
abbrev alone : Answer → List Answer
alone a = a ∷ []

abbrev after_done : Answer → List Answer
after_done a = done [] ∷ a ∷ []

-- ---- what is read of those animals, in animal order (true) and marker order (false), and the values afterwards
abbrev read : Bool → Bool → List Float
read true true = nan ∷ one ∷ plus_zero ∷ one ∷ two ∷ one ∷ []
read true false = nan ∷ plus_zero ∷ two ∷ one ∷ one ∷ one ∷ []
read false true = plus_zero ∷ one ∷ two ∷ one ∷ nan ∷ one ∷ []
read false false = plus_zero ∷ two ∷ nan ∷ one ∷ one ∷ one ∷ []

abbrev pub after : Bool → Bool → List Float
after true true = plus_zero ∷ plus_zero ∷ minus_one ∷ plus_zero ∷ one ∷ plus_zero ∷ []
after true false = plus_zero ∷ minus_one ∷ one ∷ plus_zero ∷ plus_zero ∷ plus_zero ∷ []
after false true = minus_one ∷ plus_zero ∷ one ∷ plus_zero ∷ plus_zero ∷ plus_zero ∷ []
after false false = minus_one ∷ one ∷ plus_zero ∷ plus_zero ∷ plus_zero ∷ plus_zero ∷ []

-- the third of each marker: two of three animals were observed, and all three
abbrev pub three : Float
three = fin false 3 (pos 0)

abbrev pub after_stats : List Float
after_stats = one ∷ one ∷ two ∷ one ∷ inf false ∷ three ∷ []

marker_0 : (moved order : Bool) → found binary64 order 3 2 (read moved order) false stats 0 ≡ Ok (found_with (record { mean = one; deviation = one }) two)
unfolding found found_for marker_stats no_value accumulated counted stats_of mean deviation variance value matrix_place is_nan add sub mul div neg le lt eq
marker_0 true true = ap (by_root one two) root_one
marker_0 true false = ap (by_root one two) root_one
marker_0 false true = ap (by_root one two) root_one
marker_0 false false = ap (by_root one two) root_one

marker_1 : (moved order : Bool) → found binary64 order 3 2 (read moved order) false stats 1 ≡ Ok (found_with (record { mean = one; deviation = inf false }) three)
unfolding root found found_for marker_stats no_value accumulated counted stats_of mean deviation variance value matrix_place is_nan add sub mul div neg le lt eq
marker_1 true true = refl
marker_1 true false = refl
marker_1 false true = refl
marker_1 false false = refl

new_answer : (moved order : Bool) → lowest_refused binary64 order 3 2 (read moved order) false stats ≡ done []
unfolding lowest_refused markers_answer marker_answer if_done
new_answer moved order = rw (marker_0 moved order, marker_1 moved order)

new_values_law : (moved order : Bool) → new_values binary64 order 3 2 (read moved order) false stats true ≡ after moved order
unfolding new_values may_change lowest_refused markers_answer marker_answer applied standardised is_infinite value matrix_place matrix tabulate if_done is_nan add sub mul div neg
new_values_law true true = rw (marker_0 true true, marker_1 true true)
new_values_law true false = rw (marker_0 true false, marker_1 true false)
new_values_law false true = rw (marker_0 false true, marker_1 false true)
new_values_law false false = rw (marker_0 false false, marker_1 false false)

new_stats_law : (moved order : Bool) → new_stats binary64 order 3 2 (read moved order) false stats ≡ after_stats
unfolding new_stats kept_or_new lent_or_new matrix tabulate
new_stats_law moved order = rw (marker_0 moved order, marker_1 moved order)

pub joined_leaves : (mode1 moved order : Bool) → Leaves (T mode1) (animals moved) order joined_call (done [] ∷ []) (after moved order) after_stats
unfolding answers_of values_left stats_left as_read read_buffer read_answer joined_answer joined_values joined_stats read_nan standardise_answer later_values later_stats
    is_mode1 items blocks block_width first_bad is_good means file_order values_read codes_read matrix tabulate read_code call_code code_in block item_code code_at value_of values if_done
joined_leaves true true true = (ap alone (new_answer true true), new_values_law true true, new_stats_law true true)
joined_leaves true true false = (ap alone (new_answer true false), new_values_law true false, new_stats_law true false)
joined_leaves true false true = (ap alone (new_answer false true), new_values_law false true, new_stats_law false true)
joined_leaves true false false = (ap alone (new_answer false false), new_values_law false false, new_stats_law false false)
joined_leaves false true true = (ap alone (new_answer true true), new_values_law true true, new_stats_law true true)
joined_leaves false true false = (ap alone (new_answer true false), new_values_law true false, new_stats_law true false)
joined_leaves false false true = (ap alone (new_answer false true), new_values_law false true, new_stats_law false true)
joined_leaves false false false = (ap alone (new_answer false false), new_values_law false false, new_stats_law false false)

pub in_turn_leaves : (mode1 moved order : Bool) → Leaves (T mode1) (animals moved) order (in_turn false true) (done [] ∷ done [] ∷ []) (after moved order) after_stats
unfolding answers_of values_left stats_left as_read read_buffer read_answer joined_answer joined_values joined_stats read_nan standardise_answer later_values later_stats
    is_mode1 items blocks block_width first_bad is_good means file_order values_read codes_read matrix tabulate read_code call_code code_in block item_code code_at value_of values if_done
in_turn_leaves true true true = (ap after_done (new_answer true true), new_values_law true true, new_stats_law true true)
in_turn_leaves true true false = (ap after_done (new_answer true false), new_values_law true false, new_stats_law true false)
in_turn_leaves true false true = (ap after_done (new_answer false true), new_values_law false true, new_stats_law false true)
in_turn_leaves true false false = (ap after_done (new_answer false false), new_values_law false false, new_stats_law false false)
in_turn_leaves false true true = (ap after_done (new_answer true true), new_values_law true true, new_stats_law true true)
in_turn_leaves false true false = (ap after_done (new_answer true false), new_values_law true false, new_stats_law true false)
in_turn_leaves false false true = (ap after_done (new_answer false true), new_values_law false true, new_stats_law false true)
in_turn_leaves false false false = (ap after_done (new_answer false false), new_values_law false false, new_stats_law false false)

-- ---- at 13: marker 1 is refused, and marker 0 is standardised in marker order alone
abbrev read13 : Bool → Bool → List Float
read13 true true = nan ∷ nan ∷ plus_zero ∷ nan ∷ two ∷ nan ∷ []
read13 true false = nan ∷ plus_zero ∷ two ∷ nan ∷ nan ∷ nan ∷ []
read13 false true = plus_zero ∷ nan ∷ two ∷ nan ∷ nan ∷ nan ∷ []
read13 false false = plus_zero ∷ two ∷ nan ∷ nan ∷ nan ∷ nan ∷ []

abbrev pub after13 : Bool → Bool → List Float
after13 true true = nan ∷ nan ∷ plus_zero ∷ nan ∷ two ∷ nan ∷ []
after13 true false = plus_zero ∷ minus_one ∷ one ∷ nan ∷ nan ∷ nan ∷ []
after13 false true = plus_zero ∷ nan ∷ two ∷ nan ∷ nan ∷ nan ∷ []
after13 false false = minus_one ∷ one ∷ plus_zero ∷ nan ∷ nan ∷ nan ∷ []

abbrev pub after_stats13 : List Float
after_stats13 = one ∷ one ∷ two ∷ two ∷ two ∷ two ∷ []

marker_0_13 : (moved order : Bool) → found binary64 order 3 2 (read13 moved order) false stats 0 ≡ Ok (found_with (record { mean = one; deviation = one }) two)
unfolding found found_for marker_stats no_value accumulated counted stats_of mean deviation variance value matrix_place is_nan add sub mul div neg le lt eq
marker_0_13 true true = ap (by_root one two) root_one
marker_0_13 true false = ap (by_root one two) root_one
marker_0_13 false true = ap (by_root one two) root_one
marker_0_13 false false = ap (by_root one two) root_one

marker_1_13 : (moved order : Bool) → found binary64 order 3 2 (read13 moved order) false stats 1 ≡ Err NoIndividuals
unfolding found found_for marker_stats no_value value matrix_place is_nan
marker_1_13 true true = refl
marker_1_13 true false = refl
marker_1_13 false true = refl
marker_1_13 false false = refl

new_answer_13 : (moved order : Bool) → lowest_refused binary64 order 3 2 (read13 moved order) false stats ≡ refused 13 (pos 1 ∷ [])
unfolding lowest_refused markers_answer marker_answer if_done
new_answer_13 moved order = rw (marker_0_13 moved order, marker_1_13 moved order)

new_values_13 : (moved order : Bool) → new_values binary64 order 3 2 (read13 moved order) false stats true ≡ after13 moved order
unfolding new_values may_change lowest_refused markers_answer marker_answer applied standardised is_infinite value matrix_place matrix tabulate if_done is_nan add sub mul div neg
new_values_13 true true = rw (marker_0_13 true true)
new_values_13 true false = rw (marker_0_13 true false)
new_values_13 false true = rw (marker_0_13 false true)
new_values_13 false false = rw (marker_0_13 false false)

new_stats_13 : (moved order : Bool) → new_stats binary64 order 3 2 (read13 moved order) false stats ≡ after_stats13
unfolding new_stats kept_or_new lent_or_new matrix tabulate
new_stats_13 moved order = rw (marker_0_13 moved order, marker_1_13 moved order)

pub joined_leaves_13 : (mode1 moved order : Bool) → Leaves (T13 mode1) (animals moved) order joined_call (refused 13 (pos 1 ∷ []) ∷ []) (after13 moved order) after_stats13
unfolding answers_of values_left stats_left as_read read_buffer read_answer joined_answer joined_values joined_stats read_nan standardise_answer later_values later_stats
    is_mode1 items blocks block_width first_bad is_good means file_order values_read codes_read matrix tabulate read_code call_code code_in block item_code code_at value_of values if_done
joined_leaves_13 true true true = (ap alone (new_answer_13 true true), new_values_13 true true, new_stats_13 true true)
joined_leaves_13 true true false = (ap alone (new_answer_13 true false), new_values_13 true false, new_stats_13 true false)
joined_leaves_13 true false true = (ap alone (new_answer_13 false true), new_values_13 false true, new_stats_13 false true)
joined_leaves_13 true false false = (ap alone (new_answer_13 false false), new_values_13 false false, new_stats_13 false false)
joined_leaves_13 false true true = (ap alone (new_answer_13 true true), new_values_13 true true, new_stats_13 true true)
joined_leaves_13 false true false = (ap alone (new_answer_13 true false), new_values_13 true false, new_stats_13 true false)
joined_leaves_13 false false true = (ap alone (new_answer_13 false true), new_values_13 false true, new_stats_13 false true)
joined_leaves_13 false false false = (ap alone (new_answer_13 false false), new_values_13 false false, new_stats_13 false false)

pub in_turn_leaves_13 : (mode1 moved order : Bool) → Leaves (T13 mode1) (animals moved) order (in_turn false true) (done [] ∷ refused 13 (pos 1 ∷ []) ∷ []) (after13 moved order) after_stats13
unfolding answers_of values_left stats_left as_read read_buffer read_answer joined_answer joined_values joined_stats read_nan standardise_answer later_values later_stats
    is_mode1 items blocks block_width first_bad is_good means file_order values_read codes_read matrix tabulate read_code call_code code_in block item_code code_at value_of values if_done
in_turn_leaves_13 true true true = (ap after_done (new_answer_13 true true), new_values_13 true true, new_stats_13 true true)
in_turn_leaves_13 true true false = (ap after_done (new_answer_13 true false), new_values_13 true false, new_stats_13 true false)
in_turn_leaves_13 true false true = (ap after_done (new_answer_13 false true), new_values_13 false true, new_stats_13 false true)
in_turn_leaves_13 true false false = (ap after_done (new_answer_13 false false), new_values_13 false false, new_stats_13 false false)
in_turn_leaves_13 false true true = (ap after_done (new_answer_13 true true), new_values_13 true true, new_stats_13 true true)
in_turn_leaves_13 false true false = (ap after_done (new_answer_13 true false), new_values_13 true false, new_stats_13 true false)
in_turn_leaves_13 false false true = (ap after_done (new_answer_13 false true), new_values_13 false true, new_stats_13 false true)
in_turn_leaves_13 false false false = (ap after_done (new_answer_13 false false), new_values_13 false false, new_stats_13 false false)
