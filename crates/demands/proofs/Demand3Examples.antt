-- Demand 3 at small files: each theorem once, its hypotheses closed by computation.
use mathlib.Core.Path.{◌≡◌, refl, sym, subst}
use mathlib.Core.Bool.{Bool, true, false}
use mathlib.Core.List.{List, [], ◌∷◌}
use Prim.Native.Nat.{ℕ, ◌-◌, ◌*◌, ◌^◌, ◌≤◌, ◌<◌}
use native.Mathlib.Omega.{arith}
use lib.Dec.{T, lit≤}
use lib.IntN.{ℤ, pos, negsuc}
use lib.ListN.{length, get_or}
use lib.Ieee.{Float, nan, fin, binary64, fits, is_nan}
use Rattle.answer.specs.Answer.{done, refused, if_done}
use Rattle.blocks.specs.Block.{block_width, file_length}
use Rattle.entries.specs.Entry.{is_good, means, first_bad}
use Rattle.answer.specs.Lists.{tabulate}
use Rattle.codes.specs.Code.{code_at, item_code, packed_byte, packed}
use Rattle.answer.specs.Matrix.{matrix_place, matrix}
use Rattle.codes.specs.Value.{values, value_of}
use Rattle.statistics.specs.Statistics.{no_value, marker_stats, found_for}
use Rattle.standardise.specs.Standardised.{value, marker_answer, markers_answer, found, lowest_refused}
use Rattle.calls.specs.Calls.{block, code_in, call_code}
use Rattle.bed_read.specs.Reading.{file_order, check_lists, read_answer, read_code, codes_read, values_read}
use Rattle.bed_file.specs.File.{is_mode1, items, blocks, check_file, accept_answer}
use Rattle.read_standardised.specs.Ways.{Way, answers_of, values_left, stats_left}
use Rattle.demands.specs.Demand.{IsAccepted, CallsAgree, GoodList, meant, NamesEachOnce, RightLengths}
use Rattle.demands.specs.Alike.{Alike, AlikeBuffers, OfFormat}
use Rattle.read_standardised.specs.Joined.{joined_checks, read_nan, joined_answer}
use Rattle.demands.specs.SmallHerds.{F, last_byte_f2, in_mode0}
use Rattle.canonical.specs.Canonical.{canonical_file, canonical_answer, canonical_buffer}
use Rattle.bed_write.specs.Writing.{joined, bed_file}
use Rattle.demands.proofs.Alike.{alike_is_same, same_buffers_alike}
use Rattle.demands.proofs.ComputedLaws.{all_below, all_below_law, names_test, names_by_test}
use Rattle.demands.proofs.Demand3.{canonical_is_done, canonical_is_accepted, canonical_is_itself, calls_to_canonical, canonical_to_calls, files_same_stats, files_same_answers, files_same_values, files_read, lists_same_stats, lists_same_answers, lists_moved_values, lists_read, lists_inside, files_alike_stats, files_equal_answers, files_alike_values, lists_alike_stats, lists_equal_answers, lists_alike_values}

-- marker 1 all missing, and the same with other pads
abbrev pub M : List ℕ
M = 0x6C ∷ 0x1B ∷ 1 ∷ 0xE4 ∷ 0 ∷ 0x55 ∷ 1 ∷ []

abbrev pub M2 : List ℕ
M2 = 0x6C ∷ 0x1B ∷ 1 ∷ 0xE4 ∷ 0 ∷ 0x55 ∷ 0xF1 ∷ []

F_accepted : IsAccepted F 5 2
unfolding accept_answer is_mode1 items blocks block_width
F_accepted = refl

F2_accepted : IsAccepted last_byte_f2 5 2
unfolding accept_answer is_mode1 items blocks block_width
F2_accepted = refl

F0_accepted : IsAccepted in_mode0 5 2
unfolding accept_answer is_mode1 items blocks block_width
F0_accepted = refl

M_accepted : IsAccepted M 5 2
unfolding accept_answer is_mode1 items blocks block_width
M_accepted = refl

M2_accepted : IsAccepted M2 5 2
unfolding accept_answer is_mode1 items blocks block_width
M2_accepted = refl

-- −1, 0, 3, −3, 1
abbrev pub moved : List ℤ
moved = negsuc 0 ∷ pos 0 ∷ pos 3 ∷ negsuc 2 ∷ pos 1 ∷ []

moved_names : NamesEachOnce 5 moved
unfolding names_test first_bad is_good means
moved_names = names_by_test 5 moved (1 ∷ 4 ∷ 3 ∷ 2 ∷ 0 ∷ []) refl refl

-- the markers in the order 1, 0
abbrev pub markers : List ℤ
markers = pos 1 ∷ negsuc 1 ∷ []

markers_good : GoodList 2 markers
unfolding first_bad is_good
markers_good = refl

abbrev pub val : List Float
val = nan ∷ nan ∷ nan ∷ nan ∷ nan ∷ nan ∷ nan ∷ nan ∷ nan ∷ nan ∷ []

abbrev pub stats : List Float
stats = nan ∷ nan ∷ nan ∷ nan ∷ nan ∷ nan ∷ []

lengths : RightLengths moved markers val stats
lengths = record { for_15 = refl; for_17 = refl }

-- ---- the all-missing marker is refused: it stands at place 0 of the list
pub missing_refused : (order : Bool) → joined_answer binary64 M 5 2 true moved markers order val stats ≡ refused 13 (pos 0 ∷ [])
unfolding joined_answer joined_checks read_nan is_mode1 items blocks block_width check_lists first_bad is_good means
    values_read codes_read matrix matrix_place tabulate read_code call_code code_in block item_code code_at value_of values
    lowest_refused markers_answer marker_answer found found_for marker_stats value no_value is_nan if_done
missing_refused true = refl
missing_refused false = refl

-- ---- 1. canonical files
abbrev pub out : List ℕ
out = 0 ∷ 0 ∷ 0 ∷ 0 ∷ 0 ∷ 0 ∷ 0 ∷ []

out_long : length out ≡ file_length 5 2
unfolding block_width
out_long = refl

short : file_length 5 2 ≤ 2 ^ 64 - 1
unfolding block_width
short = lit≤ tt

pads_same : canonical_buffer F 5 2 out ≡ canonical_buffer last_byte_f2 5 2 out
unfolding canonical_buffer canonical_answer check_file canonical_file bed_file joined is_mode1 items blocks block_width call_code code_in block item_code code_at packed packed_byte tabulate if_done
pads_same = refl

modes_same : canonical_buffer F 5 2 out ≡ canonical_buffer in_mode0 5 2 out
unfolding canonical_buffer canonical_answer check_file canonical_file bed_file joined is_mode1 items blocks block_width call_code code_in block item_code code_at packed packed_byte tabulate if_done
modes_same = refl

missing_same : canonical_buffer M 5 2 out ≡ canonical_buffer M2 5 2 out
unfolding canonical_buffer canonical_answer check_file canonical_file bed_file joined is_mode1 items blocks block_width call_code code_in block item_code code_at packed packed_byte tabulate if_done
missing_same = refl

pub modes_calls : CallsAgree F in_mode0 5 2
modes_calls = canonical_to_calls F 5 2 F_accepted short out out_long out out_long in_mode0 F0_accepted modes_same

pub modes_back : canonical_buffer F 5 2 out ≡ canonical_buffer in_mode0 5 2 out
modes_back = calls_to_canonical F 5 2 F_accepted short out out_long out out_long in_mode0 F0_accepted modes_calls

pub mode_0_done : canonical_answer in_mode0 5 2 (length out) ≡ done []
mode_0_done = canonical_is_done in_mode0 5 2 F0_accepted short out out_long

pub again : canonical_buffer (canonical_buffer in_mode0 5 2 out) 5 2 out ≡ canonical_buffer in_mode0 5 2 out
again = canonical_is_itself in_mode0 5 2 F0_accepted short out out_long out out_long

pub again_accepted : IsAccepted (canonical_buffer in_mode0 5 2 out) 5 2
again_accepted = canonical_is_accepted in_mode0 5 2 F0_accepted short out out_long out out_long

-- ---- alike: +0 and −0 are not, though they are equal by number; two NaN are
pub zeros_not_alike : Alike binary64 (fin false 0 (pos 0)) (fin true 0 (pos 0)) → ⊥
unfolding fits
zeros_not_alike a = signs ((alike_is_same binary64 (fin false 0 (pos 0)) (fin true 0 (pos 0)) tt tt).0 a)
  where
    signs : fin false 0 (pos 0) ≡ fin true 0 (pos 0) → ⊥
    signs e = let q : ◌≡◌ {A = ℕ} 0 1 = cc in omega arith

pub nans_alike : Alike binary64 nan nan
unfolding fits
nans_alike = (alike_is_same binary64 nan nan tt tt).1 refl

-- the buffers hold values of the format
of_format : (xs : List Float) → all_below (length xs) (λ k. fits binary64 (get_or xs k nan)) ≡ true → OfFormat binary64 xs
of_format xs e k h = subst T (sym (all_below_law (length xs) (λ k. fits binary64 (get_or xs k nan)) e k h)) tt

val_fits : OfFormat binary64 val
unfolding all_below fits
val_fits = of_format val refl

stats_fits : OfFormat binary64 stats
unfolding all_below fits
stats_fits = of_format stats refl

val_alike : AlikeBuffers binary64 val val
val_alike = same_buffers_alike binary64 val val refl

stats_alike : AlikeBuffers binary64 stats stats
stats_alike = same_buffers_alike binary64 stats stats refl

-- ---- 2, 3 and 4, in both orders, under both flags and in every way
module _ (flag order : Bool) (way : Way) where
  pub pads_stats : stats_left binary64 F 5 2 flag moved markers order val stats way ≡ stats_left binary64 last_byte_f2 5 2 flag moved markers order val stats way
  pads_stats = files_same_stats F last_byte_f2 5 2 F_accepted F2_accepted short out out out_long out_long pads_same flag moved markers moved_names.good_list markers_good order val stats lengths way

  pub pads_values : values_left binary64 F 5 2 flag moved markers order val stats way ≡ values_left binary64 last_byte_f2 5 2 flag moved markers order val stats way
  pads_values = files_same_values F last_byte_f2 5 2 F_accepted F2_accepted short out out out_long out_long pads_same flag moved markers moved_names.good_list markers_good order val stats lengths way

  pub modes_answers : answers_of binary64 F 5 2 flag moved markers order val stats way ≡ answers_of binary64 in_mode0 5 2 flag moved markers order val stats way
  modes_answers = files_same_answers F in_mode0 5 2 F_accepted F0_accepted short out out out_long out_long modes_same flag moved markers moved_names.good_list markers_good order val stats lengths way

  pub modes_values : values_left binary64 F 5 2 flag moved markers order val stats way ≡ values_left binary64 in_mode0 5 2 flag moved markers order val stats way
  modes_values = files_same_values F in_mode0 5 2 F_accepted F0_accepted short out out out_long out_long modes_same flag moved markers moved_names.good_list markers_good order val stats lengths way

  pub missing_answers : answers_of binary64 M 5 2 flag moved markers order val stats way ≡ answers_of binary64 M2 5 2 flag moved markers order val stats way
  missing_answers = files_same_answers M M2 5 2 M_accepted M2_accepted short out out out_long out_long missing_same flag moved markers moved_names.good_list markers_good order val stats lengths way

  pub moved_stats : stats_left binary64 F 5 2 flag moved markers order val stats way ≡ stats_left binary64 F 5 2 flag (file_order 5) markers order val stats way
  moved_stats = lists_same_stats F 5 2 F_accepted (lit≤ tt) flag moved markers moved_names markers_good order val stats lengths way

  pub moved_answers : answers_of binary64 M 5 2 flag moved markers order val stats way ≡ answers_of binary64 M 5 2 flag (file_order 5) markers order val stats way
  moved_answers = lists_same_answers M 5 2 M_accepted (lit≤ tt) flag moved markers moved_names markers_good order val stats lengths way

  -- the readings are done, and every place named is inside its buffer
  pub modes_read : read_answer F 5 2 moved markers (length val) ≡ done []
  modes_read = files_read F in_mode0 5 2 F_accepted F0_accepted short out out out_long out_long modes_same flag moved markers moved_names.good_list markers_good order val stats lengths way

  pub moved_read : read_answer M 5 2 moved markers (length val) ≡ done []
  moved_read = lists_read M 5 2 M_accepted (lit≤ tt) flag moved markers moved_names markers_good order val stats lengths way

  pub moved_inside : (length (values_left binary64 F 5 2 flag moved markers order val stats way) ≡ length moved * length markers)
      × (length (values_left binary64 F 5 2 flag (file_order 5) markers order val stats way) ≡ length (file_order 5) * length markers) × (meant 5 moved 0 < length (file_order 5))
  moved_inside = lists_inside F 5 2 F_accepted (lit≤ tt) flag moved markers moved_names markers_good order val stats lengths way 0 (lit≤ tt)

  -- entry 0 is −1 and means animal 4
  pub moved_value : value order 5 2 (values_left binary64 F 5 2 flag moved markers order val stats way) 0 1
      ≡ value order (length (file_order 5)) 2 (values_left binary64 F 5 2 flag (file_order 5) markers order val stats way) (meant 5 moved 0) 1
  moved_value = lists_moved_values F 5 2 F_accepted (lit≤ tt) flag moved markers moved_names markers_good order val stats lengths way 0 1 (lit≤ tt) (lit≤ tt)

  -- at 13 too
  pub moved_value_13 : value order 5 2 (values_left binary64 M 5 2 flag moved markers order val stats way) 0 1
      ≡ value order (length (file_order 5)) 2 (values_left binary64 M 5 2 flag (file_order 5) markers order val stats way) (meant 5 moved 0) 1
  moved_value_13 = lists_moved_values M 5 2 M_accepted (lit≤ tt) flag moved markers moved_names markers_good order val stats lengths way 0 1 (lit≤ tt) (lit≤ tt)

  -- alike
  pub modes_alike_values : AlikeBuffers binary64 (values_left binary64 F 5 2 flag moved markers order val stats way) (values_left binary64 in_mode0 5 2 flag moved markers order val stats way)
  modes_alike_values = files_alike_values val val stats stats val_fits val_fits stats_fits stats_fits val_alike stats_alike F in_mode0 5 2 F_accepted F0_accepted short out out out_long out_long modes_same flag moved markers moved_names.good_list markers_good order lengths way

  pub modes_alike_stats : AlikeBuffers binary64 (stats_left binary64 F 5 2 flag moved markers order val stats way) (stats_left binary64 in_mode0 5 2 flag moved markers order val stats way)
  modes_alike_stats = files_alike_stats val val stats stats val_fits val_fits stats_fits stats_fits val_alike stats_alike F in_mode0 5 2 F_accepted F0_accepted short out out out_long out_long modes_same flag moved markers moved_names.good_list markers_good order lengths way

  pub modes_equal_answers : answers_of binary64 F 5 2 flag moved markers order val stats way ≡ answers_of binary64 in_mode0 5 2 flag moved markers order val stats way
  modes_equal_answers = files_equal_answers val val stats stats val_fits val_fits stats_fits stats_fits val_alike stats_alike F in_mode0 5 2 F_accepted F0_accepted short out out out_long out_long modes_same flag moved markers moved_names.good_list markers_good order lengths way

  pub moved_alike_stats : AlikeBuffers binary64 (stats_left binary64 M 5 2 flag moved markers order val stats way) (stats_left binary64 M 5 2 flag (file_order 5) markers order val stats way)
  moved_alike_stats = lists_alike_stats val val stats stats val_fits val_fits stats_fits stats_fits val_alike stats_alike M 5 2 M_accepted (lit≤ tt) flag moved markers moved_names markers_good order lengths way

  pub moved_equal_answers : answers_of binary64 M 5 2 flag moved markers order val stats way ≡ answers_of binary64 M 5 2 flag (file_order 5) markers order val stats way
  moved_equal_answers = lists_equal_answers val val stats stats val_fits val_fits stats_fits stats_fits val_alike stats_alike M 5 2 M_accepted (lit≤ tt) flag moved markers moved_names markers_good order lengths way

  pub moved_alike_value : Alike binary64 (value order 5 2 (values_left binary64 M 5 2 flag moved markers order val stats way) 0 1)
      (value order (length (file_order 5)) 2 (values_left binary64 M 5 2 flag (file_order 5) markers order val stats way) (meant 5 moved 0) 1)
  moved_alike_value = lists_alike_values val val stats stats val_fits val_fits stats_fits stats_fits val_alike stats_alike M 5 2 M_accepted (lit≤ tt) flag moved markers moved_names markers_good order lengths way 0 1 (lit≤ tt) (lit≤ tt)
