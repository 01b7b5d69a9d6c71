-- W-213 at small files, the hypotheses closed by computation: F and the file of mode 0 with its calls; entries from the back, repeated ones, lists of
-- none; and why missing is none of 0, 1, 2 where cuts differ.
use mathlib.Core.Path.{◌≡◌, refl, sym, subst}
use mathlib.Core.Bool.{Bool, true, false}
use mathlib.Core.List.{List, [], ◌∷◌}
use Prim.Native.Nat.{ℕ}
use lib.IntN.{ℤ, pos, negsuc}
use lib.Ieee.{Float, nan, eq}
use lib.ListN.{length}
use Rattle.answer.specs.Answer.{if_done}
use Rattle.answer.specs.Lists.{tabulate}
use Rattle.answer.specs.Matrix.{matrix_place, matrix}
use Rattle.blocks.specs.Block.{block_width, file_length, check_size}
use Rattle.entries.specs.Entry.{is_good, means, first_bad}
use Rattle.codes.specs.Code.{code_at, item_code, packed_byte, packed}
use Rattle.codes.specs.Value.{i8, float, values, value_of, code_of, same_int, same_or_nan}
use Rattle.codes.proofs.ValueLaws.{i8_numbers}
use Rattle.bed_file.specs.File.{is_mode1, items, blocks, check_file}
use Rattle.calls.specs.Calls.{block, code_in, call_code}
use Rattle.bed_read.specs.Reading.{check_lists, read_answer, read_code, codes_read, values_read, read_buffer}
use Rattle.bed_write.specs.Packing.{place_code, or_zero, or_else, first_of, if_bad}
use Rattle.bed_write.specs.Writing.{value_code, first_bad_call, check_call, check_buffers, write_answer, joined, bed_file, write_buffer}
use Rattle.canonical.specs.Canonical.{canonical_buffer}
use Rattle.demands.specs.SmallHerds.{F, in_mode0}
use Rattle.demands.specs.Composed.{resolved_through, composed, composed_as_given}
use Rattle.demands.specs.Cut.{Cut, cut_at, f64_cut, i8_cut, Leaves, RightBuffers}
use Rattle.demands.proofs.Composed.{four, of_four}
use Rattle.demands.proofs.Cuts.{cut_of_cut, cut_of_cut_as_given, cut_canonical, cut_of_canonical_cut, f64_keeps, i8_keeps, cut_of_cut_f64, cut_of_cut_i8, cut_of_cut_alike}

abbrev nines : List ℕ
nines = 9 ∷ 9 ∷ 9 ∷ 9 ∷ 9 ∷ []

-- ---- animals 4, 0, 1 and 1 again, markers 1, 0 and 1 again, at f64
abbrev three : List ℤ
three = negsuc 0 ∷ pos 0 ∷ pos 1 ∷ []

abbrev nans : List Float
nans = nan ∷ nan ∷ nan ∷ nan ∷ nan ∷ nan ∷ nan ∷ nan ∷ nan ∷ nan ∷ nan ∷ nan ∷ []

abbrev first : Cut
first = f64_cut true false nans (9 ∷ nines)

-- 1, 0, 0, 0; then 2, 2 and twice missing; then the first again
abbrev first_values : List Float
first_values =
    float.one ∷ float.zero ∷ float.zero ∷ float.zero
    ∷ float.two ∷ float.two ∷ nan ∷ nan
    ∷ float.one ∷ float.zero ∷ float.zero ∷ float.zero ∷ []

-- codes 2, 3, 3, 3; then 0, 0, 1, 1; then the first again
abbrev between : List ℕ
between = 0x6C ∷ 0x1B ∷ 1 ∷ 0xFE ∷ 0x50 ∷ 0xFE ∷ []

-- ---- of these the last animal, and twice that at place 1; the markers at places 1 and 2; at i8
abbrev of_three : List ℤ
of_three = negsuc 1 ∷ pos 2 ∷ []

abbrev zeros : List ℤ
zeros = pos 0 ∷ pos 0 ∷ pos 0 ∷ pos 0 ∷ pos 0 ∷ pos 0 ∷ []

abbrev second : Bool → Bool → Cut
second flag order = i8_cut flag order zeros nines

-- codes 1, 0, 0; then 3, 3, 3
abbrev bytes : List ℕ
bytes = 0x6C ∷ 0x1B ∷ 1 ∷ 0x01 ∷ 0x3F ∷ []

-- ---- lists of no entries, of which a header is left
abbrev header : List ℕ
header = 0x6C ∷ 0x1B ∷ 1 ∷ []

abbrev no_i8 : Cut
no_i8 = i8_cut true false [] (9 ∷ 9 ∷ 9 ∷ [])

abbrev no_f64 : Cut
no_f64 = f64_cut true false [] (9 ∷ 9 ∷ 9 ∷ [])

-- ---- a missing value that is a number, 0: animal 1 at marker 0 of F, which has no call
abbrev by_zero : Bool → Cut
by_zero flag = cut_at i8 flag (pos 0) false (pos 9 ∷ []) (9 ∷ 9 ∷ 9 ∷ 9 ∷ [])

abbrev one_code : ℕ → List ℕ
one_code code = 0x6C ∷ 0x1B ∷ 1 ∷ code ∷ []

-- ---- what cuts leave, computed
pub record Computed : Type 0 where
  pub first_leaves : Leaves F 5 2 four three first between
  pub first_of_mode_0 : Leaves in_mode0 5 2 four three first between
  pub second_leaves : Leaves between 4 3 of_four of_three (second false true) bytes
  pub one_leaves : Leaves in_mode0 5 2 (composed 5 four of_four) (composed 2 three of_three) (second true false) bytes
  pub no_animals : Leaves in_mode0 5 2 [] three no_i8 header
  pub no_animals_again : Leaves header 0 3 [] of_three no_i8 header
  pub no_markers : Leaves in_mode0 5 2 four [] no_f64 header
  pub no_markers_again : Leaves header 4 0 of_four [] no_f64 header
  -- with the first allele counted, missing becomes no copy of it; else two
  pub zero_counted : Leaves F 5 2 (pos 1 ∷ []) (pos 0 ∷ []) (by_zero true) (one_code 3)
  pub zero_again : Leaves (one_code 3) 1 1 (negsuc 0 ∷ []) (negsuc 0 ∷ []) (by_zero true) (one_code 3)
  pub zero_other_again : Leaves (one_code 3) 1 1 (negsuc 0 ∷ []) (negsuc 0 ∷ []) (by_zero false) (one_code 3)
  pub zero_other : Leaves F 5 2 (pos 1 ∷ []) (pos 0 ∷ []) (by_zero false) (one_code 0)

pub computed : Computed
unfolding read_answer check_file check_lists first_bad is_good means is_mode1 items blocks block_width
    read_buffer values_read codes_read read_code matrix matrix_place tabulate call_code code_in block item_code code_at value_of values if_done
    write_answer check_buffers check_size check_call first_bad_call first_of or_else if_bad value_code place_code code_of eq same_int same_or_nan or_zero
    write_buffer bed_file joined packed packed_byte composed resolved_through
computed =
    record {
      first_leaves = record { values = first_values; is_read = (refl, refl); is_written = (refl, refl) };
      first_of_mode_0 = record { values = first_values; is_read = (refl, refl); is_written = (refl, refl) };
      second_leaves = record { values = negsuc 126 ∷ pos 2 ∷ pos 0 ∷ pos 2 ∷ pos 0 ∷ pos 2 ∷ []; is_read = (refl, refl); is_written = (refl, refl) };
      one_leaves = record { values = negsuc 126 ∷ pos 2 ∷ pos 2 ∷ pos 0 ∷ pos 0 ∷ pos 0 ∷ []; is_read = (refl, refl); is_written = (refl, refl) };
      no_animals = record { values = []; is_read = (refl, refl); is_written = (refl, refl) };
      no_animals_again = record { values = []; is_read = (refl, refl); is_written = (refl, refl) };
      no_markers = record { values = []; is_read = (refl, refl); is_written = (refl, refl) };
      no_markers_again = record { values = []; is_read = (refl, refl); is_written = (refl, refl) };
      zero_counted = record { values = pos 0 ∷ []; is_read = (refl, refl); is_written = (refl, refl) };
      zero_again = record { values = pos 0 ∷ []; is_read = (refl, refl); is_written = (refl, refl) };
      zero_other_again = record { values = pos 2 ∷ []; is_read = (refl, refl); is_written = (refl, refl) };
      zero_other = record { values = pos 0 ∷ []; is_read = (refl, refl); is_written = (refl, refl) };
    }

-- ---- by the theorems. Of either file: animals 1, 0, 0 and markers 0, 1, by one cut under either flag and in either order
buffers : (flag order : Bool) → RightBuffers (composed 5 four of_four) (composed 2 three of_three) (second flag order)
unfolding composed block_width
buffers flag order = record { for_15 = refl; for_16 = refl }

module _ (file : List ℕ) (l : Leaves file 5 2 four three first between) (flag order : Bool) where
  pub by_one_cut : Leaves file 5 2 (pos 1 ∷ pos 0 ∷ pos 0 ∷ []) (pos 0 ∷ pos 1 ∷ []) (second flag order) bytes
  unfolding composed resolved_through means
  by_one_cut =
      cut_of_cut first (second false true) (second flag order) (f64_keeps true false nans (9 ∷ nines)) (i8_keeps false true zeros nines) (i8_keeps flag order zeros nines)
      file 5 2 four three of_four of_three between bytes l computed.second_leaves (buffers flag order)

  -- with animal 0 as −5, as the first list has it
  pub by_one_cut_as_given : Leaves file 5 2 (pos 1 ∷ negsuc 4 ∷ negsuc 4 ∷ []) (pos 0 ∷ pos 1 ∷ []) (second flag order) bytes
  unfolding composed_as_given means block_width
  by_one_cut_as_given =
      cut_of_cut_as_given first (second false true) (second flag order) (f64_keeps true false nans (9 ∷ nines)) (i8_keeps false true zeros nines) (i8_keeps flag order zeros nines)
      file 5 2 four three of_four of_three between bytes l computed.second_leaves (record { for_15 = refl; for_16 = refl })

pub of_F : (flag order : Bool) → Leaves F 5 2 (pos 1 ∷ pos 0 ∷ pos 0 ∷ []) (pos 0 ∷ pos 1 ∷ []) (second flag order) bytes
of_F = by_one_cut F computed.first_leaves

pub of_mode_0 : (flag order : Bool) → Leaves in_mode0 5 2 (pos 1 ∷ pos 0 ∷ pos 0 ∷ []) (pos 0 ∷ pos 1 ∷ []) (second flag order) bytes
of_mode_0 = by_one_cut in_mode0 computed.first_of_mode_0

pub of_mode_0_as_given : (flag order : Bool) → Leaves in_mode0 5 2 (pos 1 ∷ negsuc 4 ∷ negsuc 4 ∷ []) (pos 0 ∷ pos 1 ∷ []) (second flag order) bytes
of_mode_0_as_given = by_one_cut_as_given in_mode0 computed.first_of_mode_0

-- the canonical call between the two
between_long : length (9 ∷ nines) ≡ file_length 4 3
unfolding block_width
between_long = refl

pub between_canonical : canonical_buffer between 4 3 (9 ∷ nines) ≡ between
between_canonical = (cut_canonical F 5 2 four three first between computed.first_leaves (9 ∷ nines) between_long).2

pub canonical_between : (flag order : Bool) → Leaves F 5 2 (composed 5 four of_four) (composed 2 three of_three) (second flag order) bytes
canonical_between flag order =
    cut_of_canonical_cut F 5 2 four three of_four of_three first (second false true) (second flag order)
    (f64_keeps true false nans (9 ∷ nines)) (i8_keeps false true zeros nines) (i8_keeps flag order zeros nines) between (9 ∷ nines) bytes computed.first_leaves between_long
    (subst (λ (x : List ℕ). Leaves x 4 3 of_four of_three (second false true) bytes) (sym between_canonical) computed.second_leaves) (buffers flag order)

-- lists of no entries
pub none_at_i8 : Leaves in_mode0 5 2 [] (pos 0 ∷ pos 1 ∷ []) no_i8 header
unfolding composed resolved_through means block_width
none_at_i8 =
    cut_of_cut_i8 true true true false false false (9 ∷ 9 ∷ 9 ∷ []) (9 ∷ 9 ∷ 9 ∷ []) (9 ∷ 9 ∷ 9 ∷ []) [] [] []
    in_mode0 5 2 [] three [] of_three header header computed.no_animals computed.no_animals_again (record { for_15 = refl; for_16 = refl })

pub none_at_f64 : Leaves in_mode0 5 2 (pos 1 ∷ pos 0 ∷ pos 0 ∷ []) [] no_f64 header
unfolding composed resolved_through means block_width
none_at_f64 =
    cut_of_cut_f64 true true true false false false (9 ∷ 9 ∷ 9 ∷ []) (9 ∷ 9 ∷ 9 ∷ []) (9 ∷ 9 ∷ 9 ∷ []) [] [] []
    in_mode0 5 2 four [] of_four [] header header computed.no_markers computed.no_markers_again (record { for_15 = refl; for_16 = refl })

-- missing 0 in all three cuts under one flag; where the flags differ, `zero_other_again` and `zero_other` have other bytes
pub zero_alike : Leaves F 5 2 (pos 1 ∷ []) (pos 0 ∷ []) (by_zero true) (one_code 3)
unfolding composed resolved_through means block_width
zero_alike =
    cut_of_cut_alike i8 i8_numbers true (pos 0) false false false (pos 9 ∷ []) (pos 9 ∷ []) (pos 9 ∷ []) (9 ∷ 9 ∷ 9 ∷ 9 ∷ []) (9 ∷ 9 ∷ 9 ∷ 9 ∷ []) (9 ∷ 9 ∷ 9 ∷ 9 ∷ [])
    F 5 2 (pos 1 ∷ []) (pos 0 ∷ []) (negsuc 0 ∷ []) (negsuc 0 ∷ []) (one_code 3) (one_code 3) computed.zero_counted computed.zero_again (record { for_15 = refl; for_16 = refl })
