-- The orders of checks, computed: each pair is of one call to which two refusals apply, and of the same call with the cause of the first removed, which meets the
-- second. 2^63 is a count that 18 refuses.
use mathlib.Core.Path.{◌≡◌, refl}
use mathlib.Core.Bool.{Bool, true, false}
use mathlib.Core.List.{List, [], ◌∷◌}
use Rattle.std.specs.Prelude.{Option, Some}
use Prim.Native.Nat.{ℕ, ◌+◌, ◌*◌, ◌-◌, ◌^◌}
use lib.IntN.{ℤ, pos, negsuc}
use lib.Ieee.{Float, nan, Format, is_nan}
use Rattle.answer.specs.Answer.{refused, check, check_count}
use Rattle.blocks.specs.Block.{block_width}
use Rattle.codes.specs.Code.{code_at, item_code}
use Rattle.entries.specs.Entry.{first_bad, is_good, means}
use Rattle.answer.specs.Lists.{tabulate}
use Rattle.answer.specs.Matrix.{matrix_place, matrix}
use Rattle.codes.specs.Value.{i8, same_int, same_or_nan, values, value_of, code_of}
use Rattle.index.specs.declared.Index.{Index}
use Rattle.index.specs.declared.Index.TheVariants as indexes
use Rattle.std.specs.Borrow.{Bor}
use Rattle.index.specs.Numbers.{marked, numbers_below, from_count, slice_end, distances, forward, stepped, slice_list, index_list}
use Rattle.index.specs.Checks.{check_bound, check_range, check_end, check_slice, check_index, list_answer, index_answer}
use Rattle.bed_file.specs.File.{is_mode1, items, blocks, check_file, accept_answer}
use Rattle.calls.specs.Calls.{block, code_in, call_code}
use Rattle.bed_read.specs.Reading.{read_answer, read_code, codes_read, values_read}
use Rattle.bed_write.specs.Packing.{place_code, first_of, if_bad, first_bad_animal, encode_answer}
use Rattle.bed_write.specs.Writing.{value_code, first_bad_call, write_answer}
use Rattle.canonical.specs.Canonical.{canonical_answer}
use Rattle.statistics.specs.Statistics.{no_value, marker_stats, found_for}
use Rattle.standardise.specs.Standardised.{marker_answer, markers_answer, value, found, lowest_refused, standardise_answer}
use Rattle.product.specs.Piece.{ata_answer, aat_answer}
use Rattle.read_standardised.specs.Joined.{joined_answer}
use Rattle.demands.specs.SmallHerds.{F, in_mode0}

-- ---- reading: "18, 15, 1 (under 3 bytes), 2 (first two bytes), 3, 4, 2 (length), 5, 6"
abbrev animal0 : List ℤ
animal0 = pos 0 ∷ []

abbrev pub bad : List ℤ
bad = pos 9 ∷ []

pub reading_18_before_15 : (read_answer F (2 ^ 63) 2 animal0 animal0 7 ≡ refused 18 []) × (read_answer F 5 2 animal0 animal0 7 ≡ refused 15 [])
unfolding read_answer
reading_18_before_15 = (refl, refl)

pub reading_15_before_1 : (read_answer [] 5 2 animal0 animal0 7 ≡ refused 15 []) × (read_answer [] 5 2 animal0 animal0 1 ≡ refused 1 [])
unfolding read_answer
reading_15_before_1 = (refl, refl)

pub short_before_first_bytes : (accept_answer (0 ∷ 0 ∷ []) 5 2 ≡ refused 1 []) × (accept_answer (0 ∷ 0 ∷ 2 ∷ []) 5 2 ≡ refused 2 [])
unfolding accept_answer
short_before_first_bytes = (refl, refl)

pub first_bytes_before_mode : (accept_answer (0 ∷ 0 ∷ 2 ∷ []) 5 2 ≡ refused 2 []) × (accept_answer (0x6C ∷ 0x1B ∷ 2 ∷ []) 5 2 ≡ refused 3 [])
unfolding accept_answer
first_bytes_before_mode = (refl, refl)

-- "Traps: checking length before the mode byte"
pub mode_before_length : (accept_answer (0x6C ∷ 0x1B ∷ 2 ∷ []) 5 2 ≡ refused 3 []) × (accept_answer (0x6C ∷ 0x1B ∷ 1 ∷ []) 5 2 ≡ refused 2 [])
unfolding accept_answer is_mode1 items blocks block_width
mode_before_length = (refl, refl)

pub mode_before_4 : (accept_answer (0x6C ∷ 0x1B ∷ 2 ∷ []) (2 ^ 63 - 1) 8 ≡ refused 3 []) × (accept_answer (0x6C ∷ 0x1B ∷ 1 ∷ []) (2 ^ 63 - 1) 8 ≡ refused 4 [])
unfolding accept_answer is_mode1 items blocks block_width
mode_before_4 = (refl, refl)

pub size_before_length : (accept_answer (0x6C ∷ 0x1B ∷ 1 ∷ []) (2 ^ 63 - 1) 8 ≡ refused 4 []) × (accept_answer (0x6C ∷ 0x1B ∷ 1 ∷ []) (2 ^ 63 - 1) 7 ≡ refused 2 [])
unfolding accept_answer is_mode1 items blocks block_width
size_before_length = (refl, refl)

pub length_before_lists : (read_answer (0x6C ∷ 0x1B ∷ 1 ∷ []) 5 2 bad bad 1 ≡ refused 2 []) × (read_answer F 5 2 bad bad 1 ≡ refused 5 (pos 9 ∷ []))
unfolding read_answer is_mode1 items blocks block_width first_bad is_good
length_before_lists = (refl, refl)

pub reading_5_before_6 : (read_answer F 5 2 bad bad 1 ≡ refused 5 (pos 9 ∷ [])) × (read_answer F 5 2 animal0 bad 1 ≡ refused 6 (pos 9 ∷ []))
unfolding read_answer is_mode1 items blocks block_width first_bad is_good
reading_5_before_6 = (refl, refl)

-- "in either mode"
pub mode_0_5_before_6 : (read_answer in_mode0 5 2 bad bad 1 ≡ refused 5 (pos 9 ∷ [])) × (read_answer in_mode0 5 2 animal0 bad 1 ≡ refused 6 (pos 9 ∷ []))
unfolding read_answer is_mode1 items blocks block_width first_bad is_good
mode_0_5_before_6 = (refl, refl)

-- ---- the canonical call: "the reading's checks without 15, 5 and 6, then 4 for the length to be written, then 16"
pub canonical_18_before_1 : (canonical_answer [] (2 ^ 63) 2 0 ≡ refused 18 []) × (canonical_answer [] 5 2 0 ≡ refused 1 [])
unfolding canonical_answer check_file
canonical_18_before_1 = (refl, refl)

pub canonical_2_before_16 : (canonical_answer (0x6C ∷ 0x1B ∷ 1 ∷ []) 5 2 0 ≡ refused 2 []) × (canonical_answer F 5 2 0 ≡ refused 16 [])
unfolding canonical_answer check_file is_mode1 items blocks block_width
canonical_2_before_16 = (refl, refl)

-- ---- `encode1`: "checks 16 first"; the whole-file writer: "18, 4, 15, 16, 7". 3 is a bad value
abbrev pub three : List ℤ
three = pos 3 ∷ []

abbrev no_missing : ℤ
no_missing = negsuc 126

pub encode_16_before_7 : (encode_answer 1 (place_code i8 true no_missing three) 0 ≡ refused 16 []) × (encode_answer 1 (place_code i8 true no_missing three) 1 ≡ refused 7 (pos 0 ∷ []))
unfolding encode_answer first_bad_animal first_of if_bad place_code code_of same_or_nan same_int block_width
encode_16_before_7 = (refl, refl)

module _ (code : ℕ → ℕ → Option ℕ) where
  pub writer_18_before_4 : (write_answer (2 ^ 63) 8 code 0 0 ≡ refused 18 []) × (write_answer (2 ^ 63 - 1) 8 code 0 0 ≡ refused 4 [])
  unfolding write_answer block_width
  writer_18_before_4 = (refl, refl)

  pub writer_4_before_15 : (write_answer (2 ^ 63 - 1) 8 code 0 0 ≡ refused 4 []) × (write_answer 5 2 code 0 0 ≡ refused 15 [])
  unfolding write_answer block_width
  writer_4_before_15 = (refl, refl)

  pub writer_15_before_16 : (write_answer 5 2 code 0 0 ≡ refused 15 []) × (write_answer 5 2 code 10 0 ≡ refused 16 [])
  unfolding write_answer block_width
  writer_15_before_16 = (refl, refl)

pub writer_16_before_7 :
    (write_answer 1 1 (value_code i8 true no_missing true 1 1 three) 1 0 ≡ refused 16 [])
    × (write_answer 1 1 (value_code i8 true no_missing true 1 1 three) 1 4 ≡ refused 7 (pos 0 ∷ pos 0 ∷ []))
unfolding write_answer first_bad_call first_of if_bad value_code place_code matrix_place code_of same_or_nan same_int block_width
writer_16_before_7 = (refl, refl)

-- ---- standardising: "Checks: 18, 15, 17, then markers."
abbrev pub two_nan : List Float
two_nan = nan ∷ nan ∷ []

abbrev pub three_nan : List Float
three_nan = nan ∷ nan ∷ nan ∷ []

module _ (f : Format) (order : Bool) where
  pub standardise_18_before_15 : (use_stats : Bool) → (standardise_answer f order (2 ^ 63) 1 [] use_stats [] ≡ refused 18 []) × (standardise_answer f order 2 1 [] use_stats [] ≡ refused 15 [])
  unfolding standardise_answer
  standardise_18_before_15 use_stats = (refl, refl)

  pub standardise_15_before_17 : (use_stats : Bool) → (standardise_answer f order 2 1 [] use_stats [] ≡ refused 15 []) × (standardise_answer f order 2 1 two_nan use_stats [] ≡ refused 17 [])
  unfolding standardise_answer
  standardise_15_before_17 use_stats = (refl, refl)

pub standardise_17_before_13 : (f : Format) (order : Bool) → (standardise_answer f order 2 1 two_nan false [] ≡ refused 17 []) × (standardise_answer f order 2 1 two_nan false three_nan ≡ refused 13 (pos 0 ∷ []))
unfolding standardise_answer lowest_refused markers_answer marker_answer found found_for marker_stats no_value value matrix_place is_nan
standardise_17_before_13 f true = (refl, refl)
standardise_17_before_13 f false = (refl, refl)

-- 17 "now reads 3 times markers": two numbers a marker are refused, and so is a length that 3 times the markers would only have modulo 2^64
pub standardise_17_by_three : (f : Format) (order use_stats : Bool)
    → (standardise_answer f order 2 1 two_nan use_stats two_nan ≡ refused 17 []) × (standardise_answer f order 0 6148914691236517206 [] use_stats two_nan ≡ refused 17 [])
    × (3 * 6148914691236517206 ≡ 2 ^ 64 + 2)
unfolding standardise_answer
standardise_17_by_three f order use_stats = (refl, refl, refl)

-- ---- the joined call: "18, 15, 17, the reading's from 1 on, then markers". Two animals at a marker with no call
abbrev pub no_calls : List ℕ
no_calls = 0x6C ∷ 0x1B ∷ 1 ∷ 0x05 ∷ []

abbrev both : List ℤ
both = pos 0 ∷ pos 1 ∷ []

module _ (f : Format) (flag order : Bool) where
  pub joined_18_before_15 : (joined_answer f [] (2 ^ 63) 1 flag both animal0 order [] [] ≡ refused 18 []) × (joined_answer f [] 2 1 flag both animal0 order [] [] ≡ refused 15 [])
  unfolding joined_answer
  joined_18_before_15 = (refl, refl)

  pub joined_15_before_17 : (joined_answer f [] 2 1 flag both animal0 order [] [] ≡ refused 15 []) × (joined_answer f [] 2 1 flag both animal0 order two_nan [] ≡ refused 17 [])
  unfolding joined_answer
  joined_15_before_17 = (refl, refl)

  pub joined_17_before_1 : (joined_answer f [] 2 1 flag both animal0 order two_nan [] ≡ refused 17 []) × (joined_answer f [] 2 1 flag both animal0 order two_nan three_nan ≡ refused 1 [])
  unfolding joined_answer
  joined_17_before_1 = (refl, refl)

-- 17 goes by the marker list, and not by the file's markers: the first marker of two has three numbers
pub joined_17_by_list : (f : Format) (flag order : Bool)
    → (joined_answer f [] 2 2 flag both animal0 order two_nan (nan ∷ three_nan) ≡ refused 17 []) × (joined_answer f [] 2 2 flag both animal0 order two_nan two_nan ≡ refused 17 [])
    × (joined_answer f [] 2 2 flag both animal0 order two_nan three_nan ≡ refused 1 [])
unfolding joined_answer
joined_17_by_list f flag order = (refl, refl, refl)

pub joined_5_before_13 : (f : Format) (flag order : Bool)
    → (joined_answer f no_calls 2 1 flag (pos 0 ∷ pos 9 ∷ []) animal0 order two_nan three_nan ≡ refused 5 (pos 9 ∷ []))
    × (joined_answer f no_calls 2 1 flag both animal0 order two_nan three_nan ≡ refused 13 (pos 0 ∷ []))
unfolding joined_answer is_mode1 items blocks block_width first_bad is_good means values_read codes_read matrix matrix_place tabulate read_code call_code code_in block item_code code_at value_of values
    lowest_refused markers_answer marker_answer found found_for marker_stats no_value value is_nan
joined_5_before_13 f true true = (refl, refl)
joined_5_before_13 f true false = (refl, refl)
joined_5_before_13 f false true = (refl, refl)
joined_5_before_13 f false false = (refl, refl)

-- ---- lists: "18; then 8 for marks, 9, 10, 11 for a slice, 12 for a range; 19 last"
abbrev slice : ℤ → ℤ → ℤ → Index
slice start end step = indexes.NDSliceInfo (record { start = start; end = Some end; step = step })

pub marks_18_before_8 :
    (marks : Bor (List ℕ)) → marks.now ≡ []
    → (index_answer (indexes.VecBool marks) (2 ^ 63) 0 ≡ refused 18 []) × (index_answer (indexes.VecBool marks) 5 0 ≡ refused 8 [])
unfolding index_answer check_index check_count check
marks_18_before_8 marks e = (refl, rw e refl)

pub marks_8_before_19 :
    (marks : Bor (List ℕ)) → marks.now ≡ 1 ∷ []
    → (index_answer (indexes.VecBool marks) 5 0 ≡ refused 8 []) × (index_answer (indexes.VecBool marks) 1 0 ≡ refused 19 [])
unfolding index_answer check_index check_count check list_answer index_list marked numbers_below
marks_8_before_19 marks e = (rw e refl, rw e refl)

pub slice_9_before_10 : (index_answer (slice (pos 9) (pos 9) (pos 0)) 6 0 ≡ refused 9 []) × (index_answer (slice (pos 9) (pos 9) (pos 1)) 6 0 ≡ refused 10 [])
unfolding index_answer check_index check_slice check_end check_count check
slice_9_before_10 = (refl, refl)

pub slice_10_before_11 : (index_answer (slice (pos 9) (pos 9) (pos 1)) 6 0 ≡ refused 10 []) × (index_answer (slice (pos 0) (pos 9) (pos 1)) 6 0 ≡ refused 11 [])
unfolding index_answer check_index check_slice check_end check_count check
slice_10_before_11 = (refl, refl)

pub slice_11_before_19 : (index_answer (slice (pos 0) (pos 9) (pos 1)) 6 0 ≡ refused 11 []) × (index_answer (slice (pos 0) (pos 6) (pos 1)) 6 0 ≡ refused 19 [])
unfolding index_answer check_index check_slice check_end check_count check list_answer index_list slice_list stepped forward distances numbers_below slice_end from_count
slice_11_before_19 = (refl, refl)

-- a range's bound
pub range_18_before_12 :
    (index_answer (indexes.RangeAny (record { start = Some (2 ^ 63); end = Some 0 })) 6 0 ≡ refused 18 [])
    × (index_answer (indexes.RangeAny (record { start = Some 6; end = Some 0 })) 6 0 ≡ refused 12 [])
unfolding index_answer check_index check_range check_bound check_count check
range_18_before_12 = (refl, refl)

-- ---- products: "18 comes first", 20, "Then 15, then 1"
abbrev four_nan : List Float
four_nan = nan ∷ nan ∷ nan ∷ nan ∷ []

pub ata_18_before_20 : (ata_answer [] 0 2 2 5 (2 ^ 63) 1 [] ≡ refused 18 []) × (ata_answer [] 0 2 2 5 1 1 [] ≡ refused 20 [])
unfolding ata_answer
ata_18_before_20 = (refl, refl)

pub ata_20_before_15 : (ata_answer [] 0 2 2 5 1 1 [] ≡ refused 20 []) × (ata_answer [] 0 2 2 0 2 2 [] ≡ refused 15 [])
unfolding ata_answer
ata_20_before_15 = (refl, refl)

pub ata_15_before_1 : (ata_answer [] 0 2 2 0 2 2 [] ≡ refused 15 []) × (ata_answer [] 0 2 2 0 2 2 four_nan ≡ refused 1 [])
unfolding ata_answer
ata_15_before_1 = (refl, refl)

pub aat_18_before_20 : (aat_answer [] 0 2 2 5 (2 ^ 63) 1 [] ≡ refused 18 []) × (aat_answer [] 0 2 2 5 1 1 [] ≡ refused 20 [])
unfolding aat_answer
aat_18_before_20 = (refl, refl)

pub aat_20_before_15 : (aat_answer [] 0 2 2 5 1 1 [] ≡ refused 20 []) × (aat_answer [] 0 2 2 0 2 2 [] ≡ refused 15 [])
unfolding aat_answer
aat_20_before_15 = (refl, refl)

pub aat_15_before_1 : (aat_answer [] 0 2 2 0 2 2 [] ≡ refused 15 []) × (aat_answer [] 0 2 2 0 2 2 four_nan ≡ refused 1 [])
unfolding aat_answer
aat_15_before_1 = (refl, refl)
