-- The worked examples that document 01 marks P, by computation.
use mathlib.Core.Path.{◌≡◌, refl, ap}
use mathlib.Core.List.{List, []}
use Prim.Native.Nat.{ℕ, ◌-◌, ◌^◌}
use Rattle.answer.specs.Answer.{refused, check, check_count, is_done, if_done}
use Rattle.blocks.specs.Block.{block_width, check_size, div_answer}
use Rattle.codes.specs.Code.{code_at, item_code, packed_byte, packed}
use Rattle.entries.specs.Entry.{is_good, means, first_bad, entry_answer}
use Rattle.answer.specs.Lists.{tabulate}
use Rattle.answer.specs.Matrix.{matrix}
use Rattle.codes.specs.Value.{values, value_of, same_int, same_or_nan, code_of}
use Rattle.index.specs.Numbers.{numbers_below, from_count, slice_end, distances, backward, stepped, slice_list, index_list}
use Rattle.index.specs.Checks.{check_end, check_slice, check_index, list_answer, list_buffer, index_answer, index_buffer}
use Rattle.bed_file.specs.File.{is_mode1, items, blocks, accept_answer}
use Rattle.calls.specs.Calls.{block, code_in, call_code}
use Rattle.bed_read.specs.Reading.{file_order, check_lists, read_answer, read_code, codes_read, values_read, read_buffer}
use Rattle.bed_file.proofs.FileLaws.{accepted}
use Rattle.canonical.specs.Canonical.{canonical_file, canonical_answer, canonical_buffer}
use Rattle.bed_write.specs.Writing.{joined, bed_file}
use Rattle.bed_write.specs.Packing.{place_code, or_zero, packed_codes, or_else, first_of, if_bad, first_bad_animal, check_animal, encode_answer, encode_buffer}
use Rattle.demands.specs.Demand.{IsAccepted}
use Rattle.demands.specs.SmallHerds.{SmallHerds}

last : (file : List ℕ) (out_length : ℕ) → IsAccepted file 5 (2 ^ 63 - 1) → canonical_answer file 5 (2 ^ 63 - 1) out_length ≡ refused 4 []
unfolding canonical_answer check_size check check_count block_width
last file n acc = (accepted file 5 (2 ^ 63 - 1) (ap is_done acc)).heard_later (refused 4 [])

pub small_herds : SmallHerds
unfolding canonical_buffer canonical_answer canonical_file bed_file joined read_buffer read_answer if_done accept_answer is_mode1 items blocks block_width check_lists first_bad is_good means
    values_read codes_read matrix tabulate read_code call_code code_in block item_code code_at value_of values file_order
    entry_answer div_answer index_buffer index_answer check_index check_slice check_end check_count check list_answer list_buffer index_list slice_list stepped backward distances numbers_below slice_end from_count
    encode_buffer place_code code_of same_int same_or_nan or_zero packed_codes packed packed_byte or_else first_of if_bad first_bad_animal encode_answer check_animal
small_herds = record {
  read_F = λ w missing. refl;
  read_F2 = λ w missing. refl;
  mode_0_canonical = refl;
  mode_0_passes = refl;
  last_4 = last;
  nothing_in_a_block = refl;
  one_byte_more = refl;
  minus_5 = refl;
  plus_4 = refl;
  minus_6 = refl;
  plus_5 = refl;
  eight_markers = refl;
  seven_markers = refl;
  slice_down = refl;
  column_packed = refl;
}
