-- PLINK's file at small files: each theorem once, its hypotheses closed by computation.
use mathlib.Core.Path.{◌≡◌, refl}
use mathlib.Core.Bool.{true, false}
use mathlib.Core.List.{List, [], ◌∷◌}
use Rattle.std.specs.Prelude.{Some}
use Prim.Native.Nat.{ℕ}
use lib.Dec.{lit≤}
use lib.IntN.{ℤ, pos, negsuc}
use lib.ListN.{length}
use lib.Ieee.{Float, fin, eq}
use Rattle.answer.specs.Answer.{done, if_done}
use Rattle.blocks.specs.Block.{block_width, check_size}
use Rattle.codes.specs.Code.{code_at, item_code, copies, packed_byte, packed}
use Rattle.entries.specs.Entry.{is_good, means, first_bad}
use Rattle.answer.specs.Lists.{tabulate}
use Rattle.answer.specs.Matrix.{matrix_place, matrix}
use Rattle.codes.specs.Plink.{homozygous_first, missing, heterozygous, homozygous_second, genotype_of, block_bit, plink_width, copies_of_first, copies_of_second, copies_value}
use Rattle.codes.specs.Value.{Width, i8, float, same_int, same_or_nan, code_of}
use Rattle.bed_file.specs.File.{is_mode1, items, blocks, check_file, accept_answer}
use Rattle.calls.specs.Calls.{block, code_in, call_code}
use Rattle.bed_read.specs.Reading.{file_order, read_buffer}
use Rattle.bed_write.specs.Packing.{place_code, or_zero, first_of, if_bad}
use Rattle.bed_write.specs.Writing.{value_code, first_bad_call, check_call, check_buffers, write_answer, joined, bed_file, write_buffer}
use Rattle.canonical.specs.Canonical.{canonical_answer, canonical_buffer}
use Rattle.demands.specs.Demand.{IsAccepted, GoodList, meant}
use Rattle.demands.specs.SmallHerds.{in_mode0}
use Rattle.demands.specs.PlinkFile.{IsPlinkFile, variant_bit, genotype_in, ExtraBitsZero, copies_by}
use Rattle.demands.proofs.PlinkFileLaws.{i8_apart, float_apart}
use Rattle.demands.proofs.PlinkFile.{block_is_plink, call_is_plink, call_in_mode_0, accepted_is_plink, reading_is_plink, plink_is_accepted, written_is_plink, written_extra_zero, written_stands, canonical_is_plink, canonical_extra_zero, canonical_keeps_copies, canonical_keeps, canonical_trades}

-- the reference's example, of 6 samples and 3 variants
abbrev pub published : List ℕ
published = 0x6C ∷ 0x1B ∷ 0x01 ∷ 0xDC ∷ 0x0F ∷ 0xE7 ∷ 0x0F ∷ 0x6B ∷ 0x01 ∷ []

-- all its genotypes, variant by variant: DC 0F is 00, 11, 01, 11, 11, 11 and two pads, from the lowest bits on
pub published_genotypes :
    tabulate 3 (λ v. tabulate 6 (genotype_in published 6 v))
    ≡ (homozygous_first ∷ homozygous_second ∷ missing ∷ homozygous_second ∷ homozygous_second ∷ homozygous_second ∷ [])
    ∷ (homozygous_second ∷ missing ∷ heterozygous ∷ homozygous_second ∷ homozygous_second ∷ homozygous_second ∷ [])
    ∷ (homozygous_second ∷ heterozygous ∷ heterozygous ∷ missing ∷ missing ∷ homozygous_first ∷ [])
    ∷ []
unfolding tabulate genotype_in variant_bit block_bit plink_width genotype_of
published_genotypes = refl

-- ---- reading
published_accepted : IsAccepted published 6 3
unfolding accept_answer is_mode1 items blocks block_width
published_accepted = refl

published_mode : is_mode1 published ≡ true
unfolding is_mode1
published_mode = refl

pub published_is_plink : IsPlinkFile published 6 3
published_is_plink = accepted_is_plink published 6 3 published_accepted published_mode

pub published_back : IsAccepted published 6 3 × (is_mode1 published ≡ true)
published_back = plink_is_accepted published 6 3 published_is_plink (lit≤ tt) (lit≤ tt) (lit≤ tt)

-- sample 2 at variant 1 is heterozygous
pub published_block : copies (item_code (block published 6 1) 2) ≡ Some 1
unfolding genotype_in variant_bit block_bit plink_width genotype_of copies_of_first
published_block = block_is_plink published 6 1 2 (lit≤ tt)

pub published_call : copies (call_code published 6 3 2 1) ≡ Some 1
unfolding genotype_in variant_bit block_bit plink_width genotype_of copies_of_first
published_call = call_is_plink published 6 3 2 1 published_mode (lit≤ tt)

order_good : GoodList 6 (file_order 6) × GoodList 3 (file_order 3)
unfolding file_order tabulate first_bad is_good
order_good = (refl, refl)

-- everything read, marker by marker: its dosages, at every width
pub published_read :
    {V : Type 0} (w : Width V) (absent : V) (val : List V) → 18 ≡ length val
    → read_buffer w published 6 3 true (file_order 6) (file_order 3) absent false val
    ≡ w.two ∷ w.zero ∷ absent ∷ w.zero ∷ w.zero ∷ w.zero
    ∷ w.zero ∷ absent ∷ w.one ∷ w.zero ∷ w.zero ∷ w.zero
    ∷ w.zero ∷ w.one ∷ w.one ∷ absent ∷ absent ∷ w.two ∷ []
unfolding file_order tabulate matrix meant means genotype_in variant_bit block_bit plink_width genotype_of copies_by copies_of_first copies_value
published_read w absent val l =
    (reading_is_plink published 6 3 published_accepted published_mode w true absent false (file_order 6) (file_order 3) order_good.0 order_good.1 val l).1

-- samples −1 and 2 at variants 2 and −3, row by row, the other allele counted
abbrev pub some_samples : List ℤ
some_samples = negsuc 0 ∷ pos 2 ∷ []

abbrev pub some_variants : List ℤ
some_variants = pos 2 ∷ negsuc 2 ∷ []

some_good : GoodList 6 some_samples × GoodList 3 some_variants
unfolding first_bad is_good
some_good = (refl, refl)

pub published_picked :
    {V : Type 0} (w : Width V) (absent : V) (val : List V) → 4 ≡ length val
    → read_buffer w published 6 3 false some_samples some_variants absent true val ≡ w.zero ∷ w.two ∷ w.one ∷ absent ∷ []
unfolding tabulate matrix meant means genotype_in variant_bit block_bit plink_width genotype_of copies_by copies_of_second copies_value
published_picked w absent val l =
    (reading_is_plink published 6 3 published_accepted published_mode w false absent true some_samples some_variants some_good.0 some_good.1 val l).1

-- ---- writing
-- its dosages as i8, −127 where there is none
abbrev pub dosages : List ℤ
dosages =
    pos 2 ∷ pos 0 ∷ negsuc 126 ∷ pos 0 ∷ pos 0 ∷ pos 0
    ∷ pos 0 ∷ negsuc 126 ∷ pos 1 ∷ pos 0 ∷ pos 0 ∷ pos 0
    ∷ pos 0 ∷ pos 1 ∷ pos 1 ∷ negsuc 126 ∷ negsuc 126 ∷ pos 2 ∷ []

abbrev pub nine : List ℕ
nine = 9 ∷ 9 ∷ 9 ∷ 9 ∷ 9 ∷ 9 ∷ 9 ∷ 9 ∷ 9 ∷ []

-- what writing them leaves
abbrev pub written : List ℕ
written = write_buffer 6 3 (value_code i8 true (negsuc 126) false 6 3 dosages) (length dosages) nine

dosages_written : write_answer 6 3 (value_code i8 true (negsuc 126) false 6 3 dosages) (length dosages) (length nine) ≡ done []
unfolding write_answer check_buffers check_size check_call first_bad_call first_of if_bad value_code place_code matrix_place code_of same_int same_or_nan block_width
dosages_written = refl

-- the example's bytes
pub written_bytes : written ≡ published
unfolding write_buffer write_answer check_buffers check_size check_call first_bad_call first_of if_bad value_code place_code matrix_place code_of same_int same_or_nan
    bed_file joined packed packed_byte tabulate or_zero block_width if_done
written_bytes = refl

pub written_plink : IsPlinkFile written 6 3
written_plink = written_is_plink i8 i8_apart true (negsuc 126) false 6 3 dosages nine dosages_written

pub written_pads : ExtraBitsZero written 6 3
written_pads = written_extra_zero i8 i8_apart true (negsuc 126) false 6 3 dosages nine dosages_written

-- sample 2 is missing at variant 0, and sample 5 has two copies at variant 2
pub written_missing : genotype_in written 6 0 2 ≡ missing
unfolding matrix_place same_int
written_missing = (written_stands i8 i8_apart true (negsuc 126) false 6 3 dosages nine dosages_written 2 0 (lit≤ tt) (lit≤ tt)).is_missing_law refl refl refl

pub written_two : copies_by true (genotype_in written 6 2 5) ≡ Some 2
unfolding matrix_place same_int
written_two = (written_stands i8 i8_apart true (negsuc 126) false 6 3 dosages nine dosages_written 5 2 (lit≤ tt) (lit≤ tt)).two_copies refl

-- the f64 −0.0 is 0, where missing is 0 too
abbrev pub minus_zero : Float
minus_zero = fin true 0 (pos 0)

zero_written : write_answer 1 1 (value_code float true (fin false 0 (pos 0)) true 1 1 (minus_zero ∷ [])) 1 4 ≡ done []
unfolding write_answer check_buffers check_size check_call first_bad_call first_of if_bad value_code place_code matrix_place code_of eq same_or_nan block_width
zero_written = refl

pub zero_first : copies_by true (genotype_in (write_buffer 1 1 (value_code float true (fin false 0 (pos 0)) true 1 1 (minus_zero ∷ [])) 1 (9 ∷ 9 ∷ 9 ∷ 9 ∷ [])) 1 0 0) ≡ Some 0
unfolding matrix_place eq
zero_first =
    (written_stands float float_apart true (fin false 0 (pos 0)) true 1 1 (minus_zero ∷ []) (9 ∷ 9 ∷ 9 ∷ 9 ∷ []) zero_written 0 0 (lit≤ tt) (lit≤ tt)).zero_copies refl

-- ---- the canonical file
-- document 01's file of mode 0, 5 animals and 2 markers, and the example with pads that are not zero
abbrev pub padded : List ℕ
padded = 0x6C ∷ 0x1B ∷ 0x01 ∷ 0xDC ∷ 0xFF ∷ 0xE7 ∷ 0x5F ∷ 0x6B ∷ 0xA1 ∷ []

abbrev pub seven : List ℕ
seven = 9 ∷ 9 ∷ 9 ∷ 9 ∷ 9 ∷ 9 ∷ 9 ∷ []

mode_0_done : canonical_answer in_mode0 5 2 (length seven) ≡ done []
unfolding canonical_answer check_file check_size is_mode1 items blocks block_width
mode_0_done = refl

padded_done : canonical_answer padded 6 3 (length nine) ≡ done []
unfolding canonical_answer check_file check_size is_mode1 items blocks block_width
padded_done = refl

pub mode_0_plink : IsPlinkFile (canonical_buffer in_mode0 5 2 seven) 5 2
mode_0_plink = canonical_is_plink in_mode0 5 2 seven mode_0_done

pub mode_0_pads : ExtraBitsZero (canonical_buffer in_mode0 5 2 seven) 5 2
mode_0_pads = canonical_extra_zero in_mode0 5 2 seven mode_0_done

-- "F counted: .. 0, 0, 1, 2, 1": animal 3 at marker 1
pub mode_0_copies : copies_of_first (genotype_in (canonical_buffer in_mode0 5 2 seven) 5 1 3) ≡ Some 2
unfolding call_code code_in is_mode1 block block_width item_code code_at copies
mode_0_copies = canonical_keeps_copies in_mode0 5 2 seven mode_0_done 3 1 (lit≤ tt) (lit≤ tt)

mode_0 : is_mode1 in_mode0 ≡ false
unfolding is_mode1
mode_0 = refl

-- 0C is 00, 11, of the animal 0: at marker 1 it has no copy
pub mode_0_call : copies (call_code in_mode0 5 2 0 1) ≡ Some 0
unfolding genotype_in variant_bit block_bit plink_width genotype_of copies_of_first
mode_0_call = call_in_mode_0 in_mode0 5 2 0 1 mode_0 (lit≤ tt)

pub mode_0_traded : genotype_in (canonical_buffer in_mode0 5 2 seven) 5 1 0 ≡ homozygous_second
unfolding genotype_in variant_bit block_bit plink_width genotype_of
mode_0_traded = canonical_trades in_mode0 5 2 seven mode_0_done 0 1 (lit≤ tt) (lit≤ tt) mode_0

padded_mode : is_mode1 padded ≡ true
unfolding is_mode1
padded_mode = refl

pub padded_kept : genotype_in (canonical_buffer padded 6 3 nine) 6 2 5 ≡ homozygous_first
unfolding genotype_in variant_bit block_bit plink_width genotype_of
padded_kept = canonical_keeps padded 6 3 nine padded_done 5 2 (lit≤ tt) (lit≤ tt) padded_mode
