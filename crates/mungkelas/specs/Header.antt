-- What each call of the header answers, and what it leaves in the buffers that it writes: the definition that the core's function cites, told
-- by `bed_answer`. Parameters are in the header's order; then `r`, the answer, and each buffer that is written, before and after.
use Rattle.std.specs.Prelude.{◌≡◌, Bool, List, ℕ, ℤ, Float, length}
use Rattle.std.specs.Float.{binary64}
use Rattle.codes.specs.Value.{Width}
use Rattle.index.specs.declared.Index.{Index}
use Rattle.index.specs.Checks.{index_answer, index_buffer}
use Rattle.bed_read.specs.Reading.{read_answer, read_buffer}
use Rattle.bed_write.specs.Packing.{place_code, encode_answer, encode_buffer}
use Rattle.bed_write.specs.Writing.{value_code, write_answer, write_buffer}
use Rattle.call_counts.specs.Counts.{counts_answer, later_counts}
use Rattle.canonical.specs.Canonical.{canonical_answer, canonical_buffer}
use Rattle.standardise.specs.Standardised.{standardise_answer, later_values, later_stats}
use Rattle.read_standardised.specs.Joined.{joined_answer, joined_values, joined_stats}
use Rattle.product.specs.Piece.{ata_answer, ata_leaves, aat_answer, aat_leaves}
use Rattle.bed_answer.specs.declared.BedAnswer.{BedAnswer}
use Rattle.bed_answer.specs.Interface.{bed_answer}

-- `bed_read_i8`, `bed_read_f64`
abbrev pub BedRead :
    {V : Type 0} (w : Width V) → List ℕ → ℕ → ℕ → Bool → List ℤ → List ℤ → V → Bool → BedAnswer → List V → List V → Type 0
BedRead w file iids sids flag iid_list sid_list missing order r old new =
    (r ≡ bed_answer (read_answer file iids sids iid_list sid_list (length old)))
    × (new ≡ read_buffer w file iids sids flag iid_list sid_list missing order old)

-- `bed_count_calls`
abbrev pub BedCountCalls : List ℕ → ℕ → ℕ → List ℤ → List ℤ → BedAnswer → List ℕ → List ℕ → Type 0
BedCountCalls file iids sids iid_list sid_list r old new =
    (r ≡ bed_answer (counts_answer file iids sids iid_list sid_list (length old))) × (new ≡ later_counts file iids sids iid_list sid_list old)

-- `bed_canonical`
abbrev pub BedCanonical : List ℕ → ℕ → ℕ → BedAnswer → List ℕ → List ℕ → Type 0
BedCanonical file iids sids r old new =
    (r ≡ bed_answer (canonical_answer file iids sids (length old))) × (new ≡ canonical_buffer file iids sids old)

-- `bed_encode1_i8`, `bed_encode1_f64`
abbrev pub BedEncode1 : {V : Type 0} (w : Width V) → List V → Bool → V → BedAnswer → List ℕ → List ℕ → Type 0
BedEncode1 w column flag missing r old new =
    (r ≡ bed_answer (encode_answer (length column) (place_code w flag missing column) (length old)))
    × (new ≡ encode_buffer (length column) (place_code w flag missing column) old)

-- `bed_write_i8`, `bed_write_f64`
abbrev pub BedWrite : {V : Type 0} (w : Width V) → List V → ℕ → ℕ → Bool → Bool → V → BedAnswer → List ℕ → List ℕ → Type 0
BedWrite w val iids sids order flag missing r old new =
    (r ≡ bed_answer (write_answer iids sids (value_code w flag missing order iids sids val) (length val) (length old)))
    × (new ≡ write_buffer iids sids (value_code w flag missing order iids sids val) (length val) old)

-- `bed_impute_and_zero_mean_snps_f64`
abbrev pub BedStandardise : ℕ → ℕ → Bool → Bool → Bool → BedAnswer → List Float → List Float → List Float → List Float → Type 0
BedStandardise iids sids order apply use_stats r val val_after stats stats_after =
    (r ≡ bed_answer (standardise_answer binary64 order iids sids val use_stats stats))
    × (val_after ≡ later_values binary64 order iids sids val use_stats stats apply)
    × (stats_after ≡ later_stats binary64 order iids sids val use_stats stats)

-- `bed_read_standardised_f64`
abbrev pub BedReadStandardised :
    List ℕ → ℕ → ℕ → Bool → List ℤ → List ℤ → Bool → BedAnswer → List Float → List Float → List Float → List Float → Type 0
BedReadStandardised file iids sids flag iid_list sid_list order r val val_after stats stats_after =
    (r ≡ bed_answer (joined_answer binary64 file iids sids flag iid_list sid_list order val stats))
    × (val_after ≡ joined_values binary64 file iids sids flag iid_list sid_list order val stats)
    × (stats_after ≡ joined_stats binary64 file iids sids flag iid_list sid_list order val stats)

-- `bed_index_all` and the five that follow it, each by its index
abbrev pub BedIndex : Index → ℕ → BedAnswer → List ℤ → List ℤ → Type 0
BedIndex index count r old new =
    (r ≡ bed_answer (index_answer index count (length old))) × (new ≡ index_buffer index count old)

-- `bed_file_ata_piece`
abbrev pub BedAtaPiece : List ℕ → ℕ → ℕ → ℕ → ℕ → ℕ → ℕ → BedAnswer → List Float → List Float → Type 0
BedAtaPiece bytes offset rows columns start height width r old new =
    (r ≡ bed_answer (ata_answer bytes offset rows columns start height width old))
    × (new ≡ ata_leaves bytes offset rows columns start height width old)

-- `bed_file_aat_piece`
abbrev pub BedAatPiece : List ℕ → ℕ → ℕ → ℕ → ℕ → ℕ → ℕ → BedAnswer → List Float → List Float → Type 0
BedAatPiece bytes offset rows columns start height width r old new =
    (r ≡ bed_answer (aat_answer bytes offset rows columns start height width old))
    × (new ≡ aat_leaves bytes offset rows columns start height width old)
