-- Each turn makes one byte new.
use Rattle.std.proofs.Common.{length}
use Rattle.bed_write.specs.Packing.{place_code, packed_codes}
use Rattle.bed_write.proofs.EncodeLaws.{Front}
use Rattle.bed_write.proofs.encode.pack.Given as goal

abbrev pub invariant-loop-b : goal.invariant-loop-b
invariant-loop-b g l =
    Front (packed_codes (length l.column) (place_code g.T.BedVal.width l.fn.coding.is_a1_counted l.fn.coding.missing l.column)) l.initial.out l.out l.b
